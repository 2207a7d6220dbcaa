-- The refusals by their numbers. `Device` holds the device's own number and how many marks the call had put, and `NoMark` the byte of the stream at which none starts; the others hold nothing.
use Rattle.std.specs.Prelude.{ℕ, List, ◌++◌, codes, decimal}
use Rattle.size.specs.declared.refusal.Refusal.{Refusal}
use Rattle.size.specs.declared.refusal.Refusal.TheVariants.{Range, NoArea, NoPlot, Overlap, LongText, NoMeasure, Device, Scale, Short, NoMark}

abbrev pub number_of : Refusal → ℕ
number_of Range = 1
number_of NoArea = 2
number_of NoPlot = 3
number_of Overlap = 4
number_of LongText = 5
number_of NoMeasure = 6
number_of (Device number count) = 7
number_of Scale = 8
number_of Short = 9
number_of (NoMark place) = 10

-- how a refusal prints
abbrev pub refused_text : Refusal → List ℕ
refused_text e = codes "refused " ++ decimal (number_of e)
