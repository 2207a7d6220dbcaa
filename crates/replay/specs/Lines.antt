-- How many words of a line are still to be read.
use Rattle.std.specs.Prelude.{ℕ, ◌<◌, length, OnOk, Result}
use Rattle.replay.specs.declared.words.Words.{Words}

abbrev pub left : Words → ℕ
left w = length w.rest.now

-- a reading that takes a word or more where it does not fail
abbrev pub Takes : {X E : Type 0} → Result X E → Words → Words → Type 0
Takes r old new = OnOk r (left new < left old)
