-- Sizes and splits written out: one table, which the checker computes.
use Rattle.std.specs.Prelude.{◌≡◌, ℕ, true, false, List, [], ◌∷◌, map, ℤ, pos, negsuc, Some, Ok, Err, Result, Float}
use Rattle.std.specs.Float.{fin, nan, inf, binary64}
use Rattle.std.specs.Float.Ieee.{div, of_int}
use Rattle.size.specs.declared.refusal.Refusal.{Refusal}
use Rattle.size.specs.declared.refusal.Refusal.TheVariants.{Range}
use Rattle.size.specs.declared.relative.RelativeSize.TheVariants.{Width, Height, Smaller}
use Rattle.size.specs.declared.kinds.Size.{Size}
use Rattle.size.specs.declared.kinds.Size.TheVariants.{Pixels, Unsigned, Real, Relative, Bounded}
use Rattle.size.specs.Kinds.{size_of}
use Rattle.size.specs.Sizes.{hundred, hundredth}
use Rattle.area.specs.Corners.{width_of}
use Rattle.area.specs.Grids.{evenly}

abbrev pub half : Float
half = fin false 1 (negsuc 0)

abbrev pub minus_half : Float
minus_half = fin true 1 (negsuc 0)

abbrev pub twelve_percent : Float
twelve_percent = hundredth (of_int binary64 (pos 12))

abbrev pub tenths : ℤ → Float
tenths n = div binary64 (of_int binary64 n) (of_int binary64 (pos 10))

pub record SizeSample : Type 0 where
  pub size : Size
  pub parent : ℕ × ℕ
  pub answer : Result ℤ Refusal

pub record PartSample : Type 0 where
  pub pixels : ℕ
  pub parts : ℕ
  pub widths : List ℕ

abbrev pub size_table : List SizeSample
size_table =
    record { size = Relative (Width half); parent = (101, 7); answer = Ok (pos 51) }
    ∷ record { size = Relative (Width minus_half); parent = (101, 7); answer = Ok (negsuc 50) }
    ∷ record { size = Relative (Height half); parent = (101, 7); answer = Ok (pos 4) }
    ∷ record { size = Relative (Smaller half); parent = (101, 7); answer = Ok (pos 4) }
    ∷ record { size = Relative (Width twelve_percent); parent = (100, 7); answer = Ok (pos 12) }
    ∷ record { size = Bounded (record { size = Width twelve_percent; min = Some (pos 40); max = Some (pos 60) }); parent = (100, 7); answer = Ok (pos 40) }
    ∷ record { size = Bounded (record { size = Width twelve_percent; min = Some (pos 60); max = Some (pos 40) }); parent = (100, 7); answer = Ok (pos 40) }
    ∷ record { size = Relative (Width half); parent = (59999, 7); answer = Ok (pos 30000) }
    ∷ record { size = Relative (Width half); parent = (60001, 7); answer = Err Range }
    ∷ record { size = Relative (Width nan); parent = (101, 7); answer = Err Range }
    ∷ record { size = Relative (Width (inf true)); parent = (101, 7); answer = Err Range }
    ∷ record { size = Real (tenths (pos 300009)); parent = (0, 0); answer = Ok (pos 30000) }
    ∷ record { size = Real (tenths (negsuc 300008)); parent = (0, 0); answer = Ok (negsuc 29999) }
    ∷ record { size = Real (tenths (pos 300010)); parent = (0, 0); answer = Err Range }
    ∷ record { size = Unsigned 4294967291; parent = (0, 0); answer = Err Range }
    ∷ record { size = Pixels (negsuc 29999); parent = (0, 0); answer = Ok (negsuc 29999) }
    ∷ record { size = Pixels (negsuc 30000); parent = (0, 0); answer = Err Range }
    ∷ []

abbrev pub part_table : List PartSample
part_table =
    record { pixels = 10; parts = 3; widths = 4 ∷ 3 ∷ 3 ∷ [] }
    ∷ record { pixels = 2; parts = 3; widths = 1 ∷ 1 ∷ 0 ∷ [] }
    ∷ []

-- each row of the table is what the definitions say
abbrev pub TableHolds : Type 0
TableHolds =
    (map (λ s. size_of s.size s.parent) size_table ≡ map (λ s. s.answer) size_table)
    × (map (λ p. map width_of (evenly (record { left = pos 0; top = pos 0; right = pos p.pixels; bottom = pos 1 }) 1 p.parts)) part_table
    ≡ map (λ p. p.widths) part_table)
    × (hundred ≡ of_int binary64 (pos 100))
