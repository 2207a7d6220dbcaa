-- Places and key values written out: one table, which the checker computes.
use Rattle.std.specs.Prelude.{◌≡◌, ℕ, List, [], ◌∷◌, map, ℤ, pos}
use Rattle.std.specs.List.{range_with_len}
use Rattle.coord.specs.Hints.{bold_hint}
use Rattle.axes.specs.Whole.{whole_axis}
use Rattle.axes.specs.Stations.{station_axis}
use Rattle.axes.specs.declared.station.Station.TheVariants.{Centre}

pub data Asked : Type 0 where
  -- the place of v on the axis from lo to hi, for the limits a and b
  placed : (lo hi v a b : ℤ) → Asked
  -- the key values from lo to hi, at most so many
  keyed : (lo hi : ℤ) (most : ℕ) → Asked
  -- the centres of n stations, for the limits a and b
  centred : (n : ℕ) (a b : ℤ) → Asked

abbrev pub answer_of : Asked → List ℤ
answer_of (placed lo hi v a b) = (whole_axis lo hi).place v a b ∷ []
answer_of (keyed lo hi most) = (whole_axis lo hi).keys (bold_hint most)
answer_of (centred n a b) = map (λ i. (station_axis n).place (Centre i) a b) (range_with_len 0 n)

pub record Sample : Type 0 where
  pub asked : Asked
  pub answer : List ℤ

abbrev pub table : List Sample
table =
    record { asked = placed (pos 0) (pos 10) (pos 3) (pos 35) (pos 194); answer = pos 82 ∷ [] }
    ∷ record { asked = placed (pos 0) (pos 10) (pos 3) (pos 194) (pos 35); answer = pos 147 ∷ [] }
    ∷ record { asked = keyed (pos 0) (pos 10) 10; answer = pos 0 ∷ pos 2 ∷ pos 4 ∷ pos 6 ∷ pos 8 ∷ pos 10 ∷ [] }
    ∷ record { asked = centred 4 (pos 0) (pos 9); answer = pos 1 ∷ pos 3 ∷ pos 5 ∷ pos 7 ∷ [] }
    ∷ []

-- each row of the table is what the definitions say
abbrev pub TableHolds : Type 0
TableHolds = map (λ s. answer_of s.asked) table ≡ map (λ s. s.answer) table
