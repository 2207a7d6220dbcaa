-- The axis of the whole numbers from lo to hi.
use Rattle.std.specs.Prelude.{ℕ, zero, suc, ◌+◌, ◌*◌, ◌%◌, Bool, cond, ◌&&◌, List, [], ◌∷◌, map, ℤ, pos, negsuc, ◌+ℤ◌, ◌-ℤ◌, ◌≤ℤ◌, Ok, Err, filter, Result, ◌==◌, int_le, int_lt, unsigned_abs}
use Rattle.std.specs.List.{range_with_len}
use Rattle.std.specs.Int.{int_min, int_max}
use Rattle.size.specs.declared.refusal.Refusal.{Refusal}
use Rattle.size.specs.declared.refusal.Refusal.TheVariants.{Scale}
use Rattle.coord.specs.Axis.{Axis}
use Rattle.axes.specs.Rows.{first_row}
use Rattle.axes.specs.Shares.{moved_by}

-- the ends of an axis: in order, and neither beyond 2,000,000 either way
abbrev pub Ends : ℤ → ℤ → Type 0
Ends lo hi = (lo ≤ℤ hi) × ((negsuc 1999999 ≤ℤ lo) × (hi ≤ℤ pos 2000000))

abbrev pub ends_of : ℤ → ℤ → Result (ℤ × ℤ) Refusal
ends_of lo hi = cond (int_le lo hi && (int_le (negsuc 1999999) lo && int_le hi (pos 2000000))) (Ok (lo, hi)) (Err Scale)

-- ---- places

-- v held to lo..hi
abbrev pub held_to : ℤ → ℤ → ℤ → ℤ
held_to lo hi v = int_max lo (int_min v hi)

abbrev pub whole_place_of : ℤ → ℤ → ℤ → ℤ → ℤ → ℤ
whole_place_of lo hi v a b = cond (int_lt lo hi) (moved_by a b (held_to lo hi v -ℤ lo) (hi -ℤ lo)) a

-- ---- key values

-- the whole numbers from lo to hi, ascending
abbrev pub spread : ℤ → ℤ → List ℤ
spread lo hi = map (λ k. lo +ℤ pos k) (range_with_len 0 (unsigned_abs (hi -ℤ lo) + 1))

abbrev pub divides : ℕ → ℤ → Bool
divides s z = unsigned_abs z % s == 0

abbrev pub multiples : ℕ → ℤ → ℤ → List ℤ
multiples s lo hi = filter (divides s) (spread lo hi)

-- three steps for each power of ten: 1, 2, 5, 10, 20, 50 and so on
abbrev pub steps_from : ℕ → ℕ → List ℕ
steps_from p zero = []
steps_from p (suc n) = p ∷ (2 * p) ∷ (5 * p) ∷ steps_from (10 * p) n

-- those to 5,000,000
abbrev pub steps : List ℕ
steps = steps_from 1 7

-- the multiples of the first step that gives at most m of them
unfoldable pub whole_keys : ℤ → ℤ → ℕ → List ℤ
whole_keys lo hi m = first_row (λ s. multiples s lo hi) steps m

-- ---- the axis; it shows all from a to b

abbrev pub whole_axis : ℤ → ℤ → Axis ℤ
whole_axis lo hi = record {
  place = whole_place_of lo hi;
  keys = λ h. whole_keys lo hi h.most;
  low = int_min;
  high = int_max;
}
