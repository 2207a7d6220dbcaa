-- One key value taken off those that are left.
use Rattle.std.proofs.Common.{◌≡◌, ℕ, zero, suc, ◌+◌, ◌<◌, List, [], ◌∷◌, length, drop, refl, arith, length-drop}
use native.Mathlib.Numerals.{unary_clauses}
use Rattle.std.specs.Option.{MatchOption}
use Rattle.std.specs.List.{slice_get}

pub first_left : {V : Type 0} (xs : List V) (k : ℕ) → k < length xs → MatchOption (slice_get xs k) ((drop k xs ≡ []) × (drop (k + 1) xs ≡ [])) (λ x. drop k xs ≡ x ∷ drop (k + 1) xs)
first_left [] k h = absurd (omega arith)
first_left (x ∷ xs) zero h = refl
first_left (x ∷ xs) (suc k) h = simp unary_clauses (simp unary_clauses at (first_left xs k (omega arith)))

pub fewer_left : {V : Type 0} (xs : List V) (k : ℕ) → k < length xs → length (drop (k + 1) xs) < length (drop k xs)
fewer_left xs k h = simp length-drop (omega arith)
