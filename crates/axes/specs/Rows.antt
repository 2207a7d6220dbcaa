-- Key values come in rows, one row for each step.
use Rattle.std.specs.Prelude.{ℕ, cond, List, [], ◌∷◌, length, nat_le}

-- the row of the first step that gives at most m, and none where every step gives more
abbrev pub first_row : {V : Type 0} → (ℕ → List V) → List ℕ → ℕ → List V
first_row row [] m = []
first_row row (s ∷ ss) m = cond (nat_le (length (row s)) m) (row s) (first_row row ss m)
