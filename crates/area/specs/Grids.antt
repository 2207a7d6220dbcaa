-- An area cut into columns and rows.
use Rattle.std.specs.Prelude.{ℕ, ◌+◌, ◌*◌, ◌/◌, ◌%◌, min, cond, ◌&&◌, List, ◌++◌, map, drop, ℤ, pos, ◌+ℤ◌, ◌-ℤ◌, Ok, Err, Result, nat_le, unsigned_abs}
use Rattle.std.specs.List.{range_with_len}
use Rattle.size.specs.declared.refusal.Refusal.{Refusal}
use Rattle.size.specs.declared.refusal.Refusal.TheVariants.{Range, Short}
use Rattle.area.specs.Corners.{Corners}

-- the cell in row r and column k, where column i begins at `xs i` and row i at `ys i`
abbrev pub cell_of : (ℕ → ℤ) → (ℕ → ℤ) → ℕ → ℕ → Corners
cell_of xs ys r k = record { left = xs k; top = ys r; right = xs (k + 1); bottom = ys (r + 1) }

-- the k-th cell, row by row
abbrev pub cell_on : (ℕ → ℤ) → (ℕ → ℤ) → ℕ → ℕ → Corners
cell_on xs ys cols k = cell_of xs ys (k / cols) (k % cols)

abbrev pub grid_of : (ℕ → ℤ) → (ℕ → ℤ) → ℕ → ℕ → List Corners
grid_of xs ys rows cols = map (cell_on xs ys cols) (range_with_len 0 (rows * cols))

-- what a slice holds then: the cells, and past them what it held
abbrev pub grid_into : (ℕ → ℤ) → (ℕ → ℤ) → ℕ → ℕ → List Corners → List Corners
grid_into xs ys rows cols old = grid_of xs ys rows cols ++ drop (rows * cols) old

-- neither count is over 1,000
abbrev pub few_both : {X : Type 0} → ℕ → ℕ → Result X Refusal → Result X Refusal
few_both n m r = cond (nat_le n 1000 && nat_le m 1000) r (Err Range)

-- how many cells, where there is room for them
abbrev pub counted : ℕ → ℕ → ℕ → Result ℕ Refusal
counted rows cols room = cond (nat_le (rows * cols) room) (Ok (rows * cols)) (Err Short)

-- ---- even parts: they differ by at most one pixel, the larger ones first

-- where part i of n parts of `size` pixels begins
abbrev pub part : ℕ → ℕ → ℕ → ℕ
part size n i = i * (size / n) + min i (size % n)

-- where part i of n even parts begins, from `from` to `to`
abbrev pub even_cut : ℤ → ℤ → ℕ → ℕ → ℤ
even_cut from to n i = from +ℤ pos (part (unsigned_abs (to -ℤ from)) n i)

abbrev pub columns : Corners → ℕ → ℕ → ℤ
columns c cols = even_cut c.left c.right cols

abbrev pub rows : Corners → ℕ → ℕ → ℤ
rows c n = even_cut c.top c.bottom n

abbrev pub evenly : Corners → ℕ → ℕ → List Corners
evenly c n cols = grid_of (columns c cols) (rows c n) n cols

abbrev pub even_into : Corners → ℕ → ℕ → List Corners → List Corners
even_into c n cols old = grid_into (columns c cols) (rows c n) n cols old

abbrev pub even_answer : ℕ → ℕ → ℕ → Result ℕ Refusal
even_answer n cols room = few_both n cols (counted n cols room)
