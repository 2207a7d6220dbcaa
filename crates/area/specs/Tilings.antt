-- What holds of the cells of a grid.
use Rattle.std.specs.Prelude.{◌≡◌, ℕ, ◌+◌, ◌*◌, ◌<◌, ◌≤◌, List, length, ℤ, pos, ◌≤ℤ◌, ◌<ℤ◌, slice_index_or}
use Rattle.area.specs.Corners.{Corners, width_of, height_of}

-- the pixel in column x and row y is one of these
pub record Inside (c : Corners) (x y : ℤ) : Type 0 where
  pub from_left : c.left ≤ℤ x
  pub to_right : x <ℤ c.right
  pub from_top : c.top ≤ℤ y
  pub to_bottom : y <ℤ c.bottom

abbrev pub nowhere : Corners
nowhere = record { left = pos 0; top = pos 0; right = pos 0; bottom = pos 0 }

-- the k-th cell
abbrev pub nth_cell : List Corners → ℕ → Corners
nth_cell cells k = slice_index_or cells k nowhere

-- the pixel is in the k-th cell, and in no other
pub record OnlyIn (cells : List Corners) (x y : ℤ) (k : ℕ) : Type 0 where
  pub within : k < length cells
  pub there : Inside (nth_cell cells k) x y
  pub only : (j : ℕ) → j < length cells → Inside (nth_cell cells j) x y → j ≡ k

-- each pixel of c is in exactly one cell, and no cell has others
pub record Tiles (c : Corners) (cells : List Corners) : Type 0 where
  pub once : (x y : ℤ) → Inside c x y → (k : ℕ) × OnlyIn cells x y k
  pub no_more : (k : ℕ) → k < length cells → (x y : ℤ) → Inside (nth_cell cells k) x y → Inside c x y

-- m is n or one more
pub record OneMore (m n : ℕ) : Type 0 where
  pub not_less : n ≤ m
  pub by_one : m ≤ n + 1

-- the cell in row r and column k
abbrev pub cell_at : List Corners → ℕ → ℕ → ℕ → Corners
cell_at cells cols r k = nth_cell cells (r * cols + k)

-- columns differ in width by at most one pixel, the wider ones first; so do rows in height
pub record Even (cells : List Corners) (rows cols : ℕ) : Type 0 where
  pub wide : (r s i j : ℕ) → r < rows → s < rows → i ≤ j → j < cols → OneMore (width_of (cell_at cells cols r i)) (width_of (cell_at cells cols s j))
  pub high : (r s i j : ℕ) → i < cols → j < cols → r ≤ s → s < rows → OneMore (height_of (cell_at cells cols r i)) (height_of (cell_at cells cols s j))

-- an even split: where there are rows and columns, each pixel lies in one cell
pub record EvenTiling (c : Corners) (rows cols : ℕ) (cells : List Corners) : Type 0 where
  pub tiles : 0 < rows → 0 < cols → Tiles c cells
  pub even : Even cells rows cols
