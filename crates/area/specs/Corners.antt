-- Rectangles of pixels, by their corners.
use Rattle.std.specs.Prelude.{ℕ, Bool, cond, ◌&&◌, ℤ, pos, negsuc, ◌-ℤ◌, ◌≤ℤ◌, Ok, Err, Result, int_le, int_lt, unsigned_abs}
use Rattle.size.specs.declared.refusal.Refusal.{Refusal}
use Rattle.size.specs.declared.refusal.Refusal.TheVariants.{NoArea}

-- the pixels with left ≤ x < right and top ≤ y < bottom
pub record Corners : Type 0 where
  pub left : ℤ
  pub top : ℤ
  pub right : ℤ
  pub bottom : ℤ

-- from a to b: in order, and neither beyond 30,000 either way
abbrev pub Span : ℤ → ℤ → Type 0
Span a b = (a ≤ℤ b) × ((negsuc 29999 ≤ℤ a) × (b ≤ℤ pos 30000))

abbrev pub spans : ℤ → ℤ → Bool
spans a b = int_le a b && (int_le (negsuc 29999) a && int_le b (pos 30000))

-- these corners, where an area may have them
abbrev pub area_of : Corners → Result Corners Refusal
area_of c = cond (spans c.left c.right && spans c.top c.bottom) (Ok c) (Err NoArea)

abbrev pub width_of : Corners → ℕ
width_of c = unsigned_abs (c.right -ℤ c.left)

abbrev pub height_of : Corners → ℕ
height_of c = unsigned_abs (c.bottom -ℤ c.top)

abbrev pub sides_of : Corners → ℕ × ℕ
sides_of c = (width_of c, height_of c)

-- whether the pixel in column x and row y is one of these
abbrev pub holds : Corners → ℤ → ℤ → Bool
holds c x y = (int_le c.left x && int_lt x c.right) && (int_le c.top y && int_lt y c.bottom)
