-- One or two areas out of one. Each size is one in that area, and the refusal is the first in the order of the arguments.
use Rattle.std.specs.Prelude.{ℕ, ℤ, ◌+ℤ◌, ◌-ℤ◌, Ok, Err, Result}
use Rattle.std.specs.Int.{int_max, int_min}
use Rattle.size.specs.declared.refusal.Refusal.{Refusal}
use Rattle.area.specs.Corners.{Corners, area_of, sides_of}

-- a size: what it comes to in a parent of these sides
abbrev pub Sized : Type 0
Sized = ℕ × ℕ → Result ℤ Refusal

-- the refusal, or what comes of the value
abbrev pub then : {X Y : Type 0} → Result X Refusal → (X → Result Y Refusal) → Result Y Refusal
then (Ok x) f = f x
then (Err e) f = Err e

-- ---- margins

abbrev pub inset : Corners → ℤ → ℤ → ℤ → ℤ → Corners
inset c top bottom left right = record { left = c.left +ℤ left; top = c.top +ℤ top; right = c.right -ℤ right; bottom = c.bottom -ℤ bottom }

abbrev pub margined : Corners → Sized → Sized → Sized → Sized → Result Corners Refusal
margined c top bottom left right =
    then (top (sides_of c)) (λ t. then (bottom (sides_of c)) (λ b. then (left (sides_of c)) (λ l. then (right (sides_of c)) (λ r. area_of (inset c t b l r)))))

-- ---- a part by its upper left corner, which does not pass the lower right one, and its sides, which are at least 0

abbrev pub begin_of : ℤ → ℤ → ℤ → ℤ
begin_of from to start = int_min to (from +ℤ start)

abbrev pub end_of : ℤ → ℤ → ℤ
end_of begin length = int_max begin (begin +ℤ length)

abbrev pub shrunk_to : Corners → ℤ → ℤ → ℤ → ℤ → Corners
shrunk_to c left upper width height =
    let x = begin_of c.left c.right left in
    let y = begin_of c.top c.bottom upper in
    record { left = x; top = y; right = end_of x width; bottom = end_of y height }

abbrev pub shrunk : Corners → Sized → Sized → Sized → Sized → Result Corners Refusal
shrunk c left upper width height =
    then (left (sides_of c)) (λ l. then (upper (sides_of c)) (λ u. then (width (sides_of c)) (λ w. then (height (sides_of c)) (λ h. area_of (shrunk_to c l u w h)))))

-- ---- two parts, cut at a row or at a column

abbrev pub paired : {X : Type 0} → Result X Refusal → Result X Refusal → Result (X × X) Refusal
paired a b = then a (λ x. then b (λ y. Ok (x, y)))

abbrev pub above : Corners → ℤ → Corners
above c y = record { left = c.left; top = c.top; right = c.right; bottom = c.top +ℤ y }

abbrev pub below : Corners → ℤ → Corners
below c y = record { left = c.left; top = c.top +ℤ y; right = c.right; bottom = c.bottom }

abbrev pub left_of : Corners → ℤ → Corners
left_of c x = record { left = c.left; top = c.top; right = c.left +ℤ x; bottom = c.bottom }

abbrev pub right_of : Corners → ℤ → Corners
right_of c x = record { left = c.left +ℤ x; top = c.top; right = c.right; bottom = c.bottom }

abbrev pub cut_down : Corners → Sized → Result (Corners × Corners) Refusal
cut_down c size = then (size (sides_of c)) (λ y. paired (area_of (above c y)) (area_of (below c y)))

abbrev pub cut_across : Corners → Sized → Result (Corners × Corners) Refusal
cut_across c size = then (size (sides_of c)) (λ x. paired (area_of (left_of c x)) (area_of (right_of c x)))
