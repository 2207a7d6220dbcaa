-- The cells of a grid hold each pixel once; even parts differ by at most one. Assumes nothing.
use Rattle.std.proofs.Common.{◌≡◌, ℕ, zero, suc, ◌+◌, ◌-◌, ◌*◌, ◌/◌, ◌%◌, ◌<◌, ◌≤◌, min, List, length, ℤ, pos, ◌+ℤ◌, ◌-ℤ◌, nat_abs, ◌≤ℤ◌, ◌<ℤ◌, sym, ap, ◌∙◌, subst, ⊎_elim, mul_comm, add-mul, arith}
use Rattle.std.proofs.lemmas.Int.{ints, by_lt_z}
use Rattle.std.proofs.lemmas.Nat.{div-add-mod', div-mul-add, mod-mul-add, div_below, mod_below, mul-add-lt}
use Rattle.std.proofs.lemmas.List.FromFn.{length-map-range_with_len, get_or-map-range_with_len}
use Rattle.std.proofs.lemmas.Bool.{cases_order}
use Rattle.area.specs.Corners.{Corners, width_of, height_of}
use Rattle.area.specs.Grids.{cell_of, cell_on, grid_of, part, columns, rows, evenly}
use Rattle.area.specs.Tilings.{Inside, nowhere, nth_cell, OnlyIn, Tiles, OneMore, cell_at, Even, EvenTiling}

-- ---- places that ascend cut a line into parts

-- the first n + 1 places ascend
abbrev pub Ascending : (ℕ → ℤ) → ℕ → Type 0
Ascending f n = (i : ℕ) → i < n → f i ≤ℤ f (i + 1)

far : (f : ℕ → ℤ) (n : ℕ) → Ascending f n → (i d : ℕ) → i + d ≤ n → f i ≤ℤ f (i + d)
far f n up i zero h = let e : i + 0 ≡ i = omega arith in let P : ℕ → Type 0 = λ j. f i ≤ℤ f j in subst P (sym e) (omega (arith, ints))
far f n up i (suc d) h =
    let a : f i ≤ℤ f (i + d) = far f n up i d (omega arith) in
    let b : f (i + d) ≤ℤ f (i + d + 1) = up (i + d) (omega arith) in
    let e : i + d + 1 ≡ i + suc d = omega arith in
    let P : ℕ → Type 0 = λ j. f i ≤ℤ f j in subst P e (omega (arith, ints))

pub later : (f : ℕ → ℤ) (n : ℕ) → Ascending f n → (i j : ℕ) → i ≤ j → j ≤ n → f i ≤ℤ f j
later f n up i j p q =
    let e : i + (j - i) ≡ j = omega arith in
    let P : ℕ → Type 0 = λ k. f i ≤ℤ f k in subst P e (far f n up i (j - i) (omega arith))

-- x lies in part k
pub record In (f : ℕ → ℤ) (x : ℤ) (k : ℕ) : Type 0 where
  pub from : f k ≤ℤ x
  pub to : x <ℤ f (k + 1)

pub found : (f : ℕ → ℤ) (n : ℕ) (x : ℤ) → f 0 ≤ℤ x → x <ℤ f n → (k : ℕ) × ((k < n) × In f x k)
found f zero x p q = absurd (omega (arith, ints))
found f (suc n) x p q =
    by_lt_z x (f n)
    (λ lt. let r = found f n x p lt in (r.0, (omega (arith, r.1.0), r.1.1)))
    (λ ge. let e : suc n ≡ n + 1 = omega arith in
    let P : ℕ → Type 0 = λ j. x <ℤ f j in
    (n, (omega arith, record { from = ge; to = subst P e q })))

apart : (f : ℕ → ℤ) (n : ℕ) → Ascending f n → (x : ℤ) (j k : ℕ) → j < k → k < n → In f x j → In f x k → ⊥
apart f n up x j k lt h a b = let m : f (j + 1) ≤ℤ f k = later f n up (j + 1) k (omega arith) (omega arith) in let p = a.to in let q = b.from in omega (arith, ints)

pub same_part : (f : ℕ → ℤ) (n : ℕ) → Ascending f n → (x : ℤ) (j k : ℕ) → j < n → k < n → In f x j → In f x k → j ≡ k
same_part f n up x j k p q a b =
    ⊎_elim (λ e. e) (⊎_elim (λ lt. absurd (apart f n up x j k lt q a b)) (λ gt. absurd (apart f n up x k j gt p b a))) (cases_order j k)

-- ---- a grid

module _ (xs ys : ℕ → ℤ) (rs cols : ℕ) where
  cell_is : (k : ℕ) → k < rs * cols → nth_cell (grid_of xs ys rs cols) k ≡ cell_on xs ys cols k
  cell_is k h = get_or-map-range_with_len (cell_on xs ys cols) 0 (rs * cols) k k nowhere h (omega arith)

  cell_in : (r k : ℕ) → r < rs → k < cols → nth_cell (grid_of xs ys rs cols) (r * cols + k) ≡ cell_of xs ys r k
  cell_in r k p q =
      cell_is (r * cols + k) (omega (arith, mul-add-lt r cols k rs p q))
      ∙ ap (λ i. cell_of xs ys i ((r * cols + k) % cols)) (div-mul-add r cols k q)
      ∙ ap (cell_of xs ys r) (mod-mul-add r cols k q)

  long : length (grid_of xs ys rs cols) ≡ rs * cols
  long = length-map-range_with_len (cell_on xs ys cols) 0 (rs * cols)

  module _ (across : Ascending xs cols) (down : Ascending ys rs) where
    -- a pixel of a cell, by its column and its row
    parted : (x y : ℤ) (j : ℕ) → j < rs * cols → Inside (nth_cell (grid_of xs ys rs cols) j) x y
        → (j % cols < cols) × ((j / cols < rs) × (In xs x (j % cols) × In ys y (j / cols)))
    parted x y j lt h =
        let some : 0 < cols = search arith in
        let P : Corners → Type 0 = λ c. Inside c x y in
        let i = subst P (cell_is j lt) h in
        (mod_below j cols some, (div_below j cols rs some lt, (record { from = i.from_left; to = i.to_right }, record { from = i.from_top; to = i.to_bottom })))

    once : (x y : ℤ) (k r : ℕ) → k < cols → r < rs → In xs x k → In ys y r → OnlyIn (grid_of xs ys rs cols) x y (r * cols + k)
    once x y k r p q a b =
        let P : Corners → Type 0 = λ c. Inside c x y in
        let n = long in
        record {
          within = omega (arith, mul-add-lt r cols k rs q p);
          there = subst P (sym (cell_in r k q p)) (record { from_left = a.from; to_right = a.to; from_top = b.from; to_bottom = b.to });
          only = λ j lt h.
              let i = parted x y j (omega arith) h in
              let e : j % cols ≡ k = same_part xs cols across x (j % cols) k i.0 p i.1.1.0 a in
              let f : j / cols ≡ r = same_part ys rs down y (j / cols) r i.1.0 q i.1.1.1 b in
              let g : j / cols * cols ≡ r * cols = ap (λ (m : ℕ). m * cols) f in
              omega (arith, div-add-mod' j cols);
        }

    pub grid_tiles : (c : Corners) → c.left ≡ xs 0 → c.right ≡ xs cols → c.top ≡ ys 0 → c.bottom ≡ ys rs → Tiles c (grid_of xs ys rs cols)
    grid_tiles c l r t b = record {
      once = λ x y h.
          let h0 = h.from_left in
          let h1 = h.to_right in
          let h2 = h.from_top in
          let h3 = h.to_bottom in
          let i = found xs cols x (omega (arith, ints)) (omega (arith, ints)) in
          let j = found ys rs y (omega (arith, ints)) (omega (arith, ints)) in
          (j.0 * cols + i.0, once x y i.0 j.0 i.1.0 j.1.0 i.1.1 j.1.1);
      no_more = λ k lt x y h.
          let n = long in
          let i = parted x y k (omega arith) h in
          let a0 = later xs cols across 0 (k % cols) (omega arith) (omega (arith, i.0)) in
          let a1 = later xs cols across (k % cols + 1) cols (omega (arith, i.0)) (omega arith) in
          let b0 = later ys rs down 0 (k / cols) (omega arith) (omega (arith, i.1.0)) in
          let b1 = later ys rs down (k / cols + 1) rs (omega (arith, i.1.0)) (omega arith) in
          let u = i.1.1.0 in
          let v = i.1.1.1 in
          record { from_left = omega (arith, ints); to_right = omega (arith, ints); from_top = omega (arith, ints); to_bottom = omega (arith, ints) };
    }

-- ---- even parts

part_more : (s n i : ℕ) → part s n i ≤ part s n (i + 1)
part_more s n i = omega (arith, add-mul i 1 (s / n))

part_all : (s n : ℕ) → 0 < n → part s n n ≡ s
part_all s n h = omega (arith, div-add-mod' s n, mul_comm n (s / n), mod_below s n h)

ascends : (a : ℤ) (s n m : ℕ) → Ascending (λ i. a +ℤ pos (part s n i)) m
ascends a s n m i h = omega (arith, ints, part_more s n i)

whole : (a b : ℤ) → a ≤ℤ b → a +ℤ pos (nat_abs (b -ℤ a)) ≡ b
whole a b h = omega (arith, ints)

gap : (a : ℤ) (p q : ℕ) → p ≤ q → nat_abs ((a +ℤ pos q) -ℤ (a +ℤ pos p)) ≡ q - p
gap a p q h = omega (arith, ints)

-- how large a part is
part_size : (a : ℤ) (s n i : ℕ) → nat_abs ((a +ℤ pos (part s n (i + 1))) -ℤ (a +ℤ pos (part s n i))) ≡ s / n + (min (i + 1) (s % n) - min i (s % n))
part_size a s n i = gap a (part s n i) (part s n (i + 1)) (part_more s n i) ∙ omega (arith, add-mul i 1 (s / n))

-- a part that is not later is as large, or larger by one
one_more : (a : ℤ) (s n i j : ℕ) → i ≤ j
    → OneMore (nat_abs ((a +ℤ pos (part s n (i + 1))) -ℤ (a +ℤ pos (part s n i)))) (nat_abs ((a +ℤ pos (part s n (j + 1))) -ℤ (a +ℤ pos (part s n j))))
one_more a s n i j h =
    let p = part_size a s n i in
    let q = part_size a s n j in
    record { not_less = omega arith; by_one = omega arith }

module _ (c : Corners) (n cols : ℕ) where
  pub evenly_tiles : c.left ≤ℤ c.right → c.top ≤ℤ c.bottom → 0 < n → 0 < cols → Tiles c (evenly c n cols)
  evenly_tiles w h p q =
      let across : (a : ℤ) (s m : ℕ) → 0 < m → a +ℤ pos (part s m m) ≡ a +ℤ pos s = λ a s m lt. ap (λ (k : ℕ). a +ℤ pos k) (part_all s m lt) in
      grid_tiles (columns c cols) (rows c n) n cols (ascends c.left (width_of c) cols cols) (ascends c.top (height_of c) n n) c
      (omega (arith, ints)) (sym (across c.left (width_of c) cols q ∙ whole c.left c.right w))
      (omega (arith, ints)) (sym (across c.top (height_of c) n p ∙ whole c.top c.bottom h))

  pub evenly_even : Even (evenly c n cols) n cols
  evenly_even =
      let xs = columns c cols in
      let ys = rows c n in
      let one = cell_in xs ys n cols in
      record {
        wide = λ r s i j p q h k.
            let P : Corners → Type 0 = λ d. OneMore (width_of d) (width_of (cell_at (evenly c n cols) cols s j)) in
            let Q : Corners → Type 0 = λ d. OneMore (width_of (cell_of xs ys r i)) (width_of d) in
            subst P (sym (one r i p (omega arith))) (subst Q (sym (one s j q k)) (one_more c.left (width_of c) cols i j h));
        high = λ r s i j p q h k.
            let P : Corners → Type 0 = λ d. OneMore (height_of d) (height_of (cell_at (evenly c n cols) cols s j)) in
            let Q : Corners → Type 0 = λ d. OneMore (height_of (cell_of xs ys r i)) (height_of d) in
            subst P (sym (one r i (omega arith) p)) (subst Q (sym (one s j k q)) (one_more c.top (height_of c) n r s h));
      }

  pub evenly_law : c.left ≤ℤ c.right → c.top ≤ℤ c.bottom → (cells : List Corners) → cells ≡ evenly c n cols → EvenTiling c n cols cells
  evenly_law w h cells e =
      let P : List Corners → Type 0 = EvenTiling c n cols in
      subst P (sym e) (record { tiles = evenly_tiles w h; even = evenly_even })
