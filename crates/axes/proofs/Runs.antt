-- The multiples of a step in a range: how many there are, and which is the k-th.
use Rattle.std.proofs.Common.{◌≡◌, ℕ, zero, suc, ◌+◌, ◌-◌, ◌*◌, ◌/◌, ◌%◌, ◌<◌, ◌≤◌, min, eqb, List, [], ◌∷◌, map, length, ℤ, pos, negsuc, ◌+ℤ◌, ◌-ℤ◌, nat_abs, ◌≤ℤ◌, Some, None, filter, sym, refl, ap, ◌∙◌, subst, ⊎_elim, mod-lt, add-zero, add-mul, div-add-mod', div-mul-le_self, arith}
use native.Mathlib.Nat.{add-mul-mod_self_right, mul-mod_left, add-mod, mod-mod, lt-div-mul-add}
use lib.Arith.{digits_div}
use Rattle.std.specs.List.{range_with_len, slice_get}
use Rattle.std.proofs.lemmas.Nat.{le-div, mul-le}
use Rattle.std.proofs.lemmas.List.FromFn.{length-map-range_with_len, get_or-map-range_with_len}
use Rattle.std.proofs.lemmas.Option.{slice_get-get_or, slice_get_past}
use Rattle.std.proofs.lemmas.Int.{ints}
use Rattle.std.proofs.lemmas.Bool.{cases_eq, eq-eqb, ne_eqb, eqb-true, eqb-false, cond_both}
use Rattle.axes.specs.Shares.{up_of}
use Rattle.axes.specs.Runs.{nth_of, run, Spans}
use Rattle.axes.specs.Whole.{divides, multiples}

-- ---- rounding up

up_at : (q s r : ℕ) → 0 < s → 0 < r → r ≤ s → up_of s (q * s + r) ≡ q + 1
up_at q s r p h k =
    let e : q * s + r + (s - 1) ≡ (q + 1) * s + (r - 1) = omega (arith, add-mul q 1 s) in
    let l : r - 1 < s = omega arith in
    rw e (digits_div (q + 1) l)

up_even : (q s : ℕ) → 0 < s → up_of s (q * s) ≡ q
up_even q s p = let l : s - 1 < s = omega arith in digits_div q l

-- past a multiple of s one more begins
up_multiple : (s x : ℕ) → 0 < s → x % s ≡ 0 → (up_of s (x + 1) ≡ up_of s x + 1) × (up_of s x * s ≡ x)
up_multiple s x p z =
    let e : x ≡ x / s * s = omega (arith, div-add-mod' x s) in
    let here : up_of s x ≡ x / s = ap (up_of s) e ∙ up_even (x / s) s p in
    let next : up_of s (x + 1) ≡ x / s + 1 = ap (λ (n : ℕ). up_of s (n + 1)) e ∙ up_at (x / s) s 1 p (omega arith) (omega arith) in
    (next ∙ ap (λ (n : ℕ). n + 1) (sym here), ap (λ (n : ℕ). n * s) here ∙ sym e)

up_other : (s x : ℕ) → 0 < s → (x % s ≡ 0 → ⊥) → up_of s (x + 1) ≡ up_of s x
up_other s x p n =
    let e : x ≡ x / s * s + x % s = sym (div-add-mod' x s) in
    let l : x % s < s = mod-lt x p in
    let m : 0 < x % s = omega arith in
    let f : x + 1 ≡ x / s * s + (x % s + 1) = omega arith in
    let next : up_of s (x + 1) ≡ x / s + 1 = ap (up_of s) f ∙ up_at (x / s) s (x % s + 1) p (omega arith) (omega arith) in
    let here : up_of s x ≡ x / s + 1 = ap (up_of s) e ∙ up_at (x / s) s (x % s) p m (omega arith) in
    next ∙ sym here

-- `div_ceil` rounds up
pub up_is : (s x : ℕ) → 0 < s → x / s + min 1 (x % s) ≡ up_of s x
up_is s x p =
    let e : x ≡ x / s * s + x % s = sym (div-add-mod' x s) in
    let l : x % s < s = mod-lt x p in
    ⊎_elim
    (λ z.
    let f : x ≡ x / s * s = omega arith in
    let m : min 1 (x % s) ≡ 0 = omega arith in
    ap (λ (n : ℕ). x / s + n) m ∙ add-zero (x / s) ∙ sym (ap (up_of s) f ∙ up_even (x / s) s p))
    (λ n.
    let o : 0 < x % s = omega arith in
    let m : min 1 (x % s) ≡ 1 = omega arith in
    ap (λ (n : ℕ). x / s + n) m ∙ sym (ap (up_of s) e ∙ up_at (x / s) s (x % s) p o (omega arith)))
    (cases_eq (x % s) 0)

pub up_mono : (s x n : ℕ) → 0 < s → up_of s x ≤ up_of s (x + n)
up_mono s x n p = le-div (up_of s x) (x + n + (s - 1)) s p (omega (arith, div-mul-le_self (x + (s - 1)) s))

-- ---- a multiple stays one if it is moved by c steps

same_test : (a b : ℕ) → (a ≡ 0 → b ≡ 0) → (b ≡ 0 → a ≡ 0) → eqb a 0 ≡ eqb b 0
same_test a b f g =
    ⊎_elim (λ e. eq-eqb a 0 e ∙ sym (eq-eqb b 0 (f e))) (λ n. ne_eqb a 0 n ∙ sym (ne_eqb b 0 (λ k. n (g k)))) (cases_eq a 0)

-- of two numbers that add up to a multiple, both are multiples or neither is
other_too : (y n s : ℕ) → (y + n) % s ≡ 0 → n % s ≡ 0 → y % s ≡ 0
other_too y n s e z =
    let f : (y % s + n % s) % s ≡ 0 = sym (add-mod y n s) ∙ e in
    let h : y % s + n % s ≡ y % s = omega arith in
    sym (mod-mod y s) ∙ ap (λ (k : ℕ). k % s) (sym h) ∙ f

moved : (s c : ℕ) (z : ℤ) (y : ℕ) → z +ℤ pos (c * s) ≡ pos y → divides s z ≡ eqb (y % s) 0
moved s c (pos n) y e =
    let f : n + c * s ≡ y = omega (arith, ints) in
    ap (λ (k : ℕ). eqb k 0) (sym (add-mul-mod_self_right n c s) ∙ ap (λ (k : ℕ). k % s) f)
moved s c (negsuc n) y e =
    let f : y + suc n ≡ c * s = omega (arith, ints) in
    let g : suc n + y ≡ c * s = omega arith in
    let z : (y + suc n) % s ≡ 0 = ap (λ (k : ℕ). k % s) f ∙ mul-mod_left c s in
    let z' : (suc n + y) % s ≡ 0 = ap (λ (k : ℕ). k % s) g ∙ mul-mod_left c s in
    same_test (suc n % s) (y % s) (other_too y (suc n) s z) (other_too (suc n) y s z')

-- ---- the multiples

module _ (lo : ℤ) (s c w : ℕ) (p : 0 < s) (e : lo +ℤ pos (c * s) ≡ pos w) where
  here : (j : ℕ) → divides s (lo +ℤ pos j) ≡ eqb ((w + j) % s) 0
  here j = moved s c (lo +ℤ pos j) (w + j) (omega (arith, ints))

  run_none : (u v : ℕ) → v ≡ u → [] ≡ run s c u v
  run_none u v h = let d : v - u ≡ 0 = omega arith in rw d refl

  run_next : (u v u' v' : ℕ) (x : ℤ) (l : List ℤ) → u' ≡ u + 1 → v' ≡ v → u' ≤ v' → x ≡ nth_of s c u → l ≡ run s c u' v' → x ∷ l ≡ run s c u v
  run_next u v u' v' x l f g h i j =
      let d : v - u ≡ suc (v - (u + 1)) = omega arith in
      rw (d, i, j, f, g) refl

  run_same : (u v u' v' : ℕ) (l : List ℤ) → u' ≡ u → v' ≡ v → l ≡ run s c u' v' → l ≡ run s c u v
  run_same u v u' v' l f g h = cc

  kept : (n j : ℕ) → filter (divides s) (map (λ k. lo +ℤ pos k) (range_with_len j n)) ≡ run s c (up_of s (w + j)) (up_of s (w + j + n))
  kept zero j =
      let z : w + j + 0 ≡ w + j = omega arith in
      run_none (up_of s (w + j)) (up_of s (w + j + 0)) (ap (up_of s) z)
  kept (suc n) j =
      let a : w + (j + 1) ≡ w + j + 1 = omega arith in
      let b : w + (j + 1) + n ≡ w + j + suc n = omega arith in
      let rest = filter (divides s) (map (λ k. lo +ℤ pos k) (range_with_len (j + 1) n)) in
      let u = up_of s (w + j) in
      let v = up_of s (w + j + suc n) in
      let u' = up_of s (w + (j + 1)) in
      let v' = up_of s (w + (j + 1) + n) in
      cond_both (divides s (lo +ℤ pos j)) ((lo +ℤ pos j) ∷ rest) rest (λ l. l ≡ run s c u v)
      (λ t.
      let m = up_multiple s (w + j) p (eqb-true ((w + j) % s) 0 (sym (here j) ∙ t)) in
      run_next u v u' v' (lo +ℤ pos j) rest (ap (up_of s) a ∙ m.0) (ap (up_of s) b) (up_mono s (w + (j + 1)) n p) (omega (arith, ints, m.1)) (kept n (j + 1)))
      (λ t.
      let m = up_other s (w + j) p (eqb-false ((w + j) % s) 0 (sym (here j) ∙ t)) in
      run_same u v u' v' rest (ap (up_of s) a ∙ m) (ap (up_of s) b) (kept n (j + 1)))

-- the multiples of s from lo to hi, which are w and v after c steps
pub multiples_are : (lo hi : ℤ) (s c w v : ℕ) → 0 < s → lo ≤ℤ hi → lo +ℤ pos (c * s) ≡ pos w → hi +ℤ pos (c * s) ≡ pos v → multiples s lo hi ≡ run s c (up_of s w) (up_of s (v + 1))
multiples_are lo hi s c w v p h d e =
    let a : w + 0 ≡ w = omega arith in
    let b : w + 0 + (nat_abs (hi -ℤ lo) + 1) ≡ v + 1 = omega (arith, ints) in
    kept lo s c w p d (nat_abs (hi -ℤ lo) + 1) 0 ∙ ap (λ (n : ℕ). run s c (up_of s n) (up_of s (w + 0 + (nat_abs (hi -ℤ lo) + 1)))) a ∙ ap (λ (n : ℕ). run s c (up_of s w) (up_of s n)) b

pub run_length : (s c u v : ℕ) → length (run s c u v) ≡ v - u
run_length s c u v = length-map-range_with_len (nth_of s c) u (v - u)

pub run_nth : (s c u v k : ℕ) → k < v - u → slice_get (run s c u v) k ≡ Some (nth_of s c (u + k))
run_nth s c u v k h =
    let l : k < length (run s c u v) = omega (arith, run_length s c u v) in
    slice_get-get_or (run s c u v) k (pos 0) l ∙ ap Some (get_or-map-range_with_len (nth_of s c) u (v - u) k (u + k) (pos 0) h refl)

pub run_past : (s c u v k : ℕ) → v - u ≤ k → slice_get (run s c u v) k ≡ None
run_past s c u v k h = slice_get_past (run s c u v) k (omega (arith, run_length s c u v))

-- such a multiple lies between the two ends
pub up_reaches : (s w : ℕ) → 0 < s → w ≤ up_of s w * s
up_reaches s w p = omega (arith, lt-div-mul-add {a = w + (s - 1)} p)

pub below_up : (s v q : ℕ) → 0 < s → q < up_of s (v + 1) → q * s ≤ v
below_up s v q p h =
    omega (arith, div-mul-le_self (v + 1 + (s - 1)) s, mul-le (q + 1) s (up_of s (v + 1)) s (omega arith) (omega arith), add-mul q 1 s)

-- ---- the multiples in a range

pub spans : (lo hi lo' end : ℤ) (s u v : ℕ) → 0 < s → negsuc 1999999 ≤ℤ lo → lo ≤ℤ hi → lo' ≡ lo → end ≡ hi +ℤ pos 1 → u ≡ up_of s (nat_abs (lo' +ℤ pos (2000000 * s))) → v ≡ up_of s (nat_abs (end +ℤ pos (2000000 * s))) → Spans lo hi s u v
spans lo hi lo' end s u v p g h d e i j =
    let m = 2000000 * s in
    let low = nat_abs (lo +ℤ pos m) in
    let high = nat_abs (hi +ℤ pos m) in
    let a : lo +ℤ pos m ≡ pos low = omega (arith, ints) in
    let b : hi +ℤ pos m ≡ pos high = omega (arith, ints) in
    let f : nat_abs (lo' +ℤ pos m) ≡ low = omega (arith, ints) in
    let k : nat_abs (end +ℤ pos m) ≡ high + 1 = omega (arith, ints) in
    let x : u ≡ up_of s low = i ∙ ap (up_of s) f in
    let y : v ≡ up_of s (high + 1) = j ∙ ap (up_of s) k in
    let z : low + (high + 1 - low) ≡ high + 1 = omega (arith, ints) in
    let reach : low ≤ u * s = subst (λ (n : ℕ). low ≤ n * s) (sym x) (up_reaches s low p) in
    record {
      are = multiples_are lo hi s 2000000 low high p h a b ∙ ap (λ (n : ℕ). run s 2000000 n (up_of s (high + 1))) (sym x) ∙ ap (run s 2000000 u) (sym y);
      ordered = omega (arith, x, y, up_mono s low (high + 1 - low) p, ap (up_of s) z);
      above = λ q t. omega (arith, ints, reach, mul-le u s q s t (omega arith));
      below = λ q t. omega (arith, ints, below_up s high q p (omega (arith, y)));
    }
