-- A place part of the way from a to b: it lies between them, and mirrors.
use Rattle.std.specs.Prelude.{◌≡◌, ℕ, zero, suc, ◌*◌, ◌/◌, ◌≤◌, ℤ, pos, negsuc, ◌+ℤ◌, ◌-ℤ◌, ◌*ℤ◌, neg_ℤ, ◌≤ℤ◌, FitsSigned, int_div, refl}
use Rattle.std.proofs.Common.{sym, ap, ◌∙◌, zero-mul, arith}
use Rattle.std.proofs.Math.Nat.{zero-div, div-le_of_le-mul}
use Rattle.std.proofs.Math.IntN.{neg_ℤ-neg_ℤ}
use Rattle.std.specs.Int.{w64}
use Rattle.std.proofs.lemmas.Int.{ints, clamps}
use Rattle.std.proofs.lemmas.Nat.{mul-le}
use Rattle.coord.specs.Axis.{Between}
use Rattle.axes.specs.Shares.{moved_by}

below_run : (n u d : ℕ) → u ≤ d → n * u / d ≤ n
below_run n u d h = div-le_of_le-mul d (omega (arith, mul-le n u n d (omega arith) h))

-- cut toward zero, a quotient is odd
share_neg : (m d : ℕ) → int_div (neg_ℤ (pos m)) (pos d) ≡ neg_ℤ (pos (m / d))
share_neg zero d = ap pos (zero-div d) ∙ ap (λ (n : ℕ). neg_ℤ (pos n)) (sym (zero-div d))
share_neg (suc m) d = refl

share_odd : (x : ℤ) (u d : ℕ) → int_div (neg_ℤ x *ℤ pos u) (pos d) ≡ neg_ℤ (int_div (x *ℤ pos u) (pos d))
share_odd (pos zero) u d = rw (zero-mul u, zero-div d) refl
share_odd (pos (suc n)) u d = share_neg (suc n * u) d
share_odd (negsuc n) u d = sym (ap neg_ℤ (share_neg (suc n * u) d) ∙ neg_ℤ-neg_ℤ (pos (suc n * u / d)))

-- a share is no longer than the run, and goes the same way
share_within : (x : ℤ) (u d : ℕ) → u ≤ d → Between (pos 0) x (int_div (x *ℤ pos u) (pos d))
share_within (pos n) u d h =
    let k = below_run n u d h in
    record { least = omega (arith, ints, clamps); most = omega (arith, ints, clamps) }
share_within (negsuc n) u d h =
    let k = below_run (suc n) u d h in
    let e = share_neg (suc n * u) d in
    record { least = rw e (omega (arith, ints, clamps)); most = rw e (omega (arith, ints, clamps)) }

pub share_bounds : (x p w : ℤ) → pos 0 ≤ℤ p → p ≤ℤ w → Between (pos 0) x (int_div (x *ℤ p) w)
share_bounds x (pos u) (pos d) h k = share_within x u d (omega (arith, ints))
share_bounds x (pos u) (negsuc d) h k = absurd (omega (arith, ints))
share_bounds x (negsuc u) w h k = absurd (omega (arith, ints))

share_mirror : (x p w : ℤ) → pos 0 ≤ℤ p → p ≤ℤ w → int_div (neg_ℤ x *ℤ p) w ≡ neg_ℤ (int_div (x *ℤ p) w)
share_mirror x (pos u) (pos d) h k = share_odd x u d
share_mirror x (pos u) (negsuc d) h k = absurd (omega (arith, ints))
share_mirror x (negsuc u) w h k = absurd (omega (arith, ints))

-- a product of numbers that are small enough fits 64 bits
pub product_fits : (x p : ℤ) → negsuc 59999 ≤ℤ x → x ≤ℤ pos 60000 → pos 0 ≤ℤ p → p ≤ℤ pos 4000000 → FitsSigned w64 (x *ℤ p)
product_fits (pos n) (pos u) g h i j = omega (arith, ints, mul-le n u 60000 4000000 (omega (arith, ints)) (omega (arith, ints)))
product_fits (negsuc n) (pos u) g h i j = omega (arith, ints, mul-le (suc n) u 60000 4000000 (omega (arith, ints)) (omega (arith, ints)))
product_fits x (negsuc u) g h i j = absurd (omega (arith, ints))

module _ (a b p w : ℤ) (h : pos 0 ≤ℤ p) (k : p ≤ℤ w) where
  pub moved_inside : Between a b (moved_by a b p w)
  moved_inside =
      let n = share_bounds (b -ℤ a) p w h k in
      record { least = omega (arith, ints, clamps); most = omega (arith, ints, clamps) }

  pub moved_mirror : moved_by a b p w +ℤ moved_by b a p w ≡ a +ℤ b
  moved_mirror =
      let e : a -ℤ b ≡ neg_ℤ (b -ℤ a) = omega (arith, ints) in
      let o : int_div ((a -ℤ b) *ℤ p) w ≡ neg_ℤ (int_div ((b -ℤ a) *ℤ p) w) = rw e (share_mirror (b -ℤ a) p w h k) in
      omega (arith, ints)
