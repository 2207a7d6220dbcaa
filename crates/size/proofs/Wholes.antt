-- Floats as whole numbers within 30,000 either way. Assumes nothing.
use Rattle.std.proofs.Common.{◌≡◌, ℕ, zero, suc, ◌+◌, ◌-◌, ◌*◌, ◌/◌, ◌^◌, ◌<◌, ◌≤◌, min, Bool, true, false, cond, ltb, ℤ, pos, negsuc, neg_ℤ, Some, Ok, Err, sym, refl, ap, ◌∙◌, div-lt_iff_lt-mul, add_comm, mul-pos, le-div_iff_mul-le, mul-one, mul-div_cancel, arith, ltb-false, ltb-true}
use mathlib.Core.Bool.{false≢true}
use lib.Ieee.{Float, nan, inf, fin, up, down, binary64, lt, neg, of_bits, to_signed}
use lib.Ieee.Fits.{up_pos, down_pos}
use lib.Ieee.Exact.{HasValue}
use lib.Ieee.Back.{round_whole}
use Rattle.std.proofs.lemmas.Bool.Decides.{nat_tests}
use Rattle.std.specs.Float.{round_with, float_round}
use Rattle.size.specs.declared.refusal.Refusal.TheVariants.{Range}
use Rattle.size.specs.Sizes.{signed, cut, half_up, whole, limited}

near : (s : Bool) (q : ℕ) → q ≤ 30000 → limited (Some (signed s q)) ≡ Ok (signed s q)
near true zero h = refl
near true (suc q) h = grind (arith, nat_tests)
near false q h = grind (arith, nat_tests)

far : (s : Bool) (q : ℕ) → 30000 < q → limited (Some (signed s q)) ≡ Err Range
far true zero h = absurd (omega arith)
far true (suc q) h = grind (arith, nat_tests)
far false q h = grind (arith, nat_tests)

-- ---- a limit b * 2 ^ g of the size, below which `way` gives at most 30,000, and from which on more

pub record Limit (way : ℕ → ℕ → ℕ) (b : ℕ) (g : ℤ) : Type 0 where
  pub some : 0 < b
  pub under : (n d : ℕ) → 0 < d → n * down g < b * up g * d → way n d ≤ 30000
  pub over : (n d : ℕ) → 0 < d → b * up g * d ≤ n * down g → 30000 < way n d

pub by_cut : Limit cut 30001 (pos 0)
by_cut = record {
  some = omega arith;
  under = λ n d p h. let k : n < 30001 * d = omega arith in let r : n / d < 30001 = (div-lt_iff_lt-mul p).1 k in omega arith;
  over = λ n d p h. (le-div_iff_mul-le p).1 (omega arith);
}

pub by_half : Limit half_up 60001 (negsuc 0)
by_half = record {
  some = omega arith;
  under = λ n d p h.
      let q : 0 < 2 * d = omega arith in
      let k : 2 * n + d < 30001 * (2 * d) = omega arith in
      let r : (2 * n + d) / (2 * d) < 30001 = (div-lt_iff_lt-mul q).1 k in omega arith;
  over = λ n d p h. let q : 0 < 2 * d = omega arith in (le-div_iff_mul-le q).1 (omega arith);
}

module _ {way : ℕ → ℕ → ℕ} {b : ℕ} {g : ℤ} (l : Limit way b g) where
  -- the size passes the limit's test exactly if it is under the limit
  size_under : (m : ℕ) (e : ℤ) → ltb (m * up e * down g) (b * up g * down e) ≡ true → way (m * up e) (down e) ≤ 30000
  size_under m e h = l.under (m * up e) (down e) (down_pos e) (ltb-true _ _ h)

  size_over : (m : ℕ) (e : ℤ) → ltb (m * up e * down g) (b * up g * down e) ≡ false → 30000 < way (m * up e) (down e)
  size_over m e h = l.over (m * up e) (down e) (down_pos e) (ltb-false _ _ h)

  -- below true a false b, and a positive limit
  apart : (m : ℕ) (e : ℤ) (n : ℕ) → ltb 0 (n + b * up g * down e) ≡ false → ⊥
  apart m e n h =
      let p : 0 < b * up g = mul-pos l.some (up_pos g) in
      let q : 0 < b * up g * down e = mul-pos p (down_pos e) in
      let z : n + b * up g * down e ≤ 0 = ltb-false _ _ h in omega arith

  pub out_high : (x : Float) → lt x (fin false b g) ≡ false → limited (whole way x) ≡ Err Range
  unfolding lt
  out_high nan h = refl
  out_high (inf s) h = refl
  out_high (fin false m e) h = far false _ (size_over m e h)
  out_high (fin true m e) h = absurd (apart m e (m * up e * down g) h)

  pub out_low : (x : Float) → lt (fin true b g) x ≡ false → limited (whole way x) ≡ Err Range
  unfolding lt
  out_low nan h = refl
  out_low (inf s) h = refl
  out_low (fin true m e) h = far true _ (size_over m e h)
  out_low (fin false m e) h = absurd (apart m e (m * up e * down g) (rw add_comm h))

  -- what passes both tests is finite, and its whole number is within the limit
  pub Passed : Float → Type 0
  Passed nan = ⊥
  Passed (inf s) = ⊥
  Passed (fin s m e) = way (m * up e) (down e) ≤ 30000

  pub passed : (x : Float) → lt (fin true b g) x ≡ true → lt x (fin false b g) ≡ true → Passed x
  unfolding lt Passed
  passed nan h k = false≢true h
  passed (inf true) h k = false≢true h
  passed (inf false) h k = false≢true k
  passed (fin true m e) h k = size_under m e h
  passed (fin false m e) h k = size_under m e k

-- ---- the casts

cast_is : (s : Bool) (n c : ℕ) → n ≤ 30000 → c ≡ n → cond s (neg_ℤ (pos (min c (2 ^ 31)))) (pos (min c (2 ^ 31 - 1))) ≡ signed s n
cast_is true n c h e = ap (λ (k : ℕ). neg_ℤ (pos k)) (omega arith)
cast_is false n c h e = ap pos (omega arith)

pub dropped_is : (x : Float) → Passed by_cut x → limited (whole cut x) ≡ Ok (to_signed 31 x)
unfolding to_signed Passed
dropped_is nan h = absurd h
dropped_is (inf s) h = absurd h
dropped_is (fin s m e) h = near s _ h ∙ ap Ok (sym (cast_is s (m * up e / down e) (m * up e / down e) h refl))

value_cast : (x : Float) (s : Bool) (n : ℕ) → n ≤ 30000 → HasValue x s n 1 → to_signed 31 x ≡ signed s n
unfolding to_signed
value_cast nan s n h v = absurd v
value_cast (inf t) s n h v = absurd v
value_cast (fin t m e) s n h v =
    rw v.0
    (cast_is s n (m * up e / down e) h
    (let q : m * up e ≡ n * down e = sym (mul-one (m * up e)) ∙ v.1 in ap (λ (x : ℕ). x / down e) q ∙ mul-div_cancel n (down_pos e)))

pub nearest_is : (x : Float) → Passed by_half x → limited (whole half_up x) ≡ Ok (to_signed 31 (float_round binary64 x))
unfolding round_with Passed
nearest_is nan h = absurd h
nearest_is (inf s) h = absurd h
nearest_is (fin true m e) h =
    near true _ h ∙ ap Ok (sym (value_cast _ true (half_up (m * up e) (down e)) h (round_whole binary64 true (half_up (m * up e) (down e)) (omega arith))))
nearest_is (fin false m e) h =
    near false _ h ∙ ap Ok (sym (value_cast _ false (half_up (m * up e) (down e)) h (round_whole binary64 false (half_up (m * up e) (down e)) (omega arith))))

-- ---- the limits as the code writes them

pub cut_limit : of_bits binary64 0x40dd_4c40_0000_0000 ≡ fin false 30001 (pos 0)
unfolding of_bits
cut_limit = refl

pub half_limit : of_bits binary64 0x40dd_4c20_0000_0000 ≡ fin false 60001 (negsuc 0)
unfolding of_bits
half_limit = refl

pub neg_is : (m : ℕ) (e : ℤ) (x : Float) → x ≡ fin false m e → neg x ≡ fin true m e
unfolding neg
neg_is m e x h = ap neg h
