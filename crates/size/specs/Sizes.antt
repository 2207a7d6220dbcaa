-- What a size comes to, in whole pixels.
use Rattle.std.specs.Prelude.{ℕ, ◌+◌, ◌*◌, ◌/◌, Bool, cond, ◌&&◌, ℤ, pos, negsuc, neg_ℤ, ◌≤ℤ◌, Some, None, Ok, Err, Option, Result, from_bits, int_le, Float}
use Rattle.std.specs.Float.{nan, inf, fin, binary64}
use Rattle.std.specs.Float.Ieee.{up, down, mul, div, of_int}
use Rattle.size.specs.declared.refusal.Refusal.{Refusal}
use Rattle.size.specs.declared.refusal.Refusal.TheVariants.{Range}

abbrev pub signed : Bool → ℕ → ℤ
signed s n = cond s (neg_ℤ (pos n)) (pos n)

-- the fraction n / d as a whole number: cut, and to the nearest with halves up
abbrev pub cut : ℕ → ℕ → ℕ
cut n d = n / d

abbrev pub half_up : ℕ → ℕ → ℕ
half_up n d = (2 * n + d) / (2 * d)

-- A float as a whole number, its size taken by `way` and its sign kept; none where it is not finite. A finite one is m * 2 ^ e, the fraction m * up e / down e.
abbrev pub whole : (ℕ → ℕ → ℕ) → Float → Option ℤ
whole way nan = None
whole way (inf s) = None
whole way (fin s m e) = Some (signed s (way (m * up e) (down e)))

-- the fraction dropped
abbrev pub dropped : Float → Option ℤ
dropped = whole cut

-- to the nearest whole number, halves away from zero
abbrev pub nearest : Float → Option ℤ
nearest = whole half_up

-- a size ends within 30,000 either way
abbrev pub within : ℤ → Bool
within z = int_le (negsuc 29999) z && int_le z (pos 30000)

abbrev pub Near : ℤ → Type 0
Near z = (negsuc 29999 ≤ℤ z) × (z ≤ℤ pos 30000)

abbrev pub Within : Result ℤ Refusal → Type 0
Within (Ok z) = Near z
Within (Err e) = Unit {0}

abbrev pub limited : Option ℤ → Result ℤ Refusal
limited None = Err Range
limited (Some z) = cond (within z) (Ok z) (Err Range)

-- one product, rounded once, then to the nearest whole number
abbrev pub share : Float → ℕ → Result ℤ Refusal
share p side = limited (nearest (mul binary64 p (of_int binary64 (pos side))))

-- 100 as an f64, by its bits
abbrev pub hundred : Float
hundred = from_bits binary64 4636737291354636288

-- so many percent, as a share
abbrev pub hundredth : Float → Float
hundredth x = div binary64 x hundred
