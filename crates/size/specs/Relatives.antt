use Rattle.std.specs.Prelude.{ℕ, min, ℤ, Some, None, Ok, Err, Option, Result}
use Rattle.std.specs.Int.{int_max, int_min}
use Rattle.size.specs.declared.refusal.Refusal.{Refusal}
use Rattle.size.specs.declared.relative.RelativeSize.{RelativeSize}
use Rattle.size.specs.declared.relative.RelativeSize.TheVariants.{Height, Width, Smaller}
use Rattle.size.specs.declared.relative.RelativeSizeWithBound.{RelativeSizeWithBound}
use Rattle.size.specs.Sizes.{share, limited}

-- in a parent that is w by h
abbrev pub relative : RelativeSize → ℕ × ℕ → Result ℤ Refusal
relative (Height p) d = share p d.1
relative (Width p) d = share p d.0
relative (Smaller p) d = share p (min d.0 d.1)

abbrev pub raised : Option ℤ → ℤ → ℤ
raised None z = z
raised (Some low) z = int_max low z

abbrev pub lowered : Option ℤ → ℤ → ℤ
lowered None z = z
lowered (Some high) z = int_min high z

-- raised to the lower bound, then cut to the upper
abbrev pub bounded : Option ℤ → Option ℤ → Result ℤ Refusal → Result ℤ Refusal
bounded low high (Ok z) = limited (Some (lowered high (raised low z)))
bounded low high (Err e) = Err e

abbrev pub with_bounds : RelativeSizeWithBound → ℕ × ℕ → Result ℤ Refusal
with_bounds b d = bounded b.min b.max (relative b.size d)
