-- A size of any kind, by the rule of its kind.
use Rattle.std.specs.Prelude.{ℕ, ℤ, pos, Some, Result}
use Rattle.size.specs.declared.refusal.Refusal.{Refusal}
use Rattle.size.specs.declared.kinds.Size.{Size}
use Rattle.size.specs.declared.kinds.Size.TheVariants.{Pixels, Unsigned, Real, Relative, Bounded}
use Rattle.size.specs.Sizes.{limited, dropped}
use Rattle.size.specs.Relatives.{relative, with_bounds}

abbrev pub size_of : Size → ℕ × ℕ → Result ℤ Refusal
size_of (Pixels n) d = limited (Some n)
size_of (Unsigned n) d = limited (Some (pos n))
size_of (Real x) d = limited (dropped x)
size_of (Relative s) d = relative s d
size_of (Bounded s) d = with_bounds s d
