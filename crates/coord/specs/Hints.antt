-- What is asked of the key values of an axis.
use Rattle.std.specs.Prelude.{ℕ, Bool, true, false}
use Rattle.coord.specs.declared.hint.KeyPointWeight.{KeyPointWeight}
use Rattle.coord.specs.declared.hint.KeyPointWeight.TheVariants.{Bold, Any}

abbrev pub allows_light : KeyPointWeight → Bool
allows_light Bold = false
allows_light Any = true

-- at most so many in all, at most so many bold ones, and which are wanted
pub record Hint : Type 0 where
  pub most : ℕ
  pub bold : ℕ
  pub weight : KeyPointWeight

abbrev pub bold_hint : ℕ → Hint
bold_hint n = record { most = n; bold = n; weight = Bold }

abbrev pub light_hint : ℕ → ℕ → Hint
light_hint n limit = record { most = limit; bold = n; weight = Any }
