-- A side of the code, by its ends.
use Rattle.std.specs.Prelude.{◌≡◌, true, false, ◌&&◌, ℤ, Ok, Err, Result}
use Rattle.size.specs.declared.refusal.Refusal.{Refusal}
use Rattle.size.specs.declared.refusal.Refusal.TheVariants.{NoArea}
use Rattle.area.specs.declared.side.Side.{Side}
use Rattle.area.specs.Corners.{spans}

-- the answer is the side with these ends, or a refusal where no side may have them
abbrev pub IsSide : ℤ → ℤ → Result Side Refusal → Type 0
IsSide from to (Ok s) = (spans from to ≡ true) × (s.from ≡ from) × (s.to ≡ to)
IsSide from to (Err e) = (spans from to ≡ false) × (e ≡ NoArea)

-- the answer is the two sides that meet at the middle, or a refusal where one of them may not be
abbrev pub AreSides : ℤ → ℤ → ℤ → Result (Side × Side) Refusal → Type 0
AreSides from middle to (Ok p) = IsSide from middle (Ok p.0) × IsSide middle to (Ok p.1)
AreSides from middle to (Err e) = ((spans from middle && spans middle to) ≡ false) × (e ≡ NoArea)
