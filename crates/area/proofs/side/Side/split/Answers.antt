use Rattle.std.proofs.Common.{◌≡◌, true, ◌+ℤ◌, refl, arith, w32, SFits}
use Rattle.std.proofs.lemmas.Int.{ints, to_z-of_z}
use Rattle.area.specs.Corners.{spans}
use Rattle.area.proofs.side.Side.split.Goals as goal

pub returns : goal.returns
returns c =
    let s = c.args.self in
    let at = c.at.inside.pixels in
    let g0 : SFits w32 at = omega (arith, ints) in
    let f0 : SFits w32 s.from = omega (arith, ints) in
    let f1 : SFits w32 s.to = omega (arith, ints) in
    let k : SFits w32 (s.from +ℤ at) = omega (arith, ints) in
    let low = simp to_z-of_z at c.if-middle-self.false in
    let high = simp to_z-of_z at c.if-self-middle.false in
    let first : spans s.from (s.from +ℤ at) ≡ true = grind (arith, ints) in
    let second : spans (s.from +ℤ at) s.to ≡ true = grind (arith, ints) in
    rw (← c.at.view_is) (simp to_z-of_z ((first, refl, refl), (second, refl, refl)))
