use Rattle.std.proofs.Common.{◌+ℤ◌, ◌-ℤ◌, arith, w32, SFits}
use Rattle.std.proofs.lemmas.Int.{ints, to_z-of_z}
use Rattle.area.proofs.side.Side.inset.Goals as goal

pub returns : goal.returns
returns c =
    let s = c.args.self in
    let start = c.start.inside.pixels in
    let g0 : SFits w32 start = omega (arith, ints) in
    let end = c.end.inside.pixels in
    let g1 : SFits w32 end = omega (arith, ints) in
    let f0 : SFits w32 s.from = omega (arith, ints) in
    let f1 : SFits w32 s.to = omega (arith, ints) in
    let k0 : SFits w32 (s.from +ℤ start) = omega (arith, ints) in
    let k1 : SFits w32 (s.to -ℤ end) = omega (arith, ints) in
    rw (← c.start.view_is, ← c.end.view_is) (simp to_z-of_z at c.new.ensures)
