use Rattle.std.proofs.Common.{◌≡◌, ◌+ℤ◌, arith, w32, SFits, rules}
use Rattle.std.proofs.lemmas.Int.{ints, clamps, to_z-of_z}
use Rattle.area.specs.Insets.{begin_of, end_of}
use Rattle.area.proofs.side.Side.shrink.Goals as goal

pub overflow_add-begin : goal.overflow_add-begin
overflow_add-begin c = omega (arith, ints, clamps)

pub returns : goal.returns
returns c =
    let s = c.args.self in
    let start = c.start.inside.pixels in
    let g0 : SFits w32 start = omega (arith, ints) in
    let length = c.length.inside.pixels in
    let g1 : SFits w32 length = omega (arith, ints) in
    let f0 : SFits w32 s.from = omega (arith, ints) in
    let f1 : SFits w32 s.to = omega (arith, ints) in
    let k0 : SFits w32 (s.from +ℤ start) = omega (arith, ints) in
    let b : c.min-begin.result ≡ begin_of s.from s.to start = simp to_z-of_z at c.min-begin.ensures.value in
    let f2 : SFits w32 c.min-begin.result = search rules in
    let k1 : SFits w32 (c.min-begin.result +ℤ length) = omega (arith, ints, clamps) in
    let e : c.max.result ≡ end_of c.min-begin.result length = simp to_z-of_z at c.max.ensures.value in
    let f3 : SFits w32 c.max.result = search rules in
    let r = simp to_z-of_z at c.new.ensures in
    rw (← c.start.view_is, ← c.length.view_is, ← b, ← e) r
