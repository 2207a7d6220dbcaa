use Rattle.std.proofs.Common.{◌≡◌, ◌+ℤ◌, ap, ◌∙◌, arith, w32, SFits}
use Rattle.std.proofs.lemmas.Int.{ints, to_z-of_z}
use Rattle.axes.proofs.Stored.{apart_stored}
use Rattle.axes.proofs.pixels.Limits.moved.Goals as goal

pub returns : goal.returns
returns c =
    let a = c.args.self.a in
    let fa : SFits w32 a = omega (arith, ints) in
    let fb : SFits w32 c.args.self.b = omega (arith, ints) in
    let fp = c.ranges.part in
    let fw = c.ranges.whole in
    let apart = simp apart_stored at c.share-away.ensures.value in
    let away = simp to_z-of_z at apart in
    let sum : _ ≡ a +ℤ c.share-away.result = omega (arith, ints) in
    sum ∙ ap (λ q. a +ℤ q) away
