use Rattle.std.proofs.Common.{◌≡◌, true, ◌-ℤ◌, sym, ap, ◌∙◌, arith, w32, SFits}
use lib.Signed.{lt_z}
use Rattle.std.proofs.lemmas.Int.{ints, to_z-of_z}
use Rattle.std.proofs.lemmas.Bool.{cond-true}
use Rattle.axes.specs.Shares.{moved_by}
use Rattle.axes.specs.Whole.{held_to}
use Rattle.axes.proofs.Stored.{apart_stored}
use Rattle.axes.proofs.whole.WholeAxis.place.Goals as goal

pub returns : goal.returns
returns c =
    let lo = c.args.self.lo in
    let hi = c.args.self.hi in
    let a = c.args.limits.a in
    let e = c.args.self.ends in
    let fl : SFits w32 lo = omega (arith, ints) in
    let fh : SFits w32 hi = omega (arith, ints) in
    let fv = c.ranges.value in
    let fc : SFits w32 c.clamp-held.result = record { sfits = c.clamp-held.type_inv } in
    let h : c.clamp-held.result ≡ held_to lo hi c.args.value = simp to_z-of_z at c.clamp-held.ensures.value in
    let m = simp apart_stored at c.moved.ensures in
    let t : lt_z lo hi ≡ true = sym (omega (arith, ints)) in
    let fr : SFits w32 c.moved.result = record { sfits = c.moved.type_inv } in
    to_z-of_z w32 c.moved.result fr ∙ m ∙ ap (λ z. moved_by a c.args.limits.b (z -ℤ lo) (hi -ℤ lo)) h ∙ sym (cond-true (lt_z lo hi) _ a t)
