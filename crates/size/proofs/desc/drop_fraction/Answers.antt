use Rattle.std.proofs.Common.{Ok, sym, ap, ◌∙◌, w32, SFits, rules}
use Rattle.std.proofs.lemmas.Int.{to_z-of_z}
use Rattle.size.proofs.Wholes.{by_cut, out_high, out_low, passed, dropped_is, cut_limit, neg_is}
use Rattle.size.proofs.desc.drop_fraction.Goals as goal
use Rattle.size.proofs.desc.drop_fraction.Goals.{else-x-via-then-x+else-x-2, else-x-via-else-x}

pub returns-then-x-2 : goal.returns-then-x-2
returns-then-x-2 c =
    let x = c.args.x in
    let p = passed by_cut x (rw (neg_is _ _ _ cut_limit) at c.if-x.true) (rw cut_limit at c.if-x-2.true) in
    let f : SFits w32 c.saturating_f64_to_i32.result = search rules in
    ap Ok (to_z-of_z w32 _ f ∙ c.saturating_f64_to_i32.ensures) ∙ sym (dropped_is x p)

pub returns-else-x : goal.returns-else-x
returns-else-x c =
    let x = c.args.x in
    elim c.else-x.branch [
      | else-x-via-then-x+else-x-2 w ↦ sym (out_high by_cut x (rw cut_limit at w.if-x-2.false))
      | else-x-via-else-x w ↦ sym (out_low by_cut x (rw (neg_is _ _ _ cut_limit) at w.if-x.false))
    ]
