use Rattle.std.proofs.Common.{refl, rules}
use Rattle.std.proofs.lemmas.Result.{err_from_is_err_and}
use Rattle.codec.proofs.Exactly.{exact}
use Rattle.stream.specs.Readers.{left_in}
use Rattle.stream.proofs.Playing.{counted_some, reached_stop}
use Rattle.stream.proofs.play.count.Goals as goal

pub returns-in_err-next_mark-clause-answer : goal.returns-in_err-next_mark-clause-answer
returns-in_err-next_mark-clause-answer c =
    let p = err_from_is_err_and c.from_residual-in_err-next_mark.result c.from_residual-in_err-next_mark.ensures.1 in
    let s = reached_stop c.loop-n.invariant.reached c.in_err-next_mark.ensures.answer in
    rw (p.1, p.2, s.0, s.1) refl

pub returns-in_err-next_mark-clause-exact : goal.returns-in_err-next_mark-clause-exact
returns-in_err-next_mark-clause-exact c = exact c.args.input.now c.type_inv.input

pub loop-n-preserved : goal.loop-n-preserved
loop-n-preserved c =
    counted_some (left_in c.next_mark.new.self) c.in_ok-next_mark.field-0 (search rules) c.loop-n.invariant c.in_ok-next_mark.ensures.after c.in_ok-next_mark.ensures.right

pub returns-clause-exact : goal.returns-clause-exact
returns-clause-exact c = exact c.args.input.now c.type_inv.input
