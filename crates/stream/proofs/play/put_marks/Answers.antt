use Rattle.std.proofs.Common.{arith, rules}
use Rattle.backend.proofs.Feeding.{fed_put}
use Rattle.stream.specs.Readers.{left_in}
use Rattle.stream.proofs.Playing.{put_all, put_halt, put_start, put_turn, reached_stop}
use Rattle.stream.proofs.play.put_marks.Goals as goal

pub loop-mark-init : goal.loop-mark-init
loop-mark-init g c = put_start c.args.input.now (left_in c.in_ok-reader.reader) _ c.in_ok-reader.ensures

pub returns-in_err-mark : goal.returns-in_err-mark
returns-in_err-mark g c =
    let s = reached_stop c.loop-mark.invariant.reached c.in_err-mark.ensures.answer in
    let r = c.requires in
    absurd (grind arith)

pub returns-in_err-map_err : goal.returns-in_err-map_err
returns-in_err-map_err g c =
    let e = c.in_ok-mark.ensures in
    put_halt (left_in c.next_mark.new.self) _ c.requires c.loop-mark.invariant e.after c.in-Some.is e.right c.from_residual-in_err-map_err.ensures.1 (fed_put c.put.result c.put.ensures (search rules))

pub loop-mark-preserved : goal.loop-mark-preserved
loop-mark-preserved g c =
    let e = c.in_ok-mark.ensures in
    put_turn (left_in c.next_mark.new.self) c.loop-mark.invariant e.after c.in-Some.is e.right (fed_put c.put.result c.put.ensures (search rules))

pub returns : goal.returns
returns g c = put_all _ c.loop-mark.invariant c.in_default.is c.in_ok-mark.ensures.right
