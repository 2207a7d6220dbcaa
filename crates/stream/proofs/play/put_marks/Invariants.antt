use Rattle.std.proofs.Common.{length}
use Rattle.stream.specs.Readers.{left_in}
use Rattle.stream.proofs.Playing.{PutTo}
use Rattle.stream.proofs.play.put_marks.Given as goal

abbrev pub invariant-loop-mark : goal.invariant-loop-mark
invariant-loop-mark g l = let model = g.D.Device.model in PutTo l.input l.count (left_in l.reader) (model l.initial.device) (model l.device)

abbrev pub decreases-loop-mark : goal.decreases-loop-mark
decreases-loop-mark g l = length l.reader.rest.now
