use Rattle.std.proofs.Common.{length}
use Rattle.stream.specs.Readers.{left_in}
use Rattle.stream.proofs.Playing.{Counted}
use Rattle.stream.proofs.play.count.Given as goal

abbrev pub invariant-loop-n : goal.invariant-loop-n
invariant-loop-n l = Counted l.input l.n (left_in l.reader)

abbrev pub decreases-loop-n : goal.decreases-loop-n
decreases-loop-n l = length l.reader.rest.now
