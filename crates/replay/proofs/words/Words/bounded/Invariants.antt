use Rattle.std.proofs.Common.{◌≤◌}
use Rattle.replay.specs.Lines.{left}
use Rattle.replay.proofs.words.Words.bounded.Given as goal

abbrev pub invariant-loop-bound : goal.invariant-loop-bound
invariant-loop-bound l = left l.self ≤ left l.initial.self

abbrev pub decreases-loop-bound : goal.decreases-loop-bound
decreases-loop-bound l = left l.self
