use Rattle.std.proofs.Common.{◌≤◌}
use Rattle.replay.specs.Lines.{left}
use Rattle.replay.proofs.splits.sizes.Given as goal

abbrev pub invariant-loop-all : goal.invariant-loop-all
invariant-loop-all l = left l.words ≤ left l.initial.words

abbrev pub decreases-loop-all : goal.decreases-loop-all
decreases-loop-all l = left l.words
