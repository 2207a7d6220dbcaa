use Rattle.replay.specs.Lines.{left}
use Rattle.replay.proofs.ranged.layers.Given as goal

abbrev pub decreases-loop-kind : goal.decreases-loop-kind
decreases-loop-kind l = left l.words
