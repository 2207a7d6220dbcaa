use Rattle.std.proofs.Common.{arith}
use Rattle.std.proofs.lemmas.Int.{ints}
use Rattle.axes.proofs.Runs.{spans}
use Rattle.axes.proofs.multiples.Multiples.run.Goals as goal

pub returns : goal.returns
returns c =
    spans _ _ _ _ _ _ _ c.args.self.positive c.args.self.axis.ends.1.0 c.args.self.axis.ends.0 (omega (arith, ints)) (omega (arith, ints)) c.before-2.ensures c.before-3.ensures
