use Rattle.std.proofs.Common.{ap, ◌∙◌, arith}
use Rattle.std.proofs.lemmas.Int.{ints}
use Rattle.axes.specs.Shares.{up_of}
use Rattle.axes.proofs.Runs.{up_is}
use Rattle.axes.proofs.multiples.Multiples.before.Goals as goal

pub returns : goal.returns
returns c = c.div_ceil.ensures ∙ up_is c.args.self.step _ c.args.self.positive ∙ ap (up_of c.args.self.step) (omega (arith, ints))
