use Rattle.backend.proofs.Stopping.{every_pass}
use Rattle.backend.proofs.laws.passes_stop.Goals as goal

pub returns : goal.returns
returns c = every_pass
