use Rattle.std.proofs.Common.{refl}
use lib.Ieee.{mul, of_int, div, of_bits}
use Rattle.area.proofs.samples.samples_hold.Goals as goal

pub returns : goal.returns
unfolding mul of_int div of_bits
returns c = (refl, refl, refl)
