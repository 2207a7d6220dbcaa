use Rattle.stream.proofs.Hearing.{round_trip}
use Rattle.stream.proofs.device.StreamDevice.play_on.Goals as goal

pub returns-clause-always : goal.returns-clause-always
returns-clause-always g c = round_trip
