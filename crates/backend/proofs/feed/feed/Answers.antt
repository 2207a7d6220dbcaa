use Rattle.backend.proofs.Feeding.{fed_put}
use Rattle.backend.proofs.feed.feed.Goals as goal

pub returns : goal.returns
returns g c = fed_put c.put.result c.put.ensures c.counted.ensures
