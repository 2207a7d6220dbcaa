use Rattle.std.proofs.Common.{arith, rules}
use Rattle.devices.specs.Listed.{held_by, listed}
use Rattle.devices.proofs.Keeping.{answer_now, model_more}
use Rattle.devices.proofs.list.ListDevice.keep.Goals as goal

pub returns-clause-put : goal.returns-clause-put
returns-clause-put c =
    let d = c.args.self.now in
    (grind (arith, answer_now), model_more (held_by d) _ c.args.shape (listed d).place _ (search rules) (search rules) (search rules) (search rules) d.inside)
