use Rattle.stream.proofs.Appending.{whole_header}
use Rattle.stream.proofs.device.StreamDevice.begin.Goals as goal

pub invariant_of-self-clause-whole : goal.invariant_of-self-clause-whole
invariant_of-self-clause-whole c = whole_header _ _ c.copy_from_slice.ensures.after
