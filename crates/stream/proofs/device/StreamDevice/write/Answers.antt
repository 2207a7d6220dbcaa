use Rattle.std.proofs.Common.{[], ◌∷◌, rules}
use Rattle.backend.specs.Marks.{mark_of}
use Rattle.stream.proofs.Appending.{put_parts}
use Rattle.stream.proofs.device.StreamDevice.write.Goals as goal

pub append-requires : goal.append-requires
append-requires c = (mark_of c.args.mark, (search rules, search rules))

pub append-requires-in-Text : goal.append-requires-in-Text
append-requires-in-Text c = (mark_of c.args.mark, (search rules, search rules))

pub returns-in-Line-clause-put : goal.returns-in-Line-clause-put
returns-in-Line-clause-put c = put_parts c.args.self.now c.append.new.self (mark_of c.args.mark) c.append.result _ _ (search rules) (search rules) c.append.ensures.answer c.append.ensures.held c.append.ensures.place

pub returns-else-bytes-gt64-clause-put : goal.returns-else-bytes-gt64-clause-put
returns-else-bytes-gt64-clause-put c = put_parts c.args.self.now c.append-in-Text.new.self (mark_of c.args.mark) c.append-in-Text.result _ _ (search rules) (search rules) c.append-in-Text.ensures.answer c.append-in-Text.ensures.held c.append-in-Text.ensures.place

pub returns-in-End-clause-put : goal.returns-in-End-clause-put
returns-in-End-clause-put c = put_parts c.args.self.now c.append-in-End.new.self (mark_of c.args.mark) c.append-in-End.result (3 ∷ []) [] (search rules) (search rules) c.append-in-End.ensures.answer c.append-in-End.ensures.held c.append-in-End.ensures.place
