-- What an answer says of a call: whether it was done.
use Rattle.std.specs.Prelude.{Ok, Err, Result}

-- one of two, by whether the answer is a refusal
abbrev pub on_ok : {U E X : Type 0} → Result U E → X → X → X
on_ok (Ok _) done old = done
on_ok (Err e) done old = old
