-- The refusals of a mark by the numbers that a device answers.
use Rattle.std.specs.Prelude.{ℕ}
use Rattle.devices.specs.declared.refusal.PutRefusal.{PutRefusal}
use Rattle.devices.specs.declared.refusal.PutRefusal.TheVariants.{NoRoom, NoTextRoom, LongText}

abbrev pub put_number : PutRefusal → ℕ
put_number NoRoom = 1
put_number NoTextRoom = 2
put_number LongText = 3
