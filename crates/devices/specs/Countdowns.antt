-- A device that lets so many marks through to another, for the tests: it shows a rule that no list has.
use Rattle.std.specs.Prelude.{ℕ, ◌-◌, cond, length, Some, ◌==◌}
use Rattle.backend.specs.Devices.{Answers, Model}

-- refused with 9 where none is left once these marks are taken, else as the device below says
abbrev pub counted_down : ℕ → Answers → Answers
counted_down n f ms m = cond (n - length ms == 0) (Some 9) (f ms m)

abbrev pub countdown : ℕ → Model → Model
countdown n d = record { marks = d.marks; answer = counted_down n d.answer; extent = d.extent; bounded = d.bounded; place = d.place }
