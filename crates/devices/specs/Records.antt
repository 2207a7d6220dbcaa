-- The records of a list, and what each stands for.
use Rattle.std.specs.Prelude.{ℕ, ◌+◌, Bool, true, List, [], take, drop, nat_le}
use Rattle.std.specs.List.{list_all}
use Rattle.backend.specs.declared.shape.Shape.{Shape}
use Rattle.backend.specs.declared.shape.Shape.TheVariants as shape
use Rattle.backend.specs.Marks.{SMark, end, line_of, text_of}
use Rattle.devices.specs.declared.record.Record.{Record}
use Rattle.devices.specs.declared.record.Record.TheVariants.{Line, Text, End}

-- the mark of a record, its text among these bytes
abbrev pub mark_in : List ℕ → Record → SMark
mark_in t (Line s) = line_of s
mark_in t (Text l at n) = text_of l (take n (drop at t))
mark_in t End = end

-- the bytes of a shape's text
abbrev pub text_in : Shape → List ℕ
text_in (shape.Line s) = []
text_in (shape.Text l b) = b.now
text_in shape.End = []

-- the record of a shape whose text is n bytes from `at` on
abbrev pub record_from : Shape → ℕ → ℕ → Record
record_from (shape.Line s) at n = Line s
record_from (shape.Text l b) at n = Text l at n
record_from shape.End at n = End

-- a text lies in the first n bytes
abbrev pub inside : ℕ → Record → Bool
inside n (Line s) = true
inside n (Text l at len) = nat_le (at + len) n
inside n End = true

abbrev pub kept : ℕ → List Record → Bool
kept n rs = list_all (inside n) rs
