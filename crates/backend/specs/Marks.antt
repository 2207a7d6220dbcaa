-- Marks as plain values, and the value of each mark of the code.
use Rattle.std.specs.Prelude.{ℕ, cond, List, ℤ, Ok, Err, Result}
use Rattle.size.specs.declared.refusal.Refusal.{Refusal}
use Rattle.size.specs.declared.refusal.Refusal.TheVariants.{Range}
use Rattle.backend.specs.declared.shape.Stroke.{Stroke}
use Rattle.backend.specs.declared.shape.Lettering.{Lettering}
use Rattle.backend.specs.declared.shape.Shape.{Shape}
use Rattle.backend.specs.declared.shape.Shape.TheVariants as shape
use Rattle.backend.specs.declared.mark.Line.{Line}
use Rattle.backend.specs.declared.mark.Text.{Text}
use Rattle.backend.specs.declared.mark.Mark.{Mark}
use Rattle.backend.specs.Anchors.{anchor_of, turn_of}
use Rattle.backend.specs.Shapes.{stroke_ok, lettering_ok}

-- a line: x and y of its first end, of its last end, and its ink
-- a text: x, y, anchor, turn, font, ink and bytes
pub data SMark : Type 0 where
  line : ℤ → ℤ → ℤ → ℤ → ℕ → SMark
  text : ℤ → ℤ → ℕ → ℕ → ℕ → ℕ → List ℕ → SMark
  end : SMark

abbrev pub line_of : Stroke → SMark
line_of s = line s.x0 s.y0 s.x1 s.y1 s.ink

abbrev pub text_of : Lettering → List ℕ → SMark
text_of l bytes = text l.x l.y (anchor_of l.anchor) (turn_of l.turn) l.font l.ink bytes

abbrev pub shape_value : Shape → SMark
shape_value (shape.Line s) = line_of s
shape_value (shape.Text l b) = text_of l b.now
shape_value shape.End = end

abbrev pub mark_of : Mark → SMark
mark_of m = shape_value m.shape

-- what making a line or a text answers: a stroke or a lettering in range, or refusal 1
abbrev pub made_line : Result Line Refusal → Result Stroke Refusal
made_line (Ok l) = Ok l.stroke
made_line (Err e) = Err e

abbrev pub line_answer : Stroke → Result Stroke Refusal
line_answer s = cond (stroke_ok s) (Ok s) (Err Range)

abbrev pub made_text : Result Text Refusal → Result Lettering Refusal
made_text (Ok t) = Ok t.lettering
made_text (Err e) = Err e

abbrev pub text_answer : Lettering → Result Lettering Refusal
text_answer l = cond (lettering_ok l) (Ok l) (Err Range)
