-- The ranges of a mark's numbers; anchors and turns are in range by their types.
use Rattle.std.specs.Prelude.{◌≡◌, Bool, true, ◌&&◌, nat_le}
use Rattle.backend.specs.declared.shape.Stroke.{Stroke}
use Rattle.backend.specs.declared.shape.Lettering.{Lettering}
use Rattle.backend.specs.declared.shape.Shape.{Shape}
use Rattle.backend.specs.declared.shape.Shape.TheVariants.{Line, Text, End}

abbrev pub stroke_ok : Stroke → Bool
stroke_ok s = nat_le s.ink 100

abbrev pub lettering_ok : Lettering → Bool
lettering_ok l = nat_le l.font 200 && nat_le l.ink 100

abbrev pub StrokeOk : Stroke → Type 0
StrokeOk s = stroke_ok s ≡ true

abbrev pub LetteringOk : Lettering → Type 0
LetteringOk l = lettering_ok l ≡ true

abbrev pub shape_ok : Shape → Bool
shape_ok (Line s) = stroke_ok s
shape_ok (Text l b) = lettering_ok l
shape_ok End = true

abbrev pub ShapeOk : Shape → Type 0
ShapeOk s = shape_ok s ≡ true
