-- Layers upon layers, and what they come to.
use Rattle.std.specs.Prelude.{Bool, true, false, List, [], ◌∷◌, Some, None, Option}
use Rattle.coord.specs.Axis.{Axis, Same}
use Rattle.coord.specs.Layers.{turned_axis, part_axis}
use Rattle.coord.specs.declared.layered.Layered.{Layered}

-- one layer: a turn, or a part between two values
pub data Layer (V : Type 0) : Type 0 where
  turn : Layer V
  shows : V → V → Layer V

-- the layers of a pile, the topmost first, over the axis x
abbrev pub piled : {V : Type 0} → List (Layer V) → Axis V → Axis V
piled [] x = x
piled (turn ∷ ls) x = turned_axis (piled ls x)
piled (shows v w ∷ ls) x = part_axis v w (piled ls x)

-- y is x with the layer l on top, whatever pile x is
pub record LaidOn {V : Type 0} (l : Layer V) (x y : Axis V) : Type 0 where
  pub on_top : (ls : List (Layer V)) (z : Axis V) → Same x (piled ls z) → Same y (piled (l ∷ ls) z)

-- ---- what a pile comes to: turned or not, and the part laid on last

abbrev pub turned_if : {V : Type 0} → Bool → Axis V → Axis V
turned_if true x = turned_axis x
turned_if false x = x

abbrev pub part_if : {V : Type 0} → Option (V × V) → Axis V → Axis V
part_if (Some p) x = part_axis p.0 p.1 x
part_if None x = x

abbrev pub reduced_axis : {V : Type 0} → Bool → Option (V × V) → Axis V → Axis V
reduced_axis t p x = part_if p (turned_if t x)

-- over the axis below, by its meaning
abbrev pub layered_axis : {A V : Type 0} → (A → Axis V) → Layered A V → Axis V
layered_axis meaning l = reduced_axis l.turned l.part (meaning l.axis)
