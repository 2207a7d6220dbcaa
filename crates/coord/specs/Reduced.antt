-- What a pile comes to is lawful.
use Rattle.std.specs.Prelude.{Bool, true, false, Some, None, Option}
use Rattle.coord.specs.Axis.{Axis, Lawful}
use Rattle.coord.specs.Piles.{turned_if, part_if, reduced_axis}
use Rattle.coord.specs.Lawful.{turned_lawful, part_lawful}

turned_if_lawful : {V : Type 0} (t : Bool) (x : Axis V) → Lawful x → Lawful (turned_if t x)
turned_if_lawful true x l = turned_lawful x l
turned_if_lawful false x l = l

part_if_lawful : {V : Type 0} (p : Option (V × V)) (x : Axis V) → Lawful x → Lawful (part_if p x)
part_if_lawful (Some p) x l = part_lawful p.0 p.1 x l
part_if_lawful None x l = l

pub reduced_lawful : {V : Type 0} (t : Bool) (p : Option (V × V)) (x : Axis V) → Lawful x → Lawful (reduced_axis t p x)
reduced_lawful t p x l = part_if_lawful p (turned_if t x) (turned_if_lawful t x l)
