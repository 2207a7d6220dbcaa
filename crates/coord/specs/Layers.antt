-- Two layers over any axis, which are axes again. Both keep the key values.
use Rattle.std.specs.Int.{int_min, int_max}
use Rattle.coord.specs.Axis.{Axis}

-- the axis for (b, a)
abbrev pub turned_axis : {V : Type 0} → Axis V → Axis V
turned_axis x = record {
  place = λ v a b. x.place v b a;
  keys = x.keys;
  low = λ a b. x.low b a;
  high = λ a b. x.high b a;
}

-- the axis that shows what lies between the places of two values
abbrev pub part_axis : {V : Type 0} → V → V → Axis V → Axis V
part_axis v w x = record {
  place = x.place;
  keys = x.keys;
  low = λ a b. int_min (x.place v a b) (x.place w a b);
  high = λ a b. int_max (x.place v a b) (x.place w a b);
}
