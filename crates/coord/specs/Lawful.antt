-- The layers keep the laws.
use Rattle.std.specs.Prelude.{ℤ}
use Rattle.std.proofs.Common.{arith}
use Rattle.std.proofs.lemmas.Int.{ints, clamps}
use Rattle.coord.specs.Axis.{Axis, Places, Lawful}
use Rattle.coord.specs.Layers.{turned_axis, part_axis}

turned_places : {V : Type 0} (x : Axis V) (a b : ℤ) → Places x a b → Places x b a → Places (turned_axis x) a b
turned_places x a b p q = record {
  inside = λ v. let i = q.inside v in record { least = omega (arith, ints, clamps); most = omega (arith, ints, clamps) };
  mirror = λ v. let m = q.mirror v in omega (arith, ints);
  least = omega (arith, ints, clamps);
  ordered = q.ordered;
  greatest = omega (arith, ints, clamps);
  low_turned = omega (arith, ints);
  high_turned = omega (arith, ints);
}

part_places : {V : Type 0} (v w : V) (x : Axis V) (a b : ℤ) → Places x a b → Places (part_axis v w x) a b
part_places v w x a b p =
    let iv = p.inside v in
    let iw = p.inside w in
    let mv = p.mirror v in
    let mw = p.mirror w in
    record {
      inside = p.inside;
      mirror = p.mirror;
      least = omega (arith, ints, clamps);
      ordered = omega (arith, ints, clamps);
      greatest = omega (arith, ints, clamps);
      low_turned = omega (arith, ints, clamps);
      high_turned = omega (arith, ints, clamps);
    }

pub turned_lawful : {V : Type 0} (x : Axis V) → Lawful x → Lawful (turned_axis x)
turned_lawful x l = record {
  few = l.few;
  places = λ a b i j. turned_places x a b (l.places a b i j) (l.places b a j i);
}

pub part_lawful : {V : Type 0} (v w : V) (x : Axis V) → Lawful x → Lawful (part_axis v w x)
part_lawful v w x l = record {
  few = l.few;
  places = λ a b i j. part_places v w x a b (l.places a b i j);
}
