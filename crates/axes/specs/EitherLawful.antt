-- Axes of either kind are lawful.
use Rattle.std.proofs.Common.{arith}
use Rattle.std.proofs.lemmas.List.{length-map}
use Rattle.coord.specs.Axis.{Axis, Lawful}
use Rattle.axes.specs.Kinds.{viewed_axis, number_in, station_in, any_axis}
use Rattle.axes.specs.Stations.{station_axis}
use Rattle.axes.specs.Whole.{whole_axis}
use Rattle.axes.specs.declared.kinds.AnyAxis.{AnyAxis}
use Rattle.axes.specs.declared.kinds.AnyAxis.TheVariants as axis
use Rattle.axes.specs.declared.kinds.AnyValue.TheVariants as value
use Rattle.axes.specs.Lawful.{whole_lawful, station_lawful}

viewed_lawful : {V W : Type 0} (read : W → V) (make : V → W) (x : Axis V) → Lawful x → Lawful (viewed_axis read make x)
viewed_lawful read make x l = record {
  few = λ h. omega (arith, l.few h, length-map (x.keys h) make);
  places = λ a b i j.
      let p = l.places a b i j in
      record {
        inside = λ w. p.inside (read w);
        mirror = λ w. p.mirror (read w);
        least = p.least;
        ordered = p.ordered;
        greatest = p.greatest;
        low_turned = p.low_turned;
        high_turned = p.high_turned;
      };
}

pub any_lawful : (x : AnyAxis) → Lawful (any_axis x)
any_lawful (axis.Whole x) = viewed_lawful number_in value.Whole (whole_axis x.lo x.hi) (whole_lawful x.lo x.hi x.ends.0)
any_lawful (axis.Stations x) = viewed_lawful station_in value.Station (station_axis x.n) (station_lawful x.n x.few.0)
