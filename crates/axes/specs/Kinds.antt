-- Axes of either kind, under one kind of value.
use Rattle.std.specs.Prelude.{map, ℤ, negsuc}
use Rattle.coord.specs.Axis.{Axis}
use Rattle.axes.specs.Whole.{whole_axis}
use Rattle.axes.specs.Stations.{station_axis}
use Rattle.axes.specs.declared.station.Station.{Station}
use Rattle.axes.specs.declared.station.Station.TheVariants.{Edge}
use Rattle.axes.specs.declared.kinds.AnyValue.{AnyValue}
use Rattle.axes.specs.declared.kinds.AnyValue.TheVariants as value
use Rattle.axes.specs.declared.kinds.AnyAxis.{AnyAxis}
use Rattle.axes.specs.declared.kinds.AnyAxis.TheVariants as axis

-- an axis under another kind of value: `read` takes one to a value of the axis, and `make` a value of the axis to one
abbrev pub viewed_axis : {V W : Type 0} → (W → V) → (V → W) → Axis V → Axis W
viewed_axis read make x = record {
  place = λ w a b. x.place (read w) a b;
  keys = λ h. map make (x.keys h);
  low = x.low;
  high = x.high;
}

-- a value of the other kind counts as the first of the axis: as the least number that there is, which is held to lo, or as the first edge
abbrev pub number_in : AnyValue → ℤ
number_in (value.Whole v) = v
number_in (value.Station s) = negsuc 2147483647

abbrev pub station_in : AnyValue → Station
station_in (value.Whole v) = Edge 0
station_in (value.Station s) = s

abbrev pub any_axis : AnyAxis → Axis AnyValue
any_axis (axis.Whole x) = viewed_axis number_in value.Whole (whole_axis x.lo x.hi)
any_axis (axis.Stations x) = viewed_axis station_in value.Station (station_axis x.n)
