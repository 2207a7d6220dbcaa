-- The axis of n stations.
use Rattle.std.specs.Prelude.{ℕ, ◌+◌, ◌-◌, ◌*◌, ◌<◌, ◌≤◌, min, cond, ◌&&◌, List, map, ℤ, pos, Ok, Err, Result, nat_le}
use Rattle.std.specs.List.{range_with_len}
use Rattle.std.specs.Int.{int_min, int_max}
use Rattle.size.specs.declared.refusal.Refusal.{Refusal}
use Rattle.size.specs.declared.refusal.Refusal.TheVariants.{Scale}
use Rattle.coord.specs.Axis.{Axis}
use Rattle.axes.specs.Rows.{first_row}
use Rattle.axes.specs.Shares.{moved_by, up_of}
use Rattle.axes.specs.declared.station.Station.{Station}
use Rattle.axes.specs.declared.station.Station.TheVariants.{Edge, Centre}

-- so many stations an axis may have
abbrev pub Few : ℕ → Type 0
Few n = (0 < n) × (n ≤ 200)

abbrev pub count_of : ℕ → Result ℕ Refusal
count_of n = cond (nat_le 1 n && nat_le n 200) (Ok n) (Err Scale)

-- the place of an edge or a centre; a larger i counts as the largest that there is
abbrev pub station_place_of : ℕ → Station → ℤ → ℤ → ℤ
station_place_of n (Edge i) a b = moved_by a b (pos (min i n)) (pos n)
station_place_of n (Centre i) a b = moved_by a b (pos (2 * min i (n - 1) + 1)) (pos (2 * n))

-- the centres of 0, s, 2s and so on below n
abbrev pub centres : ℕ → ℕ → List Station
centres n s = map (λ k. Centre (k * s)) (range_with_len 0 (up_of s n))

-- those of the first step that gives at most m
unfoldable pub station_keys : ℕ → ℕ → List Station
station_keys n m = first_row (centres n) (range_with_len 1 n) m

-- the axis; it shows all from a to b
abbrev pub station_axis : ℕ → Axis Station
station_axis n = record {
  place = station_place_of n;
  keys = λ h. station_keys n h.most;
  low = int_min;
  high = int_max;
}
