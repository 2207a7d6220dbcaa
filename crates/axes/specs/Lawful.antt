-- The axes are lawful.
use Rattle.std.specs.Prelude.{◌≡◌, ℕ, ◌+◌, ◌-◌, ◌*◌, ◌<◌, min, Bool, true, false, cond, ℤ, pos, ◌+ℤ◌, ◌-ℤ◌, ◌≤ℤ◌, int_lt, refl}
use Rattle.std.proofs.Common.{arith}
use Rattle.std.specs.Int.{int_min, int_max}
use Rattle.std.proofs.lemmas.Int.{ints, clamps}
use Rattle.coord.specs.Axis.{Axis, Between, Places, Lawful}
use Rattle.axes.specs.Shares.{moved_by}
use Rattle.axes.specs.Stations.{station_place_of, station_axis}
use Rattle.axes.specs.Whole.{held_to, whole_place_of, whole_axis}
use Rattle.axes.specs.declared.station.Station.{Station}
use Rattle.axes.specs.declared.station.Station.TheVariants.{Edge, Centre}
use Rattle.axes.specs.Keys.{keys_few, station_few}
use Rattle.axes.specs.Moves.{moved_inside, moved_mirror}

-- ---- an axis that shows all from a to b

all_places : {V : Type 0} (x : Axis V) (a b : ℤ) → x.low a b ≡ int_min a b → x.high a b ≡ int_max a b → x.low b a ≡ int_min b a → x.high b a ≡ int_max b a →
    ((v : V) → Between a b (x.place v a b)) → ((v : V) → x.place v a b +ℤ x.place v b a ≡ a +ℤ b) → Places x a b
all_places x a b l h l' h' inside mirror = record {
  inside = inside;
  mirror = mirror;
  least = omega (arith, ints, clamps);
  ordered = omega (arith, ints, clamps);
  greatest = omega (arith, ints, clamps);
  low_turned = omega (arith, ints, clamps);
  high_turned = omega (arith, ints, clamps);
}

-- ---- whole numbers

module _ (lo hi v a b : ℤ) (ordered : lo ≤ℤ hi) where
  inside_by : (t : Bool) → Between a b (cond t (moved_by a b (held_to lo hi v -ℤ lo) (hi -ℤ lo)) a)
  inside_by true = moved_inside a b (held_to lo hi v -ℤ lo) (hi -ℤ lo) (omega (arith, ints, clamps)) (omega (arith, ints, clamps))
  inside_by false = record { least = omega (arith, ints, clamps); most = omega (arith, ints, clamps) }

  mirror_by : (t : Bool) → cond t (moved_by a b (held_to lo hi v -ℤ lo) (hi -ℤ lo)) a +ℤ cond t (moved_by b a (held_to lo hi v -ℤ lo) (hi -ℤ lo)) b ≡ a +ℤ b
  mirror_by true = moved_mirror a b (held_to lo hi v -ℤ lo) (hi -ℤ lo) (omega (arith, ints, clamps)) (omega (arith, ints, clamps))
  mirror_by false = refl

  pub whole_inside : Between a b (whole_place_of lo hi v a b)
  whole_inside = inside_by (int_lt lo hi)

  whole_mirror : whole_place_of lo hi v a b +ℤ whole_place_of lo hi v b a ≡ a +ℤ b
  whole_mirror = mirror_by (int_lt lo hi)

pub whole_lawful : (lo hi : ℤ) → lo ≤ℤ hi → Lawful (whole_axis lo hi)
whole_lawful lo hi o = record {
  few = λ h. keys_few lo hi h.most;
  places = λ a b i j. all_places (whole_axis lo hi) a b refl refl refl refl (λ v. whole_inside lo hi v a b o) (λ v. whole_mirror lo hi v a b o);
}

-- ---- stations

station_inside : (n : ℕ) (v : Station) (a b : ℤ) → 0 < n → Between a b (station_place_of n v a b)
station_inside n (Edge i) a b h = moved_inside a b (pos (min i n)) (pos n) (omega (arith, ints)) (omega (arith, ints))
station_inside n (Centre i) a b h = moved_inside a b (pos (2 * min i (n - 1) + 1)) (pos (2 * n)) (omega (arith, ints)) (omega (arith, ints))

station_mirror : (n : ℕ) (v : Station) (a b : ℤ) → 0 < n → station_place_of n v a b +ℤ station_place_of n v b a ≡ a +ℤ b
station_mirror n (Edge i) a b h = moved_mirror a b (pos (min i n)) (pos n) (omega (arith, ints)) (omega (arith, ints))
station_mirror n (Centre i) a b h = moved_mirror a b (pos (2 * min i (n - 1) + 1)) (pos (2 * n)) (omega (arith, ints)) (omega (arith, ints))

pub station_lawful : (n : ℕ) → 0 < n → Lawful (station_axis n)
station_lawful n p = record {
  few = λ h. station_few n h.most;
  places = λ a b i j. all_places (station_axis n) a b refl refl refl refl (λ v. station_inside n v a b p) (λ v. station_mirror n v a b p);
}
