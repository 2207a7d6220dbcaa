-- What is written of a value.
use Rattle.std.specs.Prelude.{◌≡◌, ℕ, ◌≤◌, cond, List, ◌∷◌, length, take, Ok, Err, decimal, Result, nat_le}
use Rattle.std.specs.Fmt.{signed_decimal}
use Rattle.size.specs.declared.refusal.Refusal.{Refusal}
use Rattle.size.specs.declared.refusal.Refusal.TheVariants.{Short}
use Rattle.axes.specs.declared.station.Station.{Station}
use Rattle.axes.specs.declared.station.Station.TheVariants.{Edge, Centre}
use Rattle.axes.specs.declared.kinds.AnyValue.{AnyValue}
use Rattle.axes.specs.declared.kinds.AnyValue.TheVariants as value

-- the length of the text t, or a refusal of a scratch that is too short for every text
abbrev pub length_in : List ℕ → List ℕ → Result ℕ Refusal
length_in t old = cond (nat_le 32 (length old)) (Ok (length t)) (Err Short)

-- what the scratch holds then: the text at its front, and past it anything; after a refusal what it held
abbrev pub Holds : List ℕ → List ℕ → Result ℕ Refusal → List ℕ → Type 0
Holds t old (Ok n) new = (n ≤ 32) × (take n new ≡ t) × (length new ≡ length old)
Holds t old (Err e) new = new ≡ old

pub record Formatted (t old : List ℕ) (r : Result ℕ Refusal) (new : List ℕ) : Type 0 where
  pub answer : r ≡ length_in t old
  pub scratch : Holds t old r new

-- ---- the text of a station: S and its number, of an edge as of a centre

abbrev pub number_of : Station → ℕ
number_of (Edge i) = i
number_of (Centre i) = i

abbrev pub station_text : Station → List ℕ
station_text v = 83 ∷ decimal (number_of v)

-- ---- the text of a value of either kind

abbrev pub any_text : AnyValue → List ℕ
any_text (value.Whole v) = signed_decimal v
any_text (value.Station s) = station_text s
