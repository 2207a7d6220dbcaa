-- The row that `find` gives is the key values.
use Rattle.std.proofs.Common.{◌≡◌, ℕ, Bool, true, false, cond, List, [], ◌∷◌, length, map, ℤ, Some, None, Option, nat_le, MatchOption, option_map, unwrap_or, refl}
use Rattle.std.specs.List.{find, range_with_len}
use Rattle.axes.specs.Rows.{first_row}
use Rattle.axes.specs.Stations.{centres, station_keys}
use Rattle.axes.specs.Whole.{multiples, whole_keys, steps}
use Rattle.axes.specs.declared.station.Station.{Station}

-- at one row: it is taken, or the search goes on
taken_or_next : {V : Type 0} (t : Bool) (l rest : List V) (o : Option (List V)) → rest ≡ unwrap_or o [] → cond t l rest ≡ unwrap_or (cond t (Some l) o) []
taken_or_next true l rest o e = refl
taken_or_next false l rest o e = e

first_found : {V : Type 0} (row : ℕ → List V) (ss : List ℕ) (m : ℕ) → first_row row ss m ≡ unwrap_or (find (λ l. nat_le (length l) m) (map row ss)) []
first_found row [] m = refl
first_found row (s ∷ ss) m =
    taken_or_next (nat_le (length (row s)) m) (row s) (first_row row ss m) (find (λ l. nat_le (length l) m) (map row ss)) (first_found row ss m)

-- where r is a row that is seen as its values, or none
seen : {R V : Type 0} (view : R → List V) (r : Option R) (l : List V) → l ≡ unwrap_or (option_map view r) [] → MatchOption r (l ≡ []) (λ x. l ≡ view x)
seen view None l e = e
seen view (Some x) l e = e

key_row : {R V : Type 0} (view : R → List V) (row : ℕ → List V) (ss : List ℕ) (m : ℕ) (r : Option R) → option_map view r ≡ find (λ l. nat_le (length l) m) (map row ss) → MatchOption r (first_row row ss m ≡ []) (λ x. first_row row ss m ≡ view x)
key_row view row ss m r e = seen view r (first_row row ss m) (rw e (first_found row ss m))

pub station_row : {R : Type 0} (view : R → List Station) (n m : ℕ) (r : Option R) → option_map view r ≡ find (λ l. nat_le (length l) m) (map (centres n) (range_with_len 1 n)) → MatchOption r (station_keys n m ≡ []) (λ x. station_keys n m ≡ view x)
unfolding station_keys
station_row view n m r e = key_row view (centres n) (range_with_len 1 n) m r e

pub whole_row : {R : Type 0} (view : R → List ℤ) (lo hi : ℤ) (m : ℕ) (r : Option R) → option_map view r ≡ find (λ l. nat_le (length l) m) (map (λ s. multiples s lo hi) steps) → MatchOption r (whole_keys lo hi m ≡ []) (λ x. whole_keys lo hi m ≡ view x)
unfolding whole_keys
whole_row view lo hi m r e = key_row view (λ s. multiples s lo hi) steps m r e
