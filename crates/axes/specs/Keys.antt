-- The row that the search for a step comes to; and there are no more key values than were asked for.
use Rattle.std.specs.Prelude.{◌≡◌, ℕ, suc, ◌+◌, ◌<◌, ◌≤◌, List, [], ◌∷◌, length, drop, ℤ, nat_le, slice_index, slice_index_or}
use Rattle.std.proofs.Common.{sym, ap, ◌∙◌, zero-le, add-one, drop-cons}
use Rattle.std.specs.List.{range_with_len}
use Rattle.std.proofs.lemmas.Bool.{leb-true, le-leb, lt-leb, cond-true, cond-false, cond_both}
use Rattle.axes.specs.Rows.{first_row}
use Rattle.axes.specs.Stations.{centres, station_keys}
use Rattle.axes.specs.Whole.{multiples, whole_keys, steps}

-- at a step that gives too many, and at one that does not
row_next : {V : Type 0} (row : ℕ → List V) (s : ℕ) (ss : List ℕ) (m : ℕ) → m < length (row s) → first_row row (s ∷ ss) m ≡ first_row row ss m
row_next row s ss m h = cond-false (nat_le (length (row s)) m) (row s) (first_row row ss m) (lt-leb (length (row s)) m h)

row_here : {V : Type 0} (row : ℕ → List V) (s : ℕ) (ss : List ℕ) (m : ℕ) → length (row s) ≤ m → first_row row (s ∷ ss) m ≡ row s
row_here row s ss m h = cond-true (nat_le (length (row s)) m) (row s) (first_row row ss m) (le-leb (length (row s)) m h)

-- the same at the i-th of some steps
pub keys_next : {V : Type 0} (row : ℕ → List V) (ss : List ℕ) (i m : ℕ) → i < length ss → m < length (row (slice_index ss i)) → first_row row (drop i ss) m ≡ first_row row (drop (i + 1) ss) m
keys_next row ss i m h k =
    let s = slice_index_or ss i 0 in
    ap (λ l. first_row row l m) (drop-cons ss i 0 h ∙ ap (λ (n : ℕ). s ∷ drop n ss) (sym (add-one i))) ∙ row_next row s (drop (i + 1) ss) m k

pub keys_here : {V : Type 0} (row : ℕ → List V) (ss : List ℕ) (i m : ℕ) → i < length ss → length (row (slice_index ss i)) ≤ m → first_row row (drop i ss) m ≡ row (slice_index ss i)
keys_here row ss i m h k =
    let s = slice_index_or ss i 0 in
    ap (λ l. first_row row l m) (drop-cons ss i 0 h ∙ ap (λ (n : ℕ). s ∷ drop n ss) (sym (add-one i))) ∙ row_here row s (drop (i + 1) ss) m k

-- and at s, with j steps to go by ones
pub step_next : {V : Type 0} (row : ℕ → List V) (s j m : ℕ) → m < length (row s) → first_row row (range_with_len s (suc j)) m ≡ first_row row (range_with_len (s + 1) j) m
step_next row s j m h = row_next row s (range_with_len (s + 1) j) m h

pub step_here : {V : Type 0} (row : ℕ → List V) (s j m : ℕ) → length (row s) ≤ m → first_row row (range_with_len s (suc j)) m ≡ row s
step_here row s j m h = row_here row s (range_with_len (s + 1) j) m h

-- there are at most m
first_few : {V : Type 0} (row : ℕ → List V) (ss : List ℕ) (m : ℕ) → length (first_row row ss m) ≤ m
first_few row [] m = zero-le
first_few row (s ∷ ss) m =
    cond_both (nat_le (length (row s)) m) (row s) (first_row row ss m) (λ l. length l ≤ m)
    (λ t. leb-true (length (row s)) m t) (λ t. first_few row ss m)

pub keys_few : (lo hi : ℤ) (m : ℕ) → length (whole_keys lo hi m) ≤ m
unfolding whole_keys
keys_few lo hi m = first_few (λ s. multiples s lo hi) steps m

pub station_few : (n m : ℕ) → length (station_keys n m) ≤ m
unfolding station_keys
station_few n m = first_few (centres n) (range_with_len 1 n) m
