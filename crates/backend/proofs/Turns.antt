-- A loop over values, each of which puts some marks.
use Rattle.std.proofs.Common.{◌≡◌, ℕ, zero, suc, ◌+◌, ◌*◌, ◌<◌, ◌≤◌, List, [], ◌∷◌, ◌++◌, map, length, take, drop, IsErrAnd, Some, None, Ok, Err, Result, sym, refl, ap, ◌∙◌, zero-le, arith, length-append}
use Rattle.std.specs.List.{slice_get, flat_map}
use Rattle.std.proofs.lemmas.Grind.{flat_map-append}
use Rattle.std.proofs.lemmas.List.{append-nil, take_more, take_all, take-append-drop}
use Rattle.std.proofs.lemmas.Option.{get_or_from_slice_get, slice_get_cases, slice_get_within}
use Rattle.size.specs.declared.refusal.Refusal.{Refusal}
use Rattle.backend.specs.Marks.{SMark}
use Rattle.backend.specs.Devices.{Model}
use Rattle.backend.specs.Passes.{Fed, FedTo, each}
use Rattle.backend.proofs.Feeding.{exits, fed_none, fed_then, fed_stop, fed_length}

pub within : {V : Type 0} (vs : List V) (k : ℕ) (v : V) → slice_get vs k ≡ Some v → k < length vs
within vs k v e = slice_get_within vs k v e

-- one value more
each_more : {V : Type 0} (f : V → List SMark) (vs : List V) (k : ℕ) (v : V) → slice_get vs k ≡ Some v → each f (take (k + 1) vs) ≡ each f (take k vs) ++ f v
each_more f vs k v e =
    let l = within vs k v e in
    rw (take_more vs k v l, get_or_from_slice_get vs k v v e, flat_map-append f (take k vs) (v ∷ []), append-nil (f v))

-- those past the first k
each_split : {V : Type 0} (f : V → List SMark) (vs : List V) (k : ℕ) → each f (take k vs) ++ each f (drop k vs) ≡ each f vs
each_split f vs k = sym (flat_map-append f (take k vs) (drop k vs)) ∙ ap (flat_map f) (take-append-drop k vs)

pub take_whole : {V : Type 0} (vs : List V) (k : ℕ) → slice_get vs k ≡ None → take k vs ≡ vs
take_whole vs k e = let c = slice_get_cases vs k in grind (arith, take_all)

-- no turn yet
pub fed_start : {V : Type 0} (f : V → List SMark) (vs : List V) (a : ℕ) (d : Model) → FedTo f vs 0 a d a d
fed_start f [] a d = record { reached = zero-le; fed = fed_none a d }
fed_start f (v ∷ vs) a d = record { reached = zero-le; fed = fed_none a d }

turned : {V : Type 0} {f : V → List SMark} {vs : List V} {k a p : ℕ} {d d' d'' : Model} {v : V} {r : Result ℕ Refusal} →
    FedTo f vs k a d p d' → slice_get vs k ≡ Some v → Fed p (f v) d' r d'' → Fed a (each f (take (k + 1) vs)) d r d''
turned {f = f} {vs} {k} {v = v} h is t = rw (each_more f vs k v is) (fed_then h.fed t)

-- one turn more
pub fed_turn : {V : Type 0} {f : V → List SMark} {vs : List V} {k a p q : ℕ} {d d' d'' : Model} {v : V} →
    FedTo f vs k a d p d' → slice_get vs k ≡ Some v → Fed p (f v) d' (Ok q) d'' → FedTo f vs (k + 1) a d q d''
fed_turn {vs = vs} {k} {v = v} h is t = let l = within vs k v is in record { reached = omega arith; fed = turned h is t }

-- a turn that stops, where a `?` hands the refusal on
pub fed_halt : {V : Type 0} {f : V → List SMark} {vs : List V} {k a p : ℕ} {d d' d'' : Model} {v : V} {e : Refusal} {r : Result ℕ Refusal} →
    IsErrAnd r (λ y. y ≡ e) → FedTo f vs k a d p d' → slice_get vs k ≡ Some v → Fed p (f v) d' (Err e) d'' → Fed a (each f vs) d r d''
fed_halt {f = f} {vs} {k} by h is t =
    let whole = fed_stop (each f (drop (k + 1) vs)) (turned h is t) in
    exits by (rw (each_split f vs (k + 1)) at whole)

-- no value is left
pub fed_all : {V : Type 0} {f : V → List SMark} {vs : List V} {k a p : ℕ} {d d' : Model} → FedTo f vs k a d p d' → slice_get vs k ≡ None → Fed a (each f vs) d (Ok p) d'
fed_all {vs = vs} {k} h is = rw (take_whole vs k is) at h.fed

-- one mark for each value, by its place
pub each_one : {V W : Type 0} (f : W → SMark) (g : V → W) (vs : List V) → each (λ v. f (g v) ∷ []) vs ≡ map f (map g vs)
each_one f g [] = refl
each_one f g (v ∷ vs) = ap (λ l. f (g v) ∷ l) (each_one f g vs)

-- at most n marks for each of k values
few_each : {V : Type 0} (f : V → List SMark) (n : ℕ) → ((v : V) → length (f v) ≤ n) → (k : ℕ) (vs : List V) → length (each f (take k vs)) ≤ n * k
few_each f n few zero [] = zero-le
few_each f n few zero (v ∷ vs) = zero-le
few_each f n few (suc k) [] = zero-le
few_each f n few (suc k) (v ∷ vs) =
    let h = few_each f n few k vs in
    let i = few v in
    simp length-append (omega arith)

-- the count after k turns
pub fed_few : {V : Type 0} {f : V → List SMark} {vs : List V} {k a p : ℕ} {d d' : Model} (n : ℕ) → ((v : V) → length (f v) ≤ n) →
    FedTo f vs k a d p d' → p ≤ a + n * k
fed_few {f = f} {vs} {k} n few h = let i = few_each f n few k vs in let j = fed_length h.fed in omega arith
