-- The centres at every s-th station: how many there are, and which is the k-th.
use Rattle.std.specs.Prelude.{◌≡◌, ℕ, zero, suc, ◌+◌, ◌-◌, ◌*◌, ◌<◌, ◌≤◌, cond, length, Some, None, nat_lt}
use Rattle.std.proofs.Common.{sym, ap, ◌∙◌, arith}
use Rattle.std.specs.List.{slice_get}
use Rattle.std.proofs.lemmas.List.FromFn.{length-map-range_with_len, get_or-map-range_with_len}
use Rattle.std.proofs.lemmas.Option.{slice_get-get_or, slice_get_past}
use Rattle.std.proofs.lemmas.Nat.{mul-le}
use Rattle.std.proofs.Math.Nat.{div-le_of_le-mul}
use Rattle.std.proofs.lemmas.Bool.{ltb-true, ltb-false, cond_both}
use Rattle.axes.specs.Shares.{up_of}
use Rattle.axes.specs.Stations.{centres}
use Rattle.axes.specs.declared.station.Station.TheVariants.{Centre}

pub centres_count : (n s : ℕ) → length (centres n s) ≡ up_of s n
centres_count n s = length-map-range_with_len (λ k. Centre (k * s)) 0 (up_of s n)

pub centres_within : (n s : ℕ) → 0 < n → 0 < s → length (centres n s) ≤ n
centres_within zero s o p = absurd (omega arith)
centres_within (suc m) s o p =
    let h : suc m + (s - 1) ≤ s * suc m = omega (arith, mul-le m 1 m s (omega arith) (omega arith)) in
    omega (arith, centres_count (suc m) s, div-le_of_le-mul s h)

pub centres_nth : (n s k : ℕ) → k < length (centres n s) → slice_get (centres n s) k ≡ Some (Centre (k * s))
centres_nth n s k h =
    slice_get-get_or (centres n s) k (Centre 0) h ∙ ap Some (get_or-map-range_with_len (λ k. Centre (k * s)) 0 (up_of s n) k k (Centre 0) (omega (arith, centres_count n s)) (omega arith))

pub centres_past : (n s k : ℕ) → length (centres n s) ≤ k → slice_get (centres n s) k ≡ None
centres_past n s k h = slice_get_past (centres n s) k h

pub centres_kth : (n s k : ℕ) → cond (nat_lt k (up_of s n)) (Some (Centre (k * s))) None ≡ slice_get (centres n s) k
centres_kth n s k =
    cond_both (nat_lt k (up_of s n)) (Some (Centre (k * s))) None (λ r. r ≡ slice_get (centres n s) k)
    (λ t. let h = ltb-true k (up_of s n) t in sym (centres_nth n s k (omega (arith, centres_count n s))))
    (λ t. let h = ltb-false k (up_of s n) t in sym (centres_past n s k (omega (arith, centres_count n s))))
