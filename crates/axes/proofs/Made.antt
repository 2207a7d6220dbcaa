-- The k-th of a list whose items are made into others. Assumes nothing.
use Rattle.std.proofs.Common.{◌≡◌, ℕ, List, map, option_map, sym}
use Rattle.std.specs.List.{slice_get}
use Rattle.std.proofs.lemmas.Option.{slice_get-map}

pub nth_made : {V W : Type 0} (make : V → W) (vs : List V) (k : ℕ) → option_map make (slice_get vs k) ≡ slice_get (map make vs) k
nth_made make vs k = sym (slice_get-map make vs k)
