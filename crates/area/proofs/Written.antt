-- A loop that writes a value to each place of a slice. Assumes nothing.
use Rattle.std.proofs.Common.{◌≡◌, ℕ, ◌+◌, ◌<◌, List, [], ◌∷◌, ◌++◌, map, length, take, drop, set, sym, ap, ◌∙◌, arith}
use Rattle.std.specs.List.{range_with_len}
use Rattle.std.proofs.lemmas.List.{map-set, map-append, drop-map, take_more_set, length-map}
use Rattle.std.proofs.lemmas.List.FromFn.{map-range_with_len_more}

-- so far the first k values of f are written, as g reads them
abbrev pub Written : {X Y : Type 0} → (X → Y) → (ℕ → Y) → List X → ℕ → Type 0
Written g f xs k = take k (map g xs) ≡ map f (range_with_len 0 k)

pub written_more : {X Y : Type 0} (g : X → Y) (f : ℕ → Y) (xs : List X) (k : ℕ) (v : X) → k < length xs → g v ≡ f k → Written g f xs k → Written g f (set xs k v) (k + 1)
written_more g f xs k v lt e h =
    let n = length-map xs g in
    ap (take (k + 1)) (map-set g xs k v)
    ∙ take_more_set (map g xs) k (g v) (omega arith)
    ∙ ap (λ l. l ++ (g v ∷ [])) h
    ∙ ap (λ y. map f (range_with_len 0 k) ++ (y ∷ [])) e
    ∙ sym (map-range_with_len_more f 0 k k (omega arith))

-- the front of a slice is written, and the rest is as it was
pub rest_kept : {X Y : Type 0} (g : X → Y) (front xs : List X) (n : ℕ) → map g (front ++ drop n xs) ≡ map g front ++ drop n (map g xs)
rest_kept g front xs n = map-append g front (drop n xs) ∙ ap (λ l. map g front ++ l) (sym (drop-map g n xs))
