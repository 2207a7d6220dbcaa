-- Bytes taken apart from the front, as the code does.
use Rattle.std.proofs.Common.{◌≡◌, ℕ, ◌≤◌, List, ◌∷◌, ◌++◌, length, get_or, take, drop, sym, refl, arith}
use Rattle.std.proofs.lemmas.List.{get_or-take}
use Rattle.std.proofs.lemmas.Int.{to_z-of_z}
use Rattle.codec.specs.Format.{be32}
use Rattle.codec.specs.Reading.{int}
use Rattle.codec.proofs.Firsts.{Bytes, int_drop, one}

-- four bytes say a number, and are its own; the first part shows `grind` where to use it
pub read_four : (xs : List ℕ) → Bytes xs → 4 ≤ length xs → (take 4 xs ≡ take 4 xs) × (be32 (int (take 4 xs) 0) ++ drop 4 xs ≡ xs)
read_four xs f h =
    let a = get_or-take 4 xs 0 0 (omega arith) in
    let b = get_or-take 4 xs 1 0 (omega arith) in
    let c = get_or-take 4 xs 2 0 (omega arith) in
    let d = get_or-take 4 xs 3 0 (omega arith) in
    (refl, rw (a, b, c, d) (sym (int_drop xs 0 f h)))

pub ruleset fours = (read_four, to_z-of_z)

-- five bytes at the front
pub five : (xs : List ℕ) → 5 ≤ length xs → (take 5 xs ≡ take 5 xs) ×
    (xs ≡ get_or (take 5 xs) 0 0 ∷ get_or (take 5 xs) 1 0 ∷ get_or (take 5 xs) 2 0 ∷ get_or (take 5 xs) 3 0 ∷ get_or (take 5 xs) 4 0 ∷ drop 5 xs)
five xs h =
    let p = get_or-take 5 xs 0 0 (omega arith) in
    let q = get_or-take 5 xs 1 0 (omega arith) in
    let r = get_or-take 5 xs 2 0 (omega arith) in
    let s = get_or-take 5 xs 3 0 (omega arith) in
    let t = get_or-take 5 xs 4 0 (omega arith) in
    let a = one xs 0 1 refl (omega arith) in
    let b = one xs 1 2 refl (omega arith) in
    let c = one xs 2 3 refl (omega arith) in
    let d = one xs 3 4 refl (omega arith) in
    let e = one xs 4 5 refl (omega arith) in
    (refl, rw (p, q, r, s, t) cc)

pub ruleset fives = (five, to_z-of_z)
