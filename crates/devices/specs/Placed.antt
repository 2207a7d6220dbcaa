-- Bytes put into a slice.
use Rattle.std.specs.Prelude.{ℕ, ◌+◌, List, ◌++◌, length, take, drop}

-- xs with its places from `at` on taken by ys
abbrev pub placed : List ℕ → ℕ → List ℕ → List ℕ
placed xs at ys = take at xs ++ (ys ++ drop (at + length ys) xs)
