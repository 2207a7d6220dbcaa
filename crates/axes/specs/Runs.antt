-- The multiples of a step as a run of numbers.
use Rattle.std.specs.Prelude.{◌≡◌, ℕ, ◌-◌, ◌*◌, ◌<◌, ◌≤◌, List, map, ℤ, pos, ◌-ℤ◌, ◌≤ℤ◌}
use Rattle.std.specs.List.{range_with_len}
use Rattle.axes.specs.Whole.{multiples}

-- the q-th multiple of s, counted from -c
abbrev pub nth_of : ℕ → ℕ → ℕ → ℤ
nth_of s c q = pos (q * s) -ℤ pos (c * s)

-- the multiples from the u-th to below the v-th
abbrev pub run : ℕ → ℕ → ℕ → ℕ → List ℤ
run s c u v = map (nth_of s c) (range_with_len u (v - u))

-- the multiples from lo to hi are those from the u-th to below the v-th, counted from 2,000,000 steps below zero
pub record Spans (lo hi : ℤ) (s u v : ℕ) : Type 0 where
  pub are : multiples s lo hi ≡ run s 2000000 u v
  pub ordered : u ≤ v
  pub above : (q : ℕ) → u ≤ q → lo ≤ℤ nth_of s 2000000 q
  pub below : (q : ℕ) → q < v → nth_of s 2000000 q ≤ℤ hi
