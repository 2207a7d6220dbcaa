-- A place part of the way from one limit to the other.
use Rattle.std.specs.Prelude.{ℕ, ◌+◌, ◌-◌, ◌/◌, ℤ, ◌+ℤ◌, ◌-ℤ◌, ◌*ℤ◌, int_div}

-- p ÷ w of the way from a to b; the quotient is cut toward zero
abbrev pub moved_by : ℤ → ℤ → ℤ → ℤ → ℤ
moved_by a b p w = a +ℤ int_div ((b -ℤ a) *ℤ p) w

-- x ÷ s, rounded up
abbrev pub up_of : ℕ → ℕ → ℕ
up_of s x = (x + (s - 1)) / s
