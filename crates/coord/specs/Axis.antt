-- What an axis means, and its laws.
use Rattle.std.specs.Prelude.{◌≡◌, ℕ, ◌≤◌, Bool, cond, ◌&&◌, List, length, drop, ℤ, pos, negsuc, ◌+ℤ◌, ◌-ℤ◌, ◌≤ℤ◌, Some, None, Ok, Err, Option, Result, int_le}
use Rattle.std.specs.Int.{int_min, int_max}
use Rattle.std.specs.List.{slice_get}
use Rattle.size.specs.declared.refusal.Refusal.{Refusal}
use Rattle.size.specs.declared.refusal.Refusal.TheVariants.{Range}
use Rattle.coord.specs.Hints.{Hint}

-- a place for each value and two limits, the key values for each hint, and the lowest and highest place that is shown
pub record Axis (V : Type 0) : Type 0 where
  pub place : V → ℤ → ℤ → ℤ
  pub keys : Hint → List V
  pub low : ℤ → ℤ → ℤ
  pub high : ℤ → ℤ → ℤ

-- ---- laws

-- a limit that an axis takes
pub record Within (a : ℤ) : Type 0 where
  pub above : negsuc 29999 ≤ℤ a
  pub below : a ≤ℤ pos 30000

-- p lies between a and b, which may stand in either order
pub record Between (a b p : ℤ) : Type 0 where
  pub least : int_min a b ≤ℤ p
  pub most : p ≤ℤ int_max a b

-- A place lies between the limits, and the places for (a, b) and for (b, a) add up to a + b.
-- The shown range lies between them, in order, and for (b, a) it is a + b − high to a + b − low.
pub record Places {V : Type 0} (x : Axis V) (a b : ℤ) : Type 0 where
  pub inside : (v : V) → Between a b (x.place v a b)
  pub mirror : (v : V) → x.place v a b +ℤ x.place v b a ≡ a +ℤ b
  pub least : int_min a b ≤ℤ x.low a b
  pub ordered : x.low a b ≤ℤ x.high a b
  pub greatest : x.high a b ≤ℤ int_max a b
  pub low_turned : x.low b a ≡ a +ℤ b -ℤ x.high a b
  pub high_turned : x.high b a ≡ a +ℤ b -ℤ x.low a b

-- key values are no more than were asked for, and all limits that are taken have their places so
pub record Lawful {V : Type 0} (x : Axis V) : Type 0 where
  pub few : (h : Hint) → length (x.keys h) ≤ h.most
  pub places : (a b : ℤ) → Within a → Within b → Places x a b

-- two axes that mean the same
pub record Same {V : Type 0} (x y : Axis V) : Type 0 where
  pub place : (v : V) (a b : ℤ) → x.place v a b ≡ y.place v a b
  pub keys : (h : Hint) → x.keys h ≡ y.keys h
  pub low : (a b : ℤ) → x.low a b ≡ y.low a b
  pub high : (a b : ℤ) → x.high a b ≡ y.high a b

-- ---- answers

abbrev pub within : ℤ → Bool
within a = int_le (negsuc 29999) a && int_le a (pos 30000)

abbrev pub taken : ℤ × ℤ → Bool
taken l = within l.0 && within l.1

-- an answer for two limits, or a refusal of them
abbrev pub bounded : {X : Type 0} → ℤ × ℤ → (ℤ → ℤ → X) → Result X Refusal
bounded l f = cond (taken l) (Ok (f l.0 l.1)) (Err Range)

-- the lowest and highest place that is shown
abbrev pub shown : {V : Type 0} → Axis V → ℤ → ℤ → ℤ × ℤ
shown x a b = (x.low a b, x.high a b)

-- the place of a value, if there is one
abbrev pub place_of_some : {V : Type 0} → Axis V → Option V → ℤ → ℤ → Option ℤ
place_of_some x (Some v) a b = Some (x.place v a b)
place_of_some x None a b = None

-- the place of the k-th key value
abbrev pub key_place_of : {V : Type 0} → Axis V → Hint → ℕ → ℤ → ℤ → Option ℤ
key_place_of x h k a b = place_of_some x (slice_get (x.keys h) k) a b

-- the key values from the k-th on
abbrev pub left_of : {V : Type 0} → Axis V → Hint → ℕ → List V
left_of x h k = drop k (x.keys h)
