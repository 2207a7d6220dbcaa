-- The axis under a pile, for the limits that the pile hands it, answers as the pile does.
use Rattle.std.proofs.Common.{◌≡◌, Bool, true, false, cond, ℤ, Some, None, Option, refl, arith}
use Rattle.coord.specs.Axis.{Axis, bounded, shown}
use Rattle.coord.specs.Piles.{reduced_axis}

pub below_place : {V : Type 0} (t : Bool) (p : Option (V × V)) (x : Axis V) (v : V) (l : ℤ × ℤ) → bounded (cond t (l.1, l.0) l) (x.place v) ≡ bounded l ((reduced_axis t p x).place v)
below_place true (Some p) x v l = grind arith
below_place true None x v l = grind arith
below_place false (Some p) x v l = refl
below_place false None x v l = refl

pub below_shown : {V : Type 0} (t : Bool) (p : Option (V × V)) (x : Axis V) (l : ℤ × ℤ) → p ≡ None → bounded (cond t (l.1, l.0) l) (shown x) ≡ bounded l (shown (reduced_axis t p x))
below_shown t (Some p) x l n = cc
below_shown true None x l n = grind arith
below_shown false None x l n = refl
