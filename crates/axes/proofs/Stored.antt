-- Differences and shares as they are computed at 64 bits.
use Rattle.std.proofs.Common.{◌≡◌, ℤ, pos, negsuc, ◌-ℤ◌, ◌*ℤ◌, ◌≤ℤ◌, ◌<ℤ◌, arith, w32, w64, SFits, to_z, of_z}
use Rattle.std.specs.Prelude.{int_div}
use Rattle.std.proofs.lemmas.Int.{ints, clamps, to_z-of_z}
use Rattle.axes.specs.Moves.{share_bounds, product_fits}

abbrev at32 : ℤ → ℤ
at32 z = to_z w32 (of_z w32 z)

abbrev at64 : ℤ → ℤ
at64 z = to_z w64 (of_z w64 z)

-- `x as i64 - y as i64`
pub apart_stored : (x y : ℤ) → SFits w32 x → SFits w32 y → at64 (at64 (at32 x) -ℤ at64 (at32 y)) ≡ x -ℤ y
apart_stored x y f g = omega (arith, ints)

-- `run * part / whole`
module _ (x p w : ℤ) (run : (negsuc 59999 ≤ℤ x) × (x ≤ℤ pos 60000)) (part : (pos 0 ≤ℤ p) × (p ≤ℤ w)) (whole : (pos 0 <ℤ w) × (w ≤ℤ pos 4000000)) where
  share_near : (negsuc 59999 ≤ℤ int_div (x *ℤ p) w) × (int_div (x *ℤ p) w ≤ℤ pos 60000)
  share_near =
      let s = share_bounds x p w part.0 part.1 in
      (omega (arith, ints, clamps), omega (arith, ints, clamps))

  pub share_stored : at64 (int_div (at64 (at64 x *ℤ at64 p)) (at64 w)) ≡ int_div (x *ℤ p) w
  share_stored =
      let fx : SFits w64 x = omega (arith, ints) in
      let fp : SFits w64 p = omega (arith, ints) in
      let fw : SFits w64 w = omega (arith, ints) in
      let t : SFits w64 (x *ℤ p) = product_fits x p run.0 run.1 part.0 (omega (arith, ints)) in
      let n = share_near in
      let f : SFits w64 (int_div (x *ℤ p) w) = omega (arith, ints) in
      simp to_z-of_z

  pub share_low : negsuc 59999 ≤ℤ at64 (int_div (at64 (at64 x *ℤ at64 p)) (at64 w))
  share_low = rw share_stored share_near.0

  pub share_high : at64 (int_div (at64 (at64 x *ℤ at64 p)) (at64 w)) ≤ℤ pos 60000
  share_high = rw share_stored share_near.1
