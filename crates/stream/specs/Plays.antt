-- A whole stream read onto a device.
use Rattle.std.specs.Prelude.{◌≡◌, ℕ, ◌+◌, List, length, Ok, Err, Result}
use Rattle.std.specs.Result.{result_map_both}
use Rattle.size.specs.declared.refusal.Refusal.{Refusal}
use Rattle.size.specs.declared.refusal.Refusal.TheVariants.{NoMark}
use Rattle.backend.specs.Marks.{SMark}
use Rattle.backend.specs.Devices.{Model}
use Rattle.backend.specs.Passes.{Fed}

-- how many marks were read, n before them; or refusal 10 and the place
abbrev pub counted : ℕ → Result (List SMark) ℕ → Result ℕ Refusal
counted n r = result_map_both (λ ms. n + length ms) NoMark r

-- What was read is a pass over the device d, which answers r and leaves d'. Bytes that are no stream are refused with 10 and the
-- place, and the device is as it was.
abbrev pub Played : Result (List SMark) ℕ → Model → Result ℕ Refusal → Model → Type 0
Played (Ok ms) d r d' = Fed 0 ms d r d'
Played (Err p) d r d' = (r ≡ Err (NoMark p)) × (d' ≡ d)
