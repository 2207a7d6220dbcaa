-- What a stream device of the code holds and means.
use Rattle.std.specs.Prelude.{ℕ, [], ◌∷◌, Result}
use Rattle.std.specs.Result.{result_map_both}
use Rattle.backend.specs.Devices.{Model}
use Rattle.devices.specs.declared.refusal.PutRefusal.{PutRefusal}
use Rattle.devices.specs.Refusals.{put_number}
use Rattle.stream.specs.declared.device.StreamDevice.{StreamDevice}
use Rattle.stream.specs.Written.{Written, stream_model}

abbrev pub written_by : StreamDevice → Written
written_by d = record { bytes = d.out.now; used = d.used; letters = d.letters }

abbrev pub streamed : StreamDevice → Model
streamed d = stream_model (written_by d) (d.out.ghost_name ∷ [])

-- an answer by the number of its refusal
abbrev pub numbered : {U : Type 0} → Result U PutRefusal → Result U ℕ
numbered r = result_map_both (λ u. u) put_number r
