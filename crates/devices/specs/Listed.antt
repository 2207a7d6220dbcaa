-- What a list device of the code holds and means.
use Rattle.std.specs.Prelude.{[], ◌∷◌, Some, None, Option}
use Rattle.backend.specs.declared.shape.Shape.{Shape}
use Rattle.backend.specs.Marks.{SMark, shape_value}
use Rattle.backend.specs.Devices.{Model}
use Rattle.devices.specs.declared.list.ListDevice.{ListDevice}
use Rattle.devices.specs.Lists.{Held, list_model}

abbrev pub held_by : ListDevice → Held
held_by d = record { records = d.records.now; text = d.text.now; used = d.used; filled = d.filled }

abbrev pub listed : ListDevice → Model
listed d = list_model (held_by d) (d.records.ghost_name ∷ (d.text.ghost_name ∷ []))

-- what reading answers, as a mark's value
abbrev pub seen : Option Shape → Option SMark
seen None = None
seen (Some s) = Some (shape_value s)
