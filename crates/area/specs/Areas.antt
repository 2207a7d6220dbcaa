-- What an area of the code is: its corners.
use Rattle.std.specs.Prelude.{Ok, Err, Result}
use Rattle.size.specs.declared.refusal.Refusal.{Refusal}
use Rattle.area.specs.declared.Area.{Area}
use Rattle.area.specs.Corners.{Corners}

abbrev pub corners : Area → Corners
corners a = record { left = a.across.from; top = a.down.from; right = a.across.to; bottom = a.down.to }

abbrev pub viewed : Result Area Refusal → Result Corners Refusal
viewed (Ok a) = Ok (corners a)
viewed (Err e) = Err e

abbrev pub viewed_pair : Result (Area × Area) Refusal → Result (Corners × Corners) Refusal
viewed_pair (Ok p) = Ok (corners p.0, corners p.1)
viewed_pair (Err e) = Err e
