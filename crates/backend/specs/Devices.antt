-- A device by its meaning.
use Rattle.std.specs.Prelude.{◌≡◌, ℕ, ◌<◌, ◌≤◌, List, [], ◌∷◌, ◌++◌, IfSome, Some, None, Ok, Err, Option, Result}
use Rattle.std.specs.Borrow.{GName}
use Rattle.backend.specs.Marks.{SMark}

-- What a device would answer to a mark once it has taken these marks more: None where the mark would be taken, else the
-- number that it would be refused with. Nothing is said of how it comes to that, so every device whose answers follow
-- from what it has taken has such a function, whatever else it keeps.
abbrev pub Answers : Type 0
Answers = List SMark → SMark → Option ℕ

-- the answers from where these marks have been taken
abbrev pub later : Answers → List SMark → Answers
later f ms = λ xs m. f (ms ++ xs) m

-- of a text and a font, the width and the height, or no measure
abbrev pub Extents : Type 0
Extents = List ℕ → ℕ → Option (ℕ × ℕ)

-- at every font that a byte can say, at most 30,000 by 30,000
abbrev pub Bounded : Extents → Type 0
Bounded e = (t : List ℕ) (f : ℕ) → f < 256 → IfSome (e t f) (λ p. (p.0 ≤ 30000) × (p.1 ≤ 30000))

-- The marks that a device holds, its answers and its measures. Last, the memory lent to it, by the names of the
-- references, so that whoever lent it knows it again.
pub record Model : Type 0 where
  pub marks : List SMark
  pub answer : Answers
  pub extent : Extents
  pub bounded : Bounded extent
  pub place : List GName

-- the device once it has taken these marks: no measure has changed
abbrev pub advanced : Model → List SMark → Model
advanced d ms = record { marks = d.marks ++ ms; answer = later d.answer ms; extent = d.extent; bounded = d.bounded; place = d.place }

-- One mark put: taken at the end, or refused with the device's number and nothing changed.
abbrev pub Put : {U : Type 0} → Model → SMark → Result U ℕ → Model → Type 0
Put d m (Ok _) d' = (d.answer [] m ≡ None) × (d' ≡ advanced d (m ∷ []))
Put d m (Err n) d' = (d.answer [] m ≡ Some n) × (d' ≡ d)
