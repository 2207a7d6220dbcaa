-- Passes: marks put in their order, up to the first that is refused.
use Rattle.std.specs.Prelude.{◌≡◌, ℕ, ◌+◌, ◌<◌, ◌≤◌, ◌⊎◌, List, [], ◌∷◌, length, take, Some, None, Ok, Err, Option, Result, slice_index_or, flat_map}
use Rattle.size.specs.declared.refusal.Refusal.{Refusal}
use Rattle.size.specs.declared.refusal.Refusal.TheVariants.{Device}
use Rattle.backend.specs.Marks.{SMark, end}
use Rattle.backend.specs.Devices.{Answers, Model, later, advanced}

-- a mark's answer, the count before it, and what comes where it is taken
abbrev pub step : Option ℕ → ℕ → Result ℕ Refusal → Result ℕ Refusal
step None a rest = rest
step (Some n) a rest = Err (Device n a)

-- what a pass answers, its count going on from a: the count after it, or the device's number and the count
unfoldable pub run : Answers → ℕ → List SMark → Result ℕ Refusal
run f a [] = Ok a
run f a (m ∷ ms) = step (f [] m) a (run (later f (m ∷ [])) (a + 1) ms)

-- nothing from a refused mark on
abbrev pub unless : Option ℕ → List SMark → List SMark
unless None rest = rest
unless (Some n) rest = []

-- the marks of a pass that are put: those before the first that is refused
unfoldable pub taken : Answers → List SMark → List SMark
taken f [] = []
taken f (m ∷ ms) = unless (f [] m) (m ∷ taken (later f (m ∷ [])) ms)

-- A pass of ms over the device d, its count going on from a: it answers r and leaves the device d'.
pub record Fed (a : ℕ) (ms : List SMark) (d : Model) (r : Result ℕ Refusal) (d' : Model) : Type 0 where
  pub answered : r ≡ run d.answer a ms
  pub after : d' ≡ advanced d (taken d.answer ms)

-- The same said by places. Either every mark would be taken after those before it, and all are put; or mark i is the first
-- that would not, its number n is answered with the count, and those before it are put.
abbrev pub Takes : Answers → List SMark → ℕ → Type 0
Takes f ms k = (i : ℕ) → i < k → f (take i ms) (slice_index_or ms i end) ≡ None

abbrev pub Goes : Answers → ℕ → List SMark → Type 0
Goes f a ms = Takes f ms (length ms) × (run f a ms ≡ Ok (a + length ms)) × (taken f ms ≡ ms)

abbrev pub Stops : Answers → ℕ → List SMark → ℕ → ℕ → Type 0
Stops f a ms i n = (i < length ms) × (Takes f ms i × (f (take i ms) (slice_index_or ms i end) ≡ Some n) × (run f a ms ≡ Err (Device n (a + i))) × (taken f ms ≡ take i ms))

abbrev pub EveryPass : Type 0
EveryPass = (f : Answers) (a : ℕ) (ms : List SMark) → Goes f a ms ⊎ ((i : ℕ) × ((n : ℕ) × Stops f a ms i n))

-- the marks of each value, in their order
abbrev pub each : {V : Type 0} → (V → List SMark) → List V → List SMark
each f vs = flat_map f vs

-- after k turns of a loop over values, each of which puts its marks: the count went from a to p, the device from d to d'
pub record FedTo {V : Type 0} (f : V → List SMark) (vs : List V) (k a : ℕ) (d : Model) (p : ℕ) (d' : Model) : Type 0 where
  pub reached : k ≤ length vs
  pub fed : Fed a (each f (take k vs)) d (Ok p) d'
