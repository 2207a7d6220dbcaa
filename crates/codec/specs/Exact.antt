-- What makes a reader right, in terms of the format alone.
use Rattle.std.specs.Prelude.{◌≡◌, ℕ, ◌<◌, ◌⊎◌, List, ◌++◌, length, take, drop, Some, None, Ok, Err, Option, Result, ◌≢◌}
use Rattle.backend.specs.Marks.{SMark}
use Rattle.codec.specs.Format.{AllInRange, InRange, encode, header, stream}
use Rattle.codec.specs.Reading.{read}

-- bytes begin with no header, or with no mark that is in range
abbrev pub NoHeader : List ℕ → Type 0
NoHeader bs = (rest : List ℕ) → bs ≢ header ++ rest

abbrev pub NoMarkIn : List ℕ → Type 0
NoMarkIn bs = (m : SMark) (rest : List ℕ) → InRange m → bs ≢ encode m ++ rest

-- One mark: it is in range, and the bytes are its own and then the rest; or none starts.
abbrev pub Begins : List ℕ → Option (SMark × List ℕ) → Type 0
Begins bs (Some p) = (bs ≡ encode p.0 ++ p.1) × InRange p.0
Begins bs None = NoMarkIn bs

-- A whole stream. Either the bytes are the stream of these marks. Or place p is the first at which nothing starts: no header
-- at the very start; or the bytes before p are the stream of some marks, there are more, and no mark starts at p.
abbrev pub Right : List ℕ → Result (List SMark) ℕ → Type 0
Right bs (Ok ms) = AllInRange ms × (bs ≡ stream ms)
Right bs (Err p) = ((p ≡ 0) × NoHeader bs) ⊎ ((ms : List SMark) × (AllInRange ms × ((take p bs ≡ stream ms) × ((p < length bs) × NoMarkIn (drop p bs)))))

-- What is read is right, and every stream is read as its marks: so exactly the streams are accepted.
pub record Exact (bs : List ℕ) : Type 0 where
  pub right : Right bs (read bs)
  pub back : (ms : List SMark) → AllInRange ms → bs ≡ stream ms → read bs ≡ Ok ms
