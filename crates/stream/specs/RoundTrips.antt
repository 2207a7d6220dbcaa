-- Any sequence of puts, refused ones among them, reads back as the marks that were taken.
use Rattle.std.specs.Prelude.{◌≡◌, ℕ, ◌≤◌, List, [], ◌∷◌, Some, None, Ok, Option}
use Rattle.backend.specs.Marks.{SMark}
use Rattle.devices.specs.Lists.{bytes_in}
use Rattle.codec.specs.Format.{InRange, encode}
use Rattle.codec.specs.Reading.{read}
use Rattle.stream.specs.Written.{Written, answers_of, beginning, begun, front, grown, lent}

-- the mark where it is taken, or nothing
abbrev pub if_taken : {X : Type 0} → Option ℕ → X → X → X
if_taken None x y = x
if_taken (Some n) x y = y

-- the slice after a put: the mark's bytes are written, or nothing has changed
abbrev pub after_put : Written → SMark → Written
after_put w m = if_taken (answers_of w [] m) (grown w (encode m)) w

abbrev pub after_puts : Written → List SMark → Written
after_puts w [] = w
after_puts w (m ∷ ms) = after_puts (after_put w m) ms

-- the marks that were taken
abbrev pub taken_of : Written → List SMark → List SMark
taken_of w [] = []
taken_of w (m ∷ ms) = if_taken (answers_of w [] m) (m ∷ taken_of (after_put w m) ms) (taken_of (after_put w m) ms)

-- the numbers of marks that can be made; their texts may be of any length
abbrev pub Made : List SMark → Type 0
Made [] = Unit {0}
Made (m ∷ ms) = (bytes_in m ≤ 64 → InRange m) × Made ms

-- over every slice in which a stream can be begun, and every sequence of puts
abbrev pub RoundTrip : Type 0
RoundTrip = (bs : List ℕ) (c : ℕ) (ms : List SMark) → beginning (lent bs) c ≡ Ok tt → Made ms → read (front (after_puts (begun (lent bs) c) ms)) ≡ Ok (taken_of (begun (lent bs) c) ms)
