-- What stands in the front of a stream device's slice.
use Rattle.std.specs.Prelude.{ℕ, Bool, true, ◌&&◌, List, [], Some, None, Option, nat_le}
use Rattle.backend.specs.Marks.{SMark}
use Rattle.codec.specs.Format.{stream}
use Rattle.codec.specs.Reading.{marks_or, read}

-- the marks whose stream these bytes are
unfoldable pub marks_in : List ℕ → List SMark
marks_in bs = marks_or (read bs)

-- what is written once so many pixels are set for a letter: the stream of the marks; before that nothing
abbrev pub opened : Option ℕ → List SMark → List ℕ
opened (Some c) ms = stream ms
opened None ms = []

-- letters are 1 to 100 pixels wide
abbrev pub letters_ok : Option ℕ → Bool
letters_ok (Some c) = nat_le 1 c && nat_le c 100
letters_ok None = true
