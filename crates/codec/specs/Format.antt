-- The bytes of a stream: a header, then marks one after another.
use Rattle.std.specs.Prelude.{ℕ, ◌/◌, ◌%◌, ◌≤◌, List, [], ◌∷◌, ◌++◌, length, flat_map, ℤ, FitsSigned}
use Rattle.std.specs.Int.{w32}
use Rattle.std.proofs.Common.{of_z}
use Rattle.backend.specs.Marks.{SMark, line, text, end}

-- the letters LSH and, in two bytes, version 1
abbrev pub header : List ℕ
header = 76 ∷ 83 ∷ 72 ∷ 0 ∷ 1 ∷ []

-- two's complement in 32 bits, the highest byte first
abbrev pub be32 : ℤ → List ℕ
be32 z = of_z w32 z / 16777216 % 256 ∷ of_z w32 z / 65536 % 256 ∷ of_z w32 z / 256 % 256 ∷ of_z w32 z % 256 ∷ []

abbrev pub encode : SMark → List ℕ
encode (line x0 y0 x1 y1 ink) = 1 ∷ (be32 x0 ++ (be32 y0 ++ (be32 x1 ++ (be32 y1 ++ (ink ∷ [])))))
encode (text x y anchor turn font ink bytes) = 2 ∷ (be32 x ++ (be32 y ++ (anchor ∷ turn ∷ font ∷ ink ∷ length bytes ∷ bytes)))
encode end = 3 ∷ []

abbrev pub encodes : List SMark → List ℕ
encodes ms = flat_map encode ms

abbrev pub stream : List SMark → List ℕ
stream ms = header ++ encodes ms

-- the numbers that a mark of a stream may have
abbrev pub InRange : SMark → Type 0
InRange (line x0 y0 x1 y1 ink) = FitsSigned w32 x0 × (FitsSigned w32 y0 × (FitsSigned w32 x1 × (FitsSigned w32 y1 × (ink ≤ 100))))
InRange (text x y anchor turn font ink bytes) = FitsSigned w32 x × (FitsSigned w32 y × ((anchor ≤ 8) × ((turn ≤ 3) × ((font ≤ 200) × ((ink ≤ 100) × (length bytes ≤ 64))))))
InRange end = Unit {0}

abbrev pub AllInRange : List SMark → Type 0
AllInRange [] = Unit {0}
AllInRange (m ∷ ms) = InRange m × AllInRange ms
