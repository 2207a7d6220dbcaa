-- What the code reads and writes, as plain values.
use Rattle.std.specs.Prelude.{ℕ, List, [], ◌∷◌, ◌++◌, Option, option_map}
use Rattle.std.specs.Borrow.{Bor}
use Rattle.backend.specs.declared.shape.Lettering.{Lettering}
use Rattle.backend.specs.declared.mark.Mark.{Mark}
use Rattle.backend.specs.Anchors.{anchor_of, turn_of}
use Rattle.backend.specs.Marks.{SMark, mark_of}
use Rattle.codec.specs.Format.{be32}

-- the bytes of a text before its own, which are n in number
abbrev pub head_of : Lettering → ℕ → List ℕ
head_of l n = 2 ∷ (be32 l.x ++ (be32 l.y ++ (anchor_of l.anchor ∷ turn_of l.turn ∷ l.font ∷ l.ink ∷ n ∷ [])))

abbrev pub seen : Option (Mark × Bor (List ℕ)) → Option (SMark × List ℕ)
seen o = option_map (λ p. (mark_of p.0, p.1.now)) o

-- the mark alone
abbrev pub mark_in : Option (SMark × List ℕ) → Option SMark
mark_in o = option_map (λ p. p.0) o
