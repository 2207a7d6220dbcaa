-- What a reader answers of bytes, and that this is right.
use Rattle.std.specs.Prelude.{ℕ, zero, suc, ◌+◌, ◌-◌, ◌*◌, Bool, cond, ◌&&◌, List, [], ◌∷◌, length, take, drop, ℤ, Some, None, Ok, Err, Option, Result, ◌==◌, nat_le, slice_index}
use Rattle.std.specs.Int.{w32}
use Rattle.std.specs.Result.{result_map_both, result_unwrap_or}
use Rattle.std.proofs.Common.{to_z}
use Rattle.backend.specs.Marks.{SMark, line, text, end}
use Rattle.codec.specs.Format.{encode}

-- the number that the four bytes from k on say
abbrev pub int : List ℕ → ℕ → ℤ
int bs k = to_z w32 (slice_index bs k * 16777216 + slice_index bs (k + 1) * 65536 + slice_index bs (k + 2) * 256 + slice_index bs (k + 3))

-- the fields of a line and of a text, past the byte of their kind
unfoldable pub line_in : List ℕ → Option SMark
line_in bs = cond (nat_le 17 (length bs) && nat_le (slice_index bs 16) 100) (Some (line (int bs 0) (int bs 4) (int bs 8) (int bs 12) (slice_index bs 16))) None

abbrev pub is_text_fitting : List ℕ → Bool
is_text_fitting bs = nat_le (slice_index bs 8) 8 && (nat_le (slice_index bs 9) 3 && (nat_le (slice_index bs 10) 200 && (nat_le (slice_index bs 11) 100 && nat_le (slice_index bs 12) 64)))

unfoldable pub text_in : List ℕ → Option SMark
text_in bs =
    cond (nat_le 13 (length bs) && (is_text_fitting bs && nat_le (13 + slice_index bs 12) (length bs)))
    (Some (text (int bs 0) (int bs 4) (slice_index bs 8) (slice_index bs 9) (slice_index bs 10) (slice_index bs 11) (take (slice_index bs 12) (drop 13 bs)))) None

-- the mark that bytes begin with
unfoldable pub first : List ℕ → Option SMark
first [] = None
first (kind ∷ bs) = cond (kind == 1) (line_in bs) (cond (kind == 2) (text_in bs) (cond (kind == 3) (Some end) None))

-- a mark before the others
abbrev pub onto : SMark → Result (List SMark) ℕ → Result (List SMark) ℕ
onto m r = result_map_both (λ ms. m ∷ ms) (λ p. p) r

-- The marks to the end of the bytes, or the place at which none starts. The bytes stand at a place; the first k of them
-- belong to a mark before.
unfoldable pub scan : ℕ → ℕ → List ℕ → Result (List SMark) ℕ
scan place k [] = Ok []
scan place (suc k) (b ∷ bs) = scan (place + 1) k bs
scan place zero (b ∷ bs) = elim (first (b ∷ bs)) [ Some m ↦ onto m (scan (place + 1) (length (encode m) - 1) bs) | None ↦ Err place ]

abbrev pub headed : List ℕ → Bool
headed bs = nat_le 5 (length bs) && (slice_index bs 0 == 76 && (slice_index bs 1 == 83 && (slice_index bs 2 == 72 && (slice_index bs 3 == 0 && slice_index bs 4 == 1))))

-- the marks of a stream, or the place at which no header or mark starts
abbrev pub read : List ℕ → Result (List SMark) ℕ
read bs = cond (headed bs) (scan 5 0 (drop 5 bs)) (Err 0)

-- the marks, where the bytes are a stream
abbrev pub marks_or : Result (List SMark) ℕ → List SMark
marks_or r = result_unwrap_or r []
