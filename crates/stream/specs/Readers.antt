-- A reader's steps: the header, then one mark after another.
use Rattle.std.specs.Prelude.{◌≡◌, ℕ, ◌-◌, ◌<◌, cond, List, [], ◌∷◌, ◌++◌, length, drop, Some, None, Ok, Err, Option, Result, option_map}
use Rattle.std.specs.Result.{result_map_both}
use Rattle.size.specs.declared.refusal.Refusal.{Refusal}
use Rattle.size.specs.declared.refusal.Refusal.TheVariants.{NoMark}
use Rattle.backend.specs.declared.mark.Mark.{Mark}
use Rattle.backend.specs.Marks.{SMark, mark_of}
use Rattle.stream.specs.declared.reader.StreamReader.{StreamReader}
use Rattle.codec.specs.Format.{InRange, encode}
use Rattle.codec.specs.Reading.{first, headed}
use Rattle.codec.specs.Exact.{NoMarkIn}

-- the whole stream, and what is left of it to read
pub record Left : Type 0 where
  pub all : List ℕ
  pub rest : List ℕ

abbrev pub left_in : StreamReader → Left
left_in r = record { all = r.input.now; rest = r.rest.now }

-- where what is left begins
abbrev pub place_of : Left → ℕ
place_of l = length l.all - length l.rest

-- a reader past the header, or refusal 10 at the start
abbrev pub opened_by : Result StreamReader Refusal → Result Left Refusal
opened_by r = result_map_both left_in (λ e. e) r

abbrev pub opens : List ℕ → Result Left Refusal
opens bs = cond (headed bs) (Ok (record { all = bs; rest = drop 5 bs })) (Err (NoMark 0))

-- the next mark, none at the end, or refusal 10 where none starts
abbrev pub read_by : Result (Option Mark) Refusal → Result (Option SMark) Refusal
read_by r = result_map_both (option_map mark_of) (λ e. e) r

abbrev pub or_refused : Option SMark → ℕ → Result (Option SMark) Refusal
or_refused (Some m) place = Ok (Some m)
or_refused None place = Err (NoMark place)

abbrev pub next_of : List ℕ → ℕ → Result (Option SMark) Refusal
next_of [] place = Ok None
next_of (b ∷ bs) place = or_refused (first (b ∷ bs)) place

abbrev pub past : Option SMark → List ℕ → List ℕ
past (Some m) bs = drop (length (encode m)) bs
past None bs = bs

-- the reader afterwards: past the mark, or as it was
abbrev pub after_next : Left → Left
after_next l = record { all = l.all; rest = past (first l.rest) l.rest }

-- The same by the format: what was left is the mark's bytes and then what is left now.
abbrev pub Next : List ℕ → Result (Option SMark) Refusal → List ℕ → Type 0
Next bs (Ok None) rest = (bs ≡ []) × (rest ≡ bs)
Next bs (Ok (Some m)) rest = (bs ≡ encode m ++ rest) × InRange m
Next bs (Err e) rest = ((0 < length bs) × NoMarkIn bs) × (rest ≡ bs)
