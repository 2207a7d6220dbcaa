-- A stream in a slice, and the device that it is.
use Rattle.std.specs.Prelude.{◌≡◌, ℕ, ◌+◌, ◌-◌, ◌*◌, ◌≤◌, Bool, true, false, cond, ◌&&◌, List, length, take, Some, None, Ok, Err, Option, Result, nat_le, nat_lt, refl}
use Rattle.std.proofs.Common.{mul-le-mul, arith, leb-true}
use Rattle.std.specs.Borrow.{GName}
use Rattle.std.specs.Option.{option_map}
use Rattle.std.specs.Option as options
use Rattle.size.specs.declared.refusal.Refusal.{Refusal}
use Rattle.size.specs.declared.refusal.Refusal.TheVariants.{Scale, Short}
use Rattle.backend.specs.Marks.{SMark}
use Rattle.backend.specs.Devices.{Answers, Bounded, Extents, Model}
use Rattle.devices.specs.declared.refusal.PutRefusal.{PutRefusal}
use Rattle.devices.specs.declared.refusal.PutRefusal.TheVariants.{NoRoom, LongText}
use Rattle.devices.specs.Refusals.{put_number}
use Rattle.devices.specs.Lists.{bytes_in}
use Rattle.devices.specs.Placed.{placed}
use Rattle.codec.specs.Format.{InRange, encode, encodes, header}
use Rattle.stream.specs.Openings.{marks_in}

-- The slice, how many of its bytes are written, and how wide a letter is; none before the stream is begun.
pub record Written : Type 0 where
  pub bytes : List ℕ
  pub used : ℕ
  pub letters : Option ℕ

abbrev pub front : Written → List ℕ
front w = take w.used w.bytes

-- lent, and nothing written
abbrev pub lent : List ℕ → Written
lent bs = record { bytes = bs; used = 0; letters = None }

-- begun anew: the header at the front of the slice
abbrev pub begun : Written → ℕ → Written
begun w c = record { bytes = placed w.bytes 0 header; used = 5; letters = Some c }

-- refused with 8 where letters are not 1 to 100 wide, with 9 where the slice has under 5 bytes
abbrev pub beginning : Written → ℕ → Result (Unit {0}) Refusal
beginning w c = cond (nat_le 1 c && nat_le c 100) (cond (nat_le 5 (length w.bytes)) (Ok tt) (Err Short)) (Err Scale)

-- bytes after those before
abbrev pub grown : Written → List ℕ → Written
grown w bs = record { bytes = placed w.bytes w.used bs; used = w.used + length bs; letters = w.letters }

-- the bytes of some mark in range
abbrev pub Encoded : List ℕ → Type 0
Encoded bs = (m : SMark) × (InRange m × (bs ≡ encode m))

-- whether n bytes more are taken where so many are left: no room where they do not fit or nothing is begun
abbrev pub room_for : Option ℕ → ℕ → ℕ → Option PutRefusal
room_for (Some c) left n = cond (nat_lt left n) (Some NoRoom) None
room_for None left n = Some NoRoom

-- what is answered to a mark: first whether its text is over 64 bytes, then by the room for its bytes
abbrev pub verdict : Option ℕ → ℕ → SMark → Option PutRefusal
verdict letters left m = cond (nat_lt 64 (bytes_in m)) (Some LongText) (room_for letters left (length (encode m)))

-- by numbers, with these marks more, which use up bytes
abbrev pub answers_of : Written → Answers
answers_of w ms m = option_map put_number (verdict w.letters (length w.bytes - (w.used + length (encodes ms))) m)

-- bytes × c wide and 2c high, for a text of at most 64 bytes; letters are never wider than 100
abbrev pub sized : Option ℕ → Extents
sized None bs f = None
sized (Some c) bs f = cond (nat_le (length bs) 64 && nat_le c 100) (Some (length bs * c, 2 * c)) None

small : (n c : ℕ) (a b : Bool) → nat_le n 64 ≡ a → nat_le c 100 ≡ b → options.MatchOption {T = ℕ × ℕ} (cond (a && b) (Some (n * c, 2 * c)) None) (Unit {0}) (λ p. (p.0 ≤ 30000) × (p.1 ≤ 30000))
small n c true true p q =
    let n-small : n ≤ 64 = leb-true n 64 p in
    let c-small : c ≤ 100 = leb-true c 100 q in
    let product : n * c ≤ 64 * 100 = mul-le-mul n-small c-small in
    (omega arith, omega arith)
small n c true false p q = tt
small n c false b p q = tt

pub sized_bounded : (letters : Option ℕ) → Bounded (sized letters)
sized_bounded None t f lt = tt
sized_bounded (Some c) t f lt = small (length t) c (nat_le (length t) 64) (nat_le c 100) refl refl

-- what reads back: the marks, or no header at place 0
abbrev pub heard : Written → Result (List SMark) ℕ
heard w = elim w.letters [ Some c ↦ Ok (marks_in (front w)) | None ↦ Err 0 ]

abbrev pub stream_model : Written → List GName → Model
stream_model w place = record { marks = marks_in (front w); answer = answers_of w; extent = sized w.letters; bounded = sized_bounded w.letters; place = place }
