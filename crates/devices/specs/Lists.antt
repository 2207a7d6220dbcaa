-- A list of marks in two slices, and the device that it is.
use Rattle.std.specs.Prelude.{◌≡◌, ℕ, ◌+◌, ◌-◌, ◌*◌, ◌/◌, ◌<◌, ◌≤◌, Bool, cond, ◌&&◌, List, map, length, take, Some, None, Option, ◌==◌, nat_le, nat_lt, slice_set, sum_by, refl}
use Rattle.std.proofs.Common.{mul-le-mul, div-le_self, arith}
use Rattle.std.proofs.lemmas.Bool.Decides.{nat_tests}
use Rattle.std.specs.Borrow.{GName}
use Rattle.std.specs.List.{list_all}
use Rattle.std.specs.Option.{option_map}
use Rattle.std.specs.Option as options
use Rattle.backend.specs.declared.shape.Shape.{Shape}
use Rattle.backend.specs.Marks.{SMark, line, text, end}
use Rattle.backend.specs.Devices.{Answers, Bounded, Extents, Model}
use Rattle.devices.specs.declared.record.Record.{Record}
use Rattle.devices.specs.declared.refusal.PutRefusal.{PutRefusal}
use Rattle.devices.specs.declared.refusal.PutRefusal.TheVariants.{NoRoom, NoTextRoom, LongText}
use Rattle.devices.specs.Refusals.{put_number}
use Rattle.devices.specs.Placed.{placed}
use Rattle.devices.specs.Records.{mark_in, record_from, text_in}

-- Both slices, how many records are used and how many bytes of text are filled.
pub record Held : Type 0 where
  pub records : List Record
  pub text : List ℕ
  pub used : ℕ
  pub filled : ℕ

abbrev pub emptied : List Record → List ℕ → Held
emptied rs t = record { records = rs; text = t; used = 0; filled = 0 }

-- the marks that it holds
abbrev pub marks_of : Held → List SMark
marks_of h = map (mark_in h.text) (take h.used h.records)

-- one record more, and the bytes of its text after those before
abbrev pub stored : Held → Record → List ℕ → Held
stored h r bytes = record {
  records = slice_set h.records h.used r;
  text = placed h.text h.filled bytes;
  used = h.used + 1;
  filled = h.filled + length bytes;
}

-- a mark more: its record, and its bytes if it is a text
abbrev pub added : Held → Shape → Held
added h s = stored h (record_from s h.filled (length (text_in s))) (text_in s)

-- the records and the bytes that are left
abbrev pub room_of : Held → ℕ × ℕ
room_of h = (length h.records - h.used, length h.text - h.filled)

-- whether a mark whose text has n bytes is taken, where so many records and bytes are left
abbrev pub verdict : ℕ × ℕ → ℕ → Option PutRefusal
verdict room n = cond (nat_lt 64 n) (Some LongText) (cond (room.0 == 0) (Some NoRoom) (cond (nat_lt room.1 n) (Some NoTextRoom) None))

abbrev pub bytes_in : SMark → ℕ
bytes_in (line x0 y0 x1 y1 ink) = 0
bytes_in (text x y anchor turn font ink bytes) = length bytes
bytes_in end = 0

abbrev pub text_bytes : List SMark → ℕ
text_bytes ms = sum_by bytes_in ms

-- what it would answer with these marks more: they use up records and bytes
abbrev pub answers_of : Held → Answers
answers_of h ms m = option_map put_number (verdict (length h.records - (h.used + length ms), length h.text - (h.filled + text_bytes ms)) (bytes_in m))

abbrev pub is_all_printable : List ℕ → Bool
is_all_printable bs = list_all (λ b. nat_le 32 b && nat_le b 126) bs

-- bytes × font ÷ 2 wide and font high
abbrev pub sized : Extents
sized bs f = cond (nat_le (length bs) 64 && is_all_printable bs) (Some (length bs * f / 2, f)) None

small : (n f : ℕ) (a b : Bool) → nat_le n 64 ≡ a → f < 256 →
    options.MatchOption {T = ℕ × ℕ} (cond (a && b) (Some (n * f / 2, f)) None) (Unit {0}) (λ p. (p.0 ≤ 30000) × (p.1 ≤ 30000))
small n f a b e lt = grind (arith, nat_tests, mul-le-mul, div-le_self)

pub sized_bounded : Bounded sized
sized_bounded t f lt = small (length t) f (nat_le (length t) 64) (is_all_printable t) refl lt

abbrev pub list_model : Held → List GName → Model
list_model h place = record { marks = marks_of h; answer = answers_of h; extent = sized; bounded = sized_bounded; place = place }
