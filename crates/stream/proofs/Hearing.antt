-- What was written reads back.
use Rattle.std.proofs.Common.{◌≡◌, ℕ, ◌+◌, ◌≤◌, List, [], ◌∷◌, ◌++◌, length, Some, None, Ok, Err, Option, sym, refl, ap, ◌∙◌, zero-le, arith}
use Rattle.std.proofs.lemmas.List.{append-nil, append_assoc}
use Rattle.std.proofs.lemmas.Bool.Decides.{nat_tests}
use Rattle.backend.specs.Marks.{SMark}
use Rattle.devices.specs.Lists.{bytes_in}
use Rattle.devices.proofs.Keeping.{placed-length}
use Rattle.codec.specs.Format.{InRange, encode, header, stream}
use Rattle.codec.specs.Reading.{read}
use Rattle.stream.specs.Openings.{marks_in, opened}
use Rattle.stream.specs.Written.{Written, answers_of, beginning, begun, front, grown, lent}
use Rattle.stream.specs.RoundTrips.{Made, RoundTrip, after_put, after_puts, if_taken, taken_of}
use Rattle.codec.proofs.Scans.{read-stream}
use Rattle.stream.proofs.Appending.{front_grown, marks_more, marks_range, marks_stream, whole_more}

-- ---- one device

read_marks : (bs : List ℕ) → bs ≡ stream (marks_in bs) → read bs ≡ Ok (marks_in bs)
read_marks bs e = ap read e ∙ read-stream (marks_in bs) (marks_range bs)

-- what reads back; the first part shows `grind` where to use it
pub heard_read : (bs : List ℕ) (letters : Option ℕ) → bs ≡ opened letters (marks_in bs) →
    (opened letters (marks_in bs) ≡ opened letters (marks_in bs)) × (read bs ≡ elim letters [ Some c ↦ Ok (marks_in bs) | None ↦ Err 0 ])
heard_read bs (Some c) e = (refl, read_marks bs e)
heard_read bs None e = (refl, ap read e)

-- ---- any sequence of puts

record Sound (w : Written) : Type 0 where
  some : ℕ
  letters : w.letters ≡ Some some
  short : w.used ≤ length w.bytes
  whole : front w ≡ stream (marks_in (front w))

-- a mark that is taken fits, and its text is short
taken_room : (w : Written) (m : SMark) → Sound w → answers_of w [] m ≡ None → (bytes_in m ≤ 64) × (w.used + length (encode m) ≤ length w.bytes)
taken_room w m s t = let l = s.letters in let short = s.short in (grind (arith, nat_tests), grind (arith, nat_tests))

grown_sound : (w : Written) (m : SMark) → Sound w → InRange m → w.used + length (encode m) ≤ length w.bytes → Sound (grown w (encode m))
grown_sound w m s i h =
    let short = s.short in
    let f = front_grown w.bytes w.used (encode m) (omega arith) in
    let n = placed-length w.bytes w.used (encode m) h in
    record { some = s.some; letters = s.letters; short = omega arith; whole = rw f (whole_more (front w) m s.whole i) }

-- one put
put_sound : (o : Option ℕ) (w : Written) (m : SMark) → answers_of w [] m ≡ o → Sound w → (bytes_in m ≤ 64 → InRange m) → Sound (if_taken o (grown w (encode m)) w)
put_sound None w m e s i = let r = taken_room w m s e in grown_sound w m s (i r.0) r.1
put_sound (Some n) w m e s i = s

put_marks_lem : (o : Option ℕ) (w : Written) (m : SMark) (ms : List SMark) → answers_of w [] m ≡ o → Sound w → (bytes_in m ≤ 64 → InRange m) →
    marks_in (front (if_taken o (grown w (encode m)) w)) ++ ms ≡ marks_in (front w) ++ if_taken o (m ∷ ms) ms
put_marks_lem None w m ms e s i =
    let r = taken_room w m s e in
    let short = s.short in
    let f = front_grown w.bytes w.used (encode m) (omega arith) in
    ap (λ l. l ++ ms) (ap marks_in f ∙ marks_more (front w) m s.whole (i r.0)) ∙ append_assoc (marks_in (front w)) (m ∷ []) ms
put_marks_lem (Some n) w m ms e s i = refl

puts_sound : (w : Written) (ms : List SMark) → Sound w → Made ms → Sound (after_puts w ms)
puts_sound w [] s h = s
puts_sound w (m ∷ ms) s h = puts_sound (after_put w m) ms (put_sound (answers_of w [] m) w m refl s h.0) h.1

puts_marks : (w : Written) (ms : List SMark) → Sound w → Made ms → marks_in (front (after_puts w ms)) ≡ marks_in (front w) ++ taken_of w ms
puts_marks w [] s h = sym (append-nil (marks_in (front w)))
puts_marks w (m ∷ ms) s h =
    puts_marks (after_put w m) ms (put_sound (answers_of w [] m) w m refl s h.0) h.1
    ∙ put_marks_lem (answers_of w [] m) w m (taken_of (after_put w m) ms) refl s h.0

begun_sound : (bs : List ℕ) (c : ℕ) → 5 ≤ length bs → Sound (begun (lent bs) c)
begun_sound bs c h =
    let f = front_grown bs 0 header zero-le in
    let n = placed-length bs 0 header h in
    let none : marks_in header ≡ [] = marks_stream [] tt in
    record { some = c; letters = refl; short = omega arith; whole = rw f (rw none refl) }

begun_marks : (bs : List ℕ) (c : ℕ) → marks_in (front (begun (lent bs) c)) ≡ []
begun_marks bs c = ap marks_in (front_grown bs 0 header zero-le) ∙ marks_stream [] tt

begun_room : (bs : List ℕ) (c : ℕ) → beginning (lent bs) c ≡ Ok tt → 5 ≤ length bs
begun_room bs c e = grind (arith, nat_tests)

pub round_trip : RoundTrip
round_trip bs c ms e h =
    let w = begun (lent bs) c in
    let s = begun_sound bs c (begun_room bs c e) in
    let marks : marks_in (front (after_puts w ms)) ≡ taken_of w ms = puts_marks w ms s h ∙ ap (λ l. l ++ taken_of w ms) (begun_marks bs c) in
    read_marks (front (after_puts w ms)) (puts_sound w ms s h).whole ∙ ap Ok marks
