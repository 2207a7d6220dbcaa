-- The stream device: one mark more.
use Rattle.std.specs.Result.{result_err}
use Rattle.std.proofs.Common.{◌≡◌, ℕ, ◌+◌, ◌-◌, ◌≤◌, true, List, [], ◌∷◌, ◌++◌, length, take, is_some, Ok, Err, Option, Result, sym, refl, ap, ◌∙◌, subst, add-zero, arith}
use mathlib.Core.Path.{fun_ext}
use Rattle.std.proofs.lemmas.List.{append_assoc, length-append, length-take-le, take_at}
use Rattle.std.proofs.lemmas.List.Edits.{paste_all, paste-paste}
use Rattle.std.proofs.lemmas.Slice.{put_mid-paste}
use lib.Seq.{paste}
use borrow.Rule.Slice.PartMut.{put_mid}
use Rattle.size.specs.Answers.{on_ok}
use Rattle.std.specs.Option.{option_map}
use Rattle.devices.specs.declared.refusal.PutRefusal.{PutRefusal}
use Rattle.devices.specs.Refusals.{put_number}
use Rattle.backend.specs.Marks.{SMark}
use Rattle.backend.specs.Devices.{Model, Put, advanced, later}
use Rattle.devices.specs.Lists.{bytes_in}
use Rattle.devices.specs.Placed.{placed}
use Rattle.devices.proofs.Keeping.{placed-length}
use base.Fml.{GName}
use Rattle.std.proofs.lemmas.Bool.Decides.{nat_tests}
use Rattle.codec.specs.Format.{AllInRange, InRange, encode, encodes, header, stream}
use Rattle.stream.specs.Openings.{marks_in, opened}
use Rattle.stream.specs.Written.{Encoded, Written, answers_of, front, grown, room_for, stream_model, verdict}
use Rattle.stream.specs.declared.device.StreamDevice.{StreamDevice}
use Rattle.stream.specs.Streamed.{numbered, streamed, written_by}
use Rattle.codec.proofs.Scans.{encodes_more, range_more, read_range, read-stream}
use Rattle.codec.specs.Reading.{marks_or}

pub marks_range : (bs : List ℕ) → AllInRange (marks_in bs)
unfolding marks_in
marks_range bs = read_range bs

-- the marks of a stream
pub marks_stream : (ms : List SMark) → AllInRange ms → marks_in (stream ms) ≡ ms
unfolding marks_in
marks_stream ms r = ap marks_or (read-stream ms r)

-- the header alone
pub whole_header : (hs rest : List ℕ) → hs ≡ header → take 5 (hs ++ rest) ≡ stream (marks_in (take 5 (hs ++ rest)))
whole_header hs rest e =
    let t : take 5 (hs ++ rest) ≡ header = rw e (take_at header rest 5 refl) in
    let none : marks_in header ≡ [] = marks_stream [] tt in
    rw t (rw none refl)

-- ---- one mark more

-- bytes placed after those written
pub front_grown : (xs : List ℕ) (n : ℕ) (ys : List ℕ) → n ≤ length xs → take (n + length ys) (placed xs n ys) ≡ take n xs ++ ys
front_grown xs n ys h = let k = length-take-le n xs h in grind (arith, take_at, append_assoc, length-append)

stream_more : (ms : List SMark) (m : SMark) → stream ms ++ encode m ≡ stream (ms ++ (m ∷ []))
stream_more ms m = ap (λ l. header ++ l) (sym (encodes_more ms m))

-- the marks of a stream with one mark more
pub marks_more : (bs : List ℕ) (m : SMark) → bs ≡ stream (marks_in bs) → InRange m → marks_in (bs ++ encode m) ≡ marks_in bs ++ (m ∷ [])
marks_more bs m e i =
    let ms = marks_in bs in
    let all : bs ++ encode m ≡ stream (ms ++ (m ∷ [])) = ap (λ l. l ++ encode m) e ∙ stream_more ms m in
    ap marks_in all ∙ marks_stream (ms ++ (m ∷ [])) (range_more ms m (marks_range bs) i)

pub whole_more : (bs : List ℕ) (m : SMark) → bs ≡ stream (marks_in bs) → InRange m → bs ++ encode m ≡ stream (marks_in (bs ++ encode m))
whole_more bs m e i =
    ap (λ l. l ++ encode m) e ∙ stream_more (marks_in bs) m ∙ ap stream (sym (marks_more bs m e i))

-- two parts written, one after the other
pub two_placed : (xs h t h' t' : List ℕ) (n : ℕ) → h' ≡ h → t' ≡ t → n ≤ length xs →
    put_mid (n + length h) (n + length h + length t - (n + length h)) (put_mid n (n + length h - n) xs h') t' ≡ placed xs n (h ++ t)
two_placed xs h t h' t' n p q l =
    let a : length h ≡ n + length h - n = omega arith in
    let b : length t ≡ n + length h + length t - (n + length h) = omega arith in
    let k : length h + length t ≡ length (h ++ t) = sym (length-append h t) in
    put_mid-paste (n + length h) _ _ t' t (length t) q b refl
    ∙ ap (λ o. paste o (n + length h) t (length t)) (put_mid-paste n _ xs h' h (length h) p a refl)
    ∙ paste-paste xs n h t (length h) (length t) refl refl l
    ∙ ap (paste xs n (h ++ t)) k
    ∙ paste_all xs n (h ++ t) (length (h ++ t)) refl

whole_by : (xs : List ℕ) (n : ℕ) (letters : Option ℕ) (bs : List ℕ) → is_some letters ≡ true → take n xs ≡ opened letters (marks_in (take n xs)) → Encoded bs →
    take n xs ++ bs ≡ opened letters (marks_in (take n xs ++ bs))
whole_by xs n letters bs s w e = let m = whole_more (take n xs) e.0 in grind arith

pub whole_grown : (xs out : List ℕ) (n k : ℕ) (letters : Option ℕ) (bs : List ℕ) → n ≤ length xs → is_some letters ≡ true →
    take n xs ≡ opened letters (marks_in (take n xs)) → Encoded bs → out ≡ placed xs n bs → k ≡ n + length bs → take k out ≡ opened letters (marks_in (take k out))
whole_grown xs out n k letters bs l s w e p q =
    let f : take k out ≡ take n xs ++ bs = ap (λ o. take k o) p ∙ ap (λ j. take j (placed xs n bs)) q ∙ front_grown xs n bs l in
    rw f (whole_by xs n letters bs s w e)

-- a stream in a slice by its parts
abbrev parts : List ℕ → ℕ → Option ℕ → Written
parts bs n letters = record { bytes = bs; used = n; letters = letters }

pub same_written : {bs bs' : List ℕ} {n n' : ℕ} {l l' : Option ℕ} → bs' ≡ bs → n' ≡ n → l' ≡ l → parts bs' n' l' ≡ parts bs n l
same_written a b c = cc

-- ---- the device advanced by a mark

-- An equation of functions: at each list and mark.
answers_more : (w : Written) (m : SMark) → w.used + length (encode m) ≤ length w.bytes → answers_of (grown w (encode m)) ≡ later (answers_of w) (m ∷ [])
answers_more w m h = fun_ext (λ xs. fun_ext (λ x.
    let l = placed-length w.bytes w.used (encode m) h in
    let n = length-append (encode m) (encodes xs) in
    let left : length (grown w (encode m)).bytes - (w.used + length (encode m) + length (encodes xs)) ≡ length w.bytes - (w.used + length (encodes (m ∷ xs))) = omega arith in
    ap (λ a. option_map put_number (verdict w.letters a x)) left))

model_more : (w : Written) (m : SMark) (p : List GName) → InRange m → w.used + length (encode m) ≤ length w.bytes → front w ≡ stream (marks_in (front w)) →
    stream_model (grown w (encode m)) p ≡ advanced (stream_model w p) (m ∷ [])
model_more w m p i h e =
    let f = front_grown w.bytes w.used (encode m) (omega arith) in
    let more = marks_more (front w) m e i in
    let a = answers_more w m h in
    cc

answer_now : (w : Written) (m : SMark) → answers_of w [] m ≡ option_map put_number (verdict w.letters (length w.bytes - w.used) m)
answer_now w m = rw (add-zero w.used)

range_short : (m : SMark) → InRange m → bytes_in m ≤ 64
range_short m i = grind arith

abbrev left_in : Written → ℕ
left_in w = length w.bytes - w.used

put_by : {U : Type 0} (w : Written) (m : SMark) (p : List GName) (r : Result U PutRefusal) → InRange m → w.used ≤ length w.bytes → front w ≡ opened w.letters (marks_in (front w)) →
    result_err r ≡ room_for w.letters (left_in w) (length (encode m)) → Put (stream_model w p) m (numbered r) (stream_model (on_ok r (grown w (encode m)) w) p)
put_by w m p (Ok u) i s h a =
    let n = answer_now w m in
    let b = range_short m i in
    let more = model_more w m p i in
    (grind (arith, nat_tests), more (grind (arith, nat_tests)) (grind (arith, nat_tests)))
put_by w m p (Err x) i s h a =
    let n = answer_now w m in
    let b = range_short m i in
    (grind (arith, nat_tests), refl)

-- a mark whose bytes were appended in two parts
pub put_parts : {U : Type 0} (d d' : StreamDevice) (m : SMark) (r : Result U PutRefusal) (head rest : List ℕ) → InRange m → head ++ rest ≡ encode m →
    result_err r ≡ room_for d.letters (left_in (written_by d)) (length head + length rest) → written_by d' ≡ on_ok r (grown (written_by d) (head ++ rest)) (written_by d) →
    (streamed d').place ≡ (streamed d).place → Put (streamed d) m (numbered r) (streamed d')
put_parts d d' m r head rest i is a g q =
    let w = written_by d in
    let p = (streamed d).place in
    let n : length head + length rest ≡ length (encode m) = sym (length-append head rest) ∙ ap length is in
    let e : streamed d' ≡ stream_model (on_ok r (grown w (encode m)) w) p =
    ap (λ v. stream_model v (streamed d').place) (g ∙ ap (λ bs. on_ok r (grown w bs) w) is) ∙ ap (stream_model (on_ok r (grown w (encode m)) w)) q in
    subst (λ (x : Model). Put (streamed d) m (numbered r) x) (sym e) (put_by w m p r i d.short d.whole (a ∙ ap (room_for d.letters (left_in w)) n))
