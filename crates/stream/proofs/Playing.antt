-- Reading a whole stream, mark by mark.
use Rattle.std.proofs.Common.{◌≡◌, ℕ, suc, ◌+◌, ◌-◌, ◌≤◌, Bool, true, false, cond, List, [], ◌∷◌, ◌++◌, length, drop, is_some, IsErrAnd, Some, None, Ok, Err, Option, Result, sym, refl, ap, ◌∙◌, subst, arith}
use Rattle.std.proofs.lemmas.List.{append_assoc, append-nil, drop_at, length-append, length-drop}
use Rattle.std.proofs.lemmas.Bool.Decides.{nat_tests}
use Rattle.std.specs.Result.{result_map_both}
use Rattle.size.specs.declared.refusal.Refusal.{Refusal}
use Rattle.size.specs.declared.refusal.Refusal.TheVariants.{NoMark}
use Rattle.backend.specs.declared.mark.Mark.{Mark}
use Rattle.backend.specs.Marks.{SMark, mark_of}
use Rattle.backend.specs.Devices.{Model}
use Rattle.backend.specs.Passes.{Fed}
use Rattle.backend.proofs.Feeding.{exits, fed_none, fed_stop, fed_then}
use Rattle.codec.specs.Format.{InRange, encode}
use Rattle.codec.specs.Reading.{first, headed, marks_or, onto, read, scan}
use Rattle.stream.specs.Readers.{Left, Next, after_next, next_of, opens, place_of, read_by}
use Rattle.stream.specs.Plays.{Played}
use Rattle.codec.proofs.Firsts.{first-encode}
use Rattle.codec.proofs.Scans.{encode_some, scan_mark, scan_nil, scan_none}

-- marks before those of an answer
abbrev joined : List SMark → Result (List SMark) ℕ → Result (List SMark) ℕ
joined ms r = result_map_both (λ ns. ms ++ ns) (λ p. p) r

-- a reader of bs that has read the marks ms, and has l left
pub record Reached (bs : List ℕ) (ms : List SMark) (l : Left) : Type 0 where
  pub all : l.all ≡ bs
  pub few : length l.rest + length ms ≤ length bs
  pub whole : read bs ≡ joined ms (scan (place_of l) 0 l.rest)

-- one that has read k marks
pub record Counted (bs : List ℕ) (k : ℕ) (l : Left) : Type 0 where
  pub marks : List SMark
  pub count : length marks ≡ k
  pub reached : Reached bs marks l

-- and they are put: the device went from d to d'
pub record PutTo (bs : List ℕ) (k : ℕ) (l : Left) (d d' : Model) : Type 0 where
  pub marks : List SMark
  pub count : length marks ≡ k
  pub reached : Reached bs marks l
  pub fed : Fed 0 marks d (Ok k) d'

-- ---- the header

opened : (bs : List ℕ) (l : Left) → headed bs ≡ true → l ≡ record { all = bs; rest = drop 5 bs } → Reached bs [] l
opened bs l h e =
    let n : 5 ≤ length bs = grind (arith, nat_tests) in
    let d = length-drop 5 bs in
    let p : length bs - length (drop 5 bs) ≡ 5 = omega arith in
    rw e (record { all = refl; few = omega arith; whole = rw (h, p) (grind arith) })

reached_start : (bs : List ℕ) (l : Left) → Ok l ≡ opens bs → Reached bs [] l
reached_start bs l e = elim (headed bs) as (λ b. headed bs ≡ b → Reached bs [] l) [ true ↦ λ h. opened bs l h (grind arith) | false ↦ λ h. absurd (grind arith) ] refl

pub put_start : (bs : List ℕ) (l : Left) (d : Model) → Ok l ≡ opens bs → PutTo bs 0 l d d
put_start bs l d e = record { marks = []; count = refl; reached = reached_start bs l e; fed = fed_none 0 d }

-- ---- one mark more

scan_next : (place : ℕ) (bs rest : List ℕ) (m : SMark) → bs ≡ encode m ++ rest → InRange m → scan place 0 bs ≡ onto m (scan (place + length (encode m)) 0 rest)
scan_next place bs rest m e r =
    let n = ap length e ∙ length-append (encode m) rest in
    let f : first bs ≡ Some m = ap first e ∙ first-encode m rest r in
    let d : drop (length (encode m)) bs ≡ rest = ap (drop (length (encode m))) e ∙ drop_at (encode m) rest (length (encode m)) refl in
    scan_mark place bs m f (omega arith) ∙ ap (λ x. onto m (scan (place + length (encode m)) 0 x)) d

joined-onto : (ms : List SMark) (m : SMark) (r : Result (List SMark) ℕ) → joined ms (onto m r) ≡ joined (ms ++ (m ∷ [])) r
joined-onto ms m (Ok ns) = ap Ok (sym (append_assoc ms (m ∷ []) ns))
joined-onto ms m (Err p) = refl

reached_mark : {bs : List ℕ} {ms : List SMark} {l : Left} (l' : Left) (m : SMark) → Reached bs ms l → l'.all ≡ l.all → Next l.rest (Ok (Some m)) l'.rest → Reached bs (ms ++ (m ∷ [])) l'
reached_mark {bs} {ms} {l} l' m h a x =
    let some = encode_some m in
    let n = ap length x.0 ∙ length-append (encode m) l'.rest in
    let more = length-append ms (m ∷ []) in
    let before = h.all in
    let few = h.few in
    let p : place_of l + length (encode m) ≡ place_of l' = grind arith in
    let s : scan (place_of l) 0 l.rest ≡ onto m (scan (place_of l') 0 l'.rest) = scan_next (place_of l) l.rest l'.rest m x.0 x.1 ∙ ap (λ q. onto m (scan q 0 l'.rest)) p in
    record {
      all = a ∙ h.all;
      few = omega arith;
      whole = h.whole ∙ ap (joined ms) s ∙ joined-onto ms m (scan (place_of l') 0 l'.rest);
    }

pushed : {k : ℕ} (ms : List SMark) (m : SMark) → length ms ≡ k → length (ms ++ (m ∷ [])) ≡ k + 1
pushed ms m e = length-append ms (m ∷ []) ∙ ap (λ n. n + 1) e

pub counted_some : {bs : List ℕ} {k : ℕ} {l : Left} (l' : Left) (o : Option Mark) → is_some o ≡ true → Counted bs k l → l' ≡ after_next l → Next l.rest (read_by (Ok o)) l'.rest → Counted bs (k + 1) l'
counted_some l' None e h a x = absurd (grind arith)
counted_some l' (Some m) e h a x = record { marks = h.marks ++ (mark_of m ∷ []); count = pushed h.marks (mark_of m) h.count; reached = reached_mark l' (mark_of m) h.reached (ap (λ (r : Left). r.all) a) x }

-- ---- the end, and where no mark starts

pub ruleset ends = (scan_nil, length-append)

stops : (bs : List ℕ) (place : ℕ) (x : Refusal) → Err x ≡ next_of bs place → (x ≡ NoMark place) × (scan place 0 bs ≡ Err place)
stops [] place x e = absurd (grind arith)
stops (b ∷ bs) place x e = let s = scan_none place b bs in grind arith

pub reached_stop : {bs : List ℕ} {ms : List SMark} {l : Left} {x : Refusal} → Reached bs ms l → Err x ≡ next_of l.rest (place_of l) → (x ≡ NoMark (place_of l)) × (read bs ≡ Err (place_of l))
reached_stop {bs} {ms} {l} {x} h e = let s = stops l.rest (place_of l) x e in (s.0, h.whole ∙ ap (joined ms) s.1)

-- what was read, by the arm of a match that it came to
next_is : {o o' : Option Mark} (bs rest : List ℕ) → o ≡ o' → Next bs (read_by (Ok o)) rest → Next bs (read_by (Ok o')) rest
next_is bs rest e x = subst (λ (v : Option Mark). Next bs (read_by (Ok v)) rest) e x

-- ---- onto a device, one mark for each turn

pub put_turn : {bs : List ℕ} {k : ℕ} {l : Left} {d d' d'' : Model} {o : Option Mark} {m : Mark} (l' : Left) → PutTo bs k l d d' → l' ≡ after_next l → o ≡ Some m →
    Next l.rest (read_by (Ok o)) l'.rest → Fed k (mark_of m ∷ []) d' (Ok (k + 1)) d'' → PutTo bs (k + 1) l' d d''
put_turn {l} {m} l' h a o x f = record {
  marks = h.marks ++ (mark_of m ∷ []);
  count = pushed h.marks (mark_of m) h.count;
  reached = reached_mark l' (mark_of m) h.reached (ap (λ (r : Left). r.all) a) (next_is l.rest l'.rest o x);
  fed = fed_then h.fed f;
}

halted : {ms ns : List SMark} {r : Result (List SMark) ℕ} {d d' : Model} {e : Refusal} (x : Result (List SMark) ℕ) (z : Result ℕ Refusal) → r ≡ Ok ns → r ≡ joined ms x → IsErrAnd z (λ y. y ≡ e) → Fed 0 ms d (Err e) d' → Played r d z d'
halted (Ok rest) z is j by f = rw j (exits by (fed_stop rest f))
halted (Err p) z is j by f = absurd (grind arith)

pub put_halt : {bs : List ℕ} {k : ℕ} {l : Left} {d d' d'' : Model} {e : Refusal} {o : Option Mark} {m : Mark} (l' : Left) (r : Result ℕ Refusal) → read bs ≡ Ok (marks_or (read bs)) → PutTo bs k l d d' → l' ≡ after_next l → o ≡ Some m →
    Next l.rest (read_by (Ok o)) l'.rest → IsErrAnd r (λ y. y ≡ e) → Fed k (mark_of m ∷ []) d' (Err e) d'' → Played (read bs) d r d''
put_halt {l} {m} l' r is h a o x by f =
    halted _ r is (reached_mark l' (mark_of m) h.reached (ap (λ (q : Left). q.all) a) (next_is l.rest l'.rest o x)).whole by (fed_then h.fed f)

pub put_all : {bs : List ℕ} {k : ℕ} {l : Left} {d d' : Model} {o : Option Mark} (rest : List ℕ) → PutTo bs k l d d' → o ≡ None → Next l.rest (read_by (Ok o)) rest → Played (read bs) d (Ok k) d'
put_all {bs} {k} {l} {d} {d'} rest h o x =
    let ms = h.marks in
    let end = (next_is l.rest rest o x).0 in
    let whole : read bs ≡ Ok ms = h.reached.whole ∙ ap (joined ms) (ap (scan (place_of l) 0) end ∙ scan_nil (place_of l)) ∙ ap Ok (append-nil ms) in
    rw whole h.fed
