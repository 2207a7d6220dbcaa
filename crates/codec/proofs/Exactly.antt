-- Reading answers exactly the streams.
use Rattle.std.proofs.Common.{◌≡◌, ℕ, zero, suc, ◌+◌, ◌<◌, ◌≤◌, Bool, true, false, cond, List, [], ◌∷◌, ◌++◌, length, take, drop, Some, None, Ok, Err, Option, Result, sym, refl, ap, ◌∙◌, inl, inr, arith}
use Rattle.std.proofs.Math.Seq.{drop-append-add, take-append-add}
use Rattle.codec.proofs.Parses.{five}
use Rattle.std.proofs.lemmas.List.{get_or-take, length-append, drop-drop, get_or-drop}
use Rattle.std.proofs.lemmas.Bool.Decides.{nat_tests}
use Rattle.backend.specs.Marks.{SMark, end}
use Rattle.codec.specs.Format.{AllInRange, InRange, encode, encodes, header, stream}
use Rattle.codec.specs.Reading.{first, onto, scan, headed, read}
use Rattle.codec.specs.Exact.{Begins, Exact, NoMarkIn, Right}
use Rattle.codec.proofs.Firsts.{Bytes, first-encode, first_only, first_range, one}
use Rattle.codec.proofs.Scans.{encode_some, read-stream, scan_mark, scan_nil, scan_none}

-- ---- one mark

none_starts : (bs : List ℕ) → first bs ≡ None → NoMarkIn bs
none_starts bs e m rest r is = grind (arith, first-encode)

pub begins_none : (bs : List ℕ) → Bytes bs → Begins bs None → first bs ≡ None
begins_none bs f b =
    elim (first bs) as (λ o. first bs ≡ o → o ≡ None) [ None ↦ λ e. refl | Some m ↦ λ e. absurd (b m (drop (length (encode m)) bs) (first_range bs m e) (first_only bs m f e)) ] refl

pub first_end : (rest : List ℕ) → first (3 ∷ rest) ≡ Some end
unfolding first
first_end rest = refl

-- by cases of what a reader answers
pub ruleset firsts = (first-encode, first_end, begins_none)

-- ---- marks to the end

abbrev RightFrom : ℕ → List ℕ → Result (List SMark) ℕ → Type 0
RightFrom place bs (Ok ms) = AllInRange ms × (bs ≡ encodes ms)
RightFrom place bs (Err p) = (k : ℕ) × ((p ≡ place + k) × ((k < length bs) × ((ms : List SMark) × (AllInRange ms × ((take k bs ≡ encodes ms) × NoMarkIn (drop k bs))))))

right_onto : (place : ℕ) (bs rest : List ℕ) (m : SMark) (r : Result (List SMark) ℕ) → InRange m → bs ≡ encode m ++ rest → RightFrom (place + length (encode m)) rest r → RightFrom place bs (onto m r)
right_onto place bs rest m (Ok ms) i e h = grind arith
right_onto place bs rest m (Err p) i e h =
    let n = length (encode m) in
    let k = h.0 in
    let ms = h.1.1.1.0 in
    let q = h.1.1.1.1 in
    let l = ap length e ∙ length-append (encode m) rest in
    let t : take (n + k) bs ≡ encode m ++ encodes ms = rw (e, take-append-add) (ap (λ x. encode m ++ x) q.1.0) in
    let d : drop (n + k) bs ≡ drop k rest = rw (e, drop-append-add) refl in
    (n + k, (omega arith, (omega arith, (m ∷ ms, ((i, q.0), (t, λ m' rest' r' is'. q.1.1 m' rest' r' (sym d ∙ is')))))))

bytes_drop : (bs : List ℕ) (n : ℕ) → Bytes bs → Bytes (drop n bs)
bytes_drop bs n f i = rw (get_or-drop n bs i 0) (f (n + i))

abbrev RightAll : ℕ → Type 0
RightAll n = (place : ℕ) (bs : List ℕ) → length bs ≤ n → Bytes bs → RightFrom place bs (scan place 0 bs)

right_by : (o : Option SMark) (n place b : ℕ) (bs : List ℕ) → RightAll n → first (b ∷ bs) ≡ o → length (b ∷ bs) ≤ suc n → Bytes (b ∷ bs) → RightFrom place (b ∷ bs) (scan place 0 (b ∷ bs))
right_by None n place b bs all e h f =
    rw (scan_none place b bs e) (0, (omega arith, (omega arith, ([], (tt, (refl, none_starts (b ∷ bs) e))))))
right_by (Some m) n place b bs all e h f =
    let k = length (encode m) in
    let rest = drop k (b ∷ bs) in
    let is = first_only (b ∷ bs) m f e in
    let some = encode_some m in
    let long = ap length is ∙ length-append (encode m) rest in
    rw (scan_mark place (b ∷ bs) m e (omega arith)) (right_onto place (b ∷ bs) rest m _ (first_range (b ∷ bs) m e) is (all (place + k) rest (omega arith) (bytes_drop (b ∷ bs) k f)))

right_from : (n : ℕ) → RightAll n
right_from n place [] h f = rw (scan_nil place) (tt, refl)
right_from zero place (b ∷ bs) h f = absurd (omega arith)
right_from (suc n) place (b ∷ bs) h f = right_by (first (b ∷ bs)) n place b bs (right_from n) refl h f

-- ---- a whole stream

header_by : (bs : List ℕ) → headed bs ≡ true → bs ≡ header ++ drop 5 bs
header_by bs h = let n : 5 ≤ length bs = grind (arith, nat_tests) in grind (arith, nat_tests, five, get_or-take)

whole_by : (bs : List ℕ) (r : Result (List SMark) ℕ) → bs ≡ header ++ drop 5 bs → RightFrom 5 (drop 5 bs) r → Right bs r
whole_by bs (Ok ms) e h = grind arith
whole_by bs (Err p) e h =
    let k = h.0 in
    let q = h.1.1.1 in
    let l = ap length e ∙ length-append header (drop 5 bs) in
    let t : take (5 + k) bs ≡ stream q.0 = rw (e, take-append-add header (drop 5 bs) k) (ap (λ x. header ++ x) q.1.1.0) in
    let d : drop (5 + k) bs ≡ drop k (drop 5 bs) = sym (drop-drop k 5 bs) in
    rw h.1.0 (inr (q.0, (q.1.0, (t, (omega arith, λ m rest r is. q.1.1.1 m rest r (sym d ∙ is))))))

right_read : (b : Bool) (bs : List ℕ) → headed bs ≡ b → Bytes bs → Right bs (cond b (scan 5 0 (drop 5 bs)) (Err 0))
right_read true bs e f = whole_by bs _ (header_by bs e) (right_from (length (drop 5 bs)) 5 (drop 5 bs) (omega arith) (bytes_drop bs 5 f))
right_read false bs e f = inl (refl, λ rest is. grind (arith, nat_tests))

pub exact : (bs : List ℕ) → Bytes bs → Exact bs
exact bs f = record { right = right_read (headed bs) bs refl f; back = λ ms r is. ap read is ∙ read-stream ms r }
