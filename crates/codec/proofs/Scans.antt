-- Marks one after another.
use Rattle.std.proofs.Common.{◌≡◌, ℕ, zero, suc, add-zero, ◌+◌, ◌-◌, ◌≤◌, true, List, [], ◌∷◌, ◌++◌, length, drop, Some, None, Ok, Err, Result, refl, ap, ◌∙◌, arith}
use Rattle.std.proofs.lemmas.List.{drop_more, append-nil, drop_at, length-append}
use Rattle.std.proofs.lemmas.List.Concat.{flat_map-append}
use Rattle.std.proofs.lemmas.Bool.Decides.{nat_tests}
use Rattle.backend.specs.Marks.{SMark, line, text, end}
use Rattle.codec.specs.Format.{AllInRange, InRange, encode, encodes, stream}
use Rattle.codec.specs.Reading.{first, onto, scan, headed, marks_or, read}
use Rattle.codec.proofs.Firsts.{first-encode, first_range}

pub encode_some : (m : SMark) → 1 ≤ length (encode m)
encode_some (line x0 y0 x1 y1 ink) = omega arith
encode_some (text x y anchor turn font ink bytes) = omega arith
encode_some end = omega arith

-- the bytes of a mark before are passed over
scan_past : (place k : ℕ) (bs : List ℕ) → k ≤ length bs → scan place k bs ≡ scan (place + k) 0 (drop k bs)
unfolding scan
scan_past place zero bs h = rw (add-zero place) refl
scan_past place (suc k) [] h = absurd (omega arith)
scan_past place (suc k) (b ∷ bs) h = let r = scan_past (place + 1) k bs (omega arith) in let e : place + 1 + k ≡ place + suc k = omega arith in cc

drop_one : (n b : ℕ) (bs : List ℕ) → 1 ≤ n → drop (n - 1) bs ≡ drop n (b ∷ bs)
drop_one n b bs h = grind (arith, drop_more)

-- one mark, and those that follow
pub scan_mark : (place : ℕ) (bs : List ℕ) (m : SMark) → first bs ≡ Some m → length (encode m) ≤ length bs →
    scan place 0 bs ≡ onto m (scan (place + length (encode m)) 0 (drop (length (encode m)) bs))
unfolding scan
scan_mark place [] m e h = let i = encode_some m in absurd (omega arith)
scan_mark place (b ∷ bs) m e h =
    let i = encode_some m in
    let n = length (encode m) in
    let p : place + 1 + (n - 1) ≡ place + n = omega arith in
    let s = scan_past (place + 1) (n - 1) bs (omega arith) in
    let d = drop_one n b bs i in
    rw (e, scan) (ap (onto m) cc)

pub scan_none : (place b : ℕ) (bs : List ℕ) → first (b ∷ bs) ≡ None → scan place 0 (b ∷ bs) ≡ Err place
unfolding scan
scan_none place b bs e = rw (e, scan)

pub scan_nil : (place : ℕ) → scan place 0 [] ≡ Ok []
unfolding scan
scan_nil place = refl

-- what was written reads back
scan-encodes : (place : ℕ) (ms : List SMark) → AllInRange ms → scan place 0 (encodes ms) ≡ Ok ms
scan-encodes place [] r = scan_nil place
scan-encodes place (m ∷ ms) r =
    let n = length-append (encode m) (encodes ms) in
    let back = drop_at (encode m) (encodes ms) (length (encode m)) refl in
    let e = first-encode m (encodes ms) r.0 in
    let more = scan-encodes (place + length (encode m)) ms r.1 in
    rw (scan_mark place (encode m ++ encodes ms) m e (omega arith), back, more) refl

pub read-stream : (ms : List SMark) → AllInRange ms → read (stream ms) ≡ Ok ms
read-stream ms r = let e : headed (stream ms) ≡ true = grind (arith, nat_tests) in rw e (scan-encodes 5 ms r)

-- a mark more at the end
pub encodes_more : (ms : List SMark) (m : SMark) → encodes (ms ++ (m ∷ [])) ≡ encodes ms ++ encode m
encodes_more ms m = flat_map-append encode ms (m ∷ []) ∙ ap (λ l. encodes ms ++ l) (append-nil (encode m))

pub range_more : (ms : List SMark) (m : SMark) → AllInRange ms → InRange m → AllInRange (ms ++ (m ∷ []))
range_more [] m r i = (i, tt)
range_more (k ∷ ms) m r i = (r.0, range_more ms m r.1 i)

-- ---- what is read is in range

abbrev Ranged : Result (List SMark) ℕ → Type 0
Ranged r = AllInRange (marks_or r)

scan_range : (bs : List ℕ) (place k : ℕ) → Ranged (scan place k bs)
unfolding scan
scan_range [] place zero = tt
scan_range [] place (suc k) = tt
scan_range (b ∷ bs) place (suc k) = scan_range bs (place + 1) k
scan_range (b ∷ bs) place zero = let h = scan_range bs (place + 1) in let i = first_range (b ∷ bs) in grind arith

pub read_range : (bs : List ℕ) → AllInRange (marks_or (read bs))
read_range bs = let h = scan_range (drop 5 bs) 5 0 in grind arith
