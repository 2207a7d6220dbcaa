-- The mark that bytes begin with.
use Rattle.std.proofs.Common.{◌≡◌, ℕ, suc, ◌+◌, ◌*◌, ◌/◌, ◌%◌, ◌<◌, ◌≤◌, true, List, [], ◌∷◌, ◌++◌, length, get_or, take, drop, ℤ, Some, refl, ap, ◌∙◌, arith, w8, w32, Fits, SFits, to_z, of_z}
use mir.Facts.{Fits-of_z}
use borrow.Author.Gap.{read_sfits}
use Rattle.std.proofs.lemmas.Nat.{from_be_bytes-to_be_bytes_4}
use Rattle.std.proofs.lemmas.Int.{of_z-to_z, to_z-of_z}
use Rattle.std.proofs.lemmas.List.{take_at, drop_more, take-append-drop, drop-drop, length-append, length-drop, length-take, length-take-le}
use Rattle.std.proofs.lemmas.Bool.Decides.{nat_tests}
use Rattle.backend.specs.Marks.{SMark, line, text, end}
use Rattle.codec.specs.Format.{InRange, be32, encode}
use Rattle.codec.specs.Reading.{first, int, line_in, text_in, is_text_fitting}

-- four bytes say the number that they were made of
int_back : (z : ℤ) (rest : List ℕ) → SFits w32 z → int (be32 z ++ rest) 0 ≡ z
int_back z rest f = ap (to_z w32) (from_be_bytes-to_be_bytes_4 (of_z w32 z) (Fits-of_z f).fits) ∙ to_z-of_z w32 z f

abbrev text_of : List ℕ → SMark
text_of bs = text (int bs 0) (int bs 4) (get_or bs 8 0) (get_or bs 9 0) (get_or bs 10 0) (get_or bs 11 0) (take (get_or bs 12 0) (drop 13 bs))

pub first-encode : (m : SMark) (rest : List ℕ) → InRange m → first (encode m ++ rest) ≡ Some m
unfolding first line_in text_in
first-encode (line x0 y0 x1 y1 ink) rest r =
    let bs = be32 x0 ++ (be32 y0 ++ (be32 x1 ++ (be32 y1 ++ (ink ∷ rest)))) in
    let a : int bs 0 ≡ x0 = int_back x0 [] r.0 in
    let b : int bs 4 ≡ y0 = int_back y0 [] r.1.0 in
    let c : int bs 8 ≡ x1 = int_back x1 [] r.1.1.0 in
    let d : int bs 12 ≡ y1 = int_back y1 [] r.1.1.1.0 in
    grind (arith, nat_tests)
first-encode (text x y anchor turn font ink bytes) rest r =
    let bs = be32 x ++ (be32 y ++ (anchor ∷ turn ∷ font ∷ ink ∷ length bytes ∷ (bytes ++ rest))) in
    let a : int bs 0 ≡ x = int_back x [] r.0 in
    let b : int bs 4 ≡ y = int_back y [] r.1.0 in
    let t : take (length bytes) (bytes ++ rest) ≡ bytes = take_at bytes rest (length bytes) refl in
    grind (arith, nat_tests, length-append)
first-encode end rest r = refl

-- ---- the other way: what the first mark says of the bytes

abbrev pub Bytes : List ℕ → Type 0
Bytes bs = (i : ℕ) → Fits w8 (get_or bs i 0)

four_of : (a b c d : ℕ) → a < 256 → b < 256 → c < 256 → d < 256 → be32 (int (a ∷ b ∷ c ∷ d ∷ []) 0) ≡ a ∷ b ∷ c ∷ d ∷ []
four_of a b c d p q r s =
    let n = a * 16777216 + b * 65536 + c * 256 + d in
    let e : of_z w32 (to_z w32 n) ≡ n = of_z-to_z w32 n (omega arith) in
    let w : n / 16777216 % 256 ≡ a = omega arith in
    let x : n / 65536 % 256 ≡ b = omega arith in
    let y : n / 256 % 256 ≡ c = omega arith in
    let z : n % 256 ≡ d = omega arith in cc

-- four bytes from k on
int_of : (bs : List ℕ) (k : ℕ) → Bytes bs → be32 (int bs k) ≡ get_or bs k 0 ∷ get_or bs (k + 1) 0 ∷ get_or bs (k + 2) 0 ∷ get_or bs (k + 3) 0 ∷ []
int_of bs k f = four_of _ _ _ _ (f k).fits (f (k + 1)).fits (f (k + 2)).fits (f (k + 3)).fits

pub one : (bs : List ℕ) (k j : ℕ) → j ≡ k + 1 → k < length bs → drop k bs ≡ get_or bs k 0 ∷ drop j bs
one bs k j e h = rw e (drop_more bs k 0 h)

-- four bytes are those of their number
pub int_drop : (bs : List ℕ) (k : ℕ) → Bytes bs → k + 4 ≤ length bs → drop k bs ≡ be32 (int bs k) ++ drop (k + 4) bs
int_drop bs k f h =
    let a = one bs k (k + 1) refl (omega arith) in
    let b = one bs (k + 1) (k + 2) (omega arith) (omega arith) in
    let c = one bs (k + 2) (k + 3) (omega arith) (omega arith) in
    let d = one bs (k + 3) (k + 4) (omega arith) (omega arith) in
    let e = int_of bs k f in
    cc

-- what line_in and text_in say of the bytes
line_in_lem : (bs : List ℕ) (m : SMark) → line_in bs ≡ Some m → (17 ≤ length bs) × ((get_or bs 16 0 ≤ 100) × (line (int bs 0) (int bs 4) (int bs 8) (int bs 12) (get_or bs 16 0) ≡ m))
unfolding line_in
line_in_lem bs m e = grind (arith, nat_tests)

text_in_lem : (bs : List ℕ) (m : SMark) → text_in bs ≡ Some m → (13 + get_or bs 12 0 ≤ length bs) × ((is_text_fitting bs ≡ true) × (text_of bs ≡ m))
unfolding text_in
text_in_lem bs m e = grind (arith, nat_tests)

-- ---- its numbers are in range

sfits_int : (bs : List ℕ) (k : ℕ) → SFits w32 (int bs k)
sfits_int bs k = read_sfits w32 _

line_range : (bs : List ℕ) (m : SMark) → line_in bs ≡ Some m → InRange m
unfolding line_in
line_range bs m e =
    let a = sfits_int bs 0 in
    let b = sfits_int bs 4 in
    let c = sfits_int bs 8 in
    let d = sfits_int bs 12 in
    grind (arith, nat_tests)

text_range : (bs : List ℕ) (m : SMark) → text_in bs ≡ Some m → InRange m
unfolding text_in
text_range bs m e =
    let a = sfits_int bs 0 in
    let b = sfits_int bs 4 in
    grind (arith, nat_tests, length-take, length-drop)

pub first_range : (bs : List ℕ) (m : SMark) → first bs ≡ Some m → InRange m
unfolding first
first_range [] m e = grind arith
first_range (kind ∷ bs) m e = let l = line_range bs m in let t = text_range bs m in grind (arith, nat_tests)

-- ---- and the bytes are its own

line_only : (bs : List ℕ) (m : SMark) → Bytes bs → line_in bs ≡ Some m → 1 ∷ bs ≡ encode m ++ drop (length (encode m)) (1 ∷ bs)
line_only bs m f e =
    let c = line_in_lem bs m e in
    let n = c.0 in
    let p = int_drop bs 0 f (omega arith) in
    let q = int_drop bs 4 f (omega arith) in
    let r = int_drop bs 8 f (omega arith) in
    let s = int_drop bs 12 f (omega arith) in
    let t = one bs 16 17 refl (omega arith) in
    let z : 1 ∷ bs ≡ encode (line (int bs 0) (int bs 4) (int bs 8) (int bs 12) (get_or bs 16 0)) ++ drop 17 bs = cc in
    rw (← c.1.1) z

text_only : (bs : List ℕ) (m : SMark) → Bytes bs → text_in bs ≡ Some m → 2 ∷ bs ≡ encode m ++ drop (length (encode m)) (2 ∷ bs)
text_only bs m f e =
    let c = text_in_lem bs m e in
    let h = c.0 in
    let n = get_or bs 12 0 in
    let bytes = take n (drop 13 bs) in
    let l : length bytes ≡ n = length-take-le n (drop 13 bs) (simp length-drop (omega (arith, h))) in
    let p = int_drop bs 0 f (omega arith) in
    let q = int_drop bs 4 f (omega arith) in
    let a = one bs 8 9 refl (omega arith) in
    let t = one bs 9 10 refl (omega arith) in
    let o = one bs 10 11 refl (omega arith) in
    let i = one bs 11 12 refl (omega arith) in
    let k = one bs 12 13 refl (omega arith) in
    let s : bytes ++ drop (length bytes) (drop 13 bs) ≡ drop 13 bs = rw l (take-append-drop n (drop 13 bs)) in
    let z : 2 ∷ bs ≡ encode (text_of bs) ++ drop (length bytes) (drop 13 bs) = cc in
    let past : suc (13 + length bytes) ≡ length (encode (text_of bs)) = omega arith in
    rw (← c.1.1) (z ∙ ap (λ d. encode (text_of bs) ++ d) (drop-drop (length bytes) 13 bs ∙ ap (λ j. drop j (2 ∷ bs)) past))

pub first_only : (bs : List ℕ) (m : SMark) → Bytes bs → first bs ≡ Some m → bs ≡ encode m ++ drop (length (encode m)) bs
unfolding first
first_only [] m f e = grind arith
first_only (kind ∷ bs) m f e = let l = line_only bs m (λ i. f (suc i)) in let t = text_only bs m (λ i. f (suc i)) in grind (arith, nat_tests)
