-- The list device: one record more.
use Rattle.std.proofs.Common.{◌≡◌, ℕ, ◌+◌, ◌<◌, ◌≤◌, true, List, [], ◌∷◌, ◌++◌, map, length, take, drop, set, sym, refl, ap, ◌∙◌, add-zero, arith}
use mathlib.Core.Path.{fun_ext}
use base.Fml.{GName}
use Rattle.std.specs.Option.{option_map}
use Rattle.std.proofs.lemmas.List.{take_more_set, take-take, drop-take, map_push, take_at, drop_at, length-set, length-append, length-drop, length-take-le}
use Rattle.std.proofs.lemmas.List.Folds.{list_all-append}
use Rattle.std.proofs.lemmas.List.Sums.{sum_by-cons}
use Rattle.std.proofs.lemmas.Bool.Decides.{nat_tests}
use Rattle.backend.specs.declared.shape.Shape.{Shape}
use Rattle.backend.specs.declared.shape.Shape.TheVariants as shape
use Rattle.backend.specs.Marks.{SMark, shape_value}
use Rattle.backend.specs.Devices.{Answers, Model, advanced, later}
use Rattle.devices.specs.declared.record.Record.{Record}
use Rattle.devices.specs.declared.record.Record.TheVariants.{Line, Text, End}
use Rattle.devices.specs.Records.{inside, kept, mark_in, record_from, text_in}
use Rattle.devices.specs.Placed.{placed}
use Rattle.devices.specs.Refusals.{put_number}
use Rattle.devices.specs.Lists.{Held, added, answers_of, bytes_in, list_model, marks_of, room_of, sized, sized_bounded, text_bytes, verdict}

inside_up : (n m : ℕ) (r : Record) → n ≤ m → inside n r ≡ true → inside m r ≡ true
inside_up n m (Line s) l h = refl
inside_up n m (Text s at len) l h = grind (arith, nat_tests)
inside_up n m End l h = refl

kept_up : (n m : ℕ) (rs : List Record) → n ≤ m → kept n rs ≡ true → kept m rs ≡ true
kept_up n m [] l h = refl
kept_up n m (r ∷ rs) l h =
    let a = inside_up n m r l in
    let b = kept_up n m rs l in
    grind (arith, nat_tests)

-- the texts stay inside
pub kept_more : (n k i : ℕ) (rs : List Record) (r : Record) → i < length rs → kept n (take i rs) ≡ true → inside (n + k) r ≡ true →
    kept (n + k) (take (i + 1) (set rs i r)) ≡ true
kept_more n k i rs r lt h s =
    let up = kept_up n (n + k) (take i rs) (omega arith) h in
    rw (take_more_set rs i r lt, list_all-append (inside (n + k)) (take i rs) (r ∷ []), up, s)

-- a text that lies in the first n bytes reads the same where these do
same_mark : (n : ℕ) (t t' : List ℕ) (r : Record) → take n t' ≡ take n t → inside n r ≡ true → mark_in t' r ≡ mark_in t r
same_mark n t t' (Line s) e h = refl
same_mark n t t' (Text s at len) e h =
    let l : at + len ≤ n = grind (arith, nat_tests) in
    let f : take (at + len) t' ≡ take (at + len) t = sym (take-take (at + len) n t' l) ∙ ap (take (at + len)) e ∙ take-take (at + len) n t l in
    let g : take len (drop at t') ≡ take len (drop at t) = sym (drop-take at len t') ∙ ap (drop at) f ∙ drop-take at len t in
    rw g
same_mark n t t' End e h = refl

same_marks : (n : ℕ) (t t' : List ℕ) (rs : List Record) → take n t' ≡ take n t → kept n rs ≡ true → map (mark_in t') rs ≡ map (mark_in t) rs
same_marks n t t' [] e h = refl
same_marks n t t' (r ∷ rs) e h =
    let a : mark_in t' r ≡ mark_in t r = same_mark n t t' r e (grind (arith, nat_tests)) in
    let b : map (mark_in t') rs ≡ map (mark_in t) rs = same_marks n t t' rs e (grind (arith, nat_tests)) in
    cc

-- after bytes were placed
placed_front : (t : List ℕ) (at : ℕ) (s : List ℕ) → at ≤ length t → take at (placed t at s) ≡ take at t
placed_front t at s h = take_at (take at t) (s ++ drop (at + length s) t) at (length-take-le at t h)

placed_part : (t : List ℕ) (at : ℕ) (s : List ℕ) → at ≤ length t → take (length s) (drop at (placed t at s)) ≡ s
placed_part t at s h = rw (drop_at (take at t) (s ++ drop (at + length s) t) at (length-take-le at t h)) (take_at s (drop (at + length s) t) (length s) refl)

pub placed-length : (t : List ℕ) (at : ℕ) (s : List ℕ) → at + length s ≤ length t → length (placed t at s) ≡ length t
placed-length t at s h =
    let a : length (take at t) ≡ at = length-take-le at t (omega arith) in
    let b = length-drop (at + length s) t in
    simp length-append (omega arith)

-- the new record reads as the shape
new_mark : (t : List ℕ) (at : ℕ) (s : Shape) → at ≤ length t → mark_in (placed t at (text_in s)) (record_from s at (length (text_in s))) ≡ shape_value s
new_mark t at (shape.Line s) h = refl
new_mark t at (shape.Text l b) h = rw (placed_part t at b.now h)
new_mark t at shape.End h = refl

marks_more : (h : Held) (s : Shape) → h.used < length h.records → h.filled ≤ length h.text → kept h.filled (take h.used h.records) ≡ true →
    marks_of (added h s) ≡ marks_of h ++ (shape_value s ∷ [])
marks_more h s lt le k =
    let r = record_from s h.filled (length (text_in s)) in
    let t' = placed h.text h.filled (text_in s) in
    let rs = take h.used h.records in
    let old : map (mark_in t') rs ≡ map (mark_in h.text) rs = same_marks h.filled h.text t' rs (placed_front h.text h.filled (text_in s) le) k in
    rw (take_more_set h.records h.used r lt, map_push (mark_in t') rs r, old, new_mark h.text h.filled s le)

bytes_of : (s : Shape) → bytes_in (shape_value s) ≡ length (text_in s)
bytes_of (shape.Line s) = refl
bytes_of (shape.Text l b) = refl
bytes_of shape.End = refl

-- An equation of functions: at each list and mark.
answers_more : (h : Held) (s : Shape) → h.filled + length (text_in s) ≤ length h.text → answers_of (added h s) ≡ later (answers_of h) (shape_value s ∷ [])
answers_more h s le = fun_ext (λ xs. fun_ext (λ x.
    let n = bytes_of s in
    let rl = length-set h.records h.used (record_from s h.filled (length (text_in s))) in
    let tl = placed-length h.text h.filled (text_in s) le in
    let more = sum_by-cons bytes_in (shape_value s) xs in
    let u : h.used + 1 + length xs ≡ h.used + length (shape_value s ∷ xs) = omega arith in
    let f : h.filled + length (text_in s) + text_bytes xs ≡ h.filled + text_bytes (shape_value s ∷ xs) = omega arith in
    rw (rl, tl, u, f)))

abbrev of_list : List SMark → Answers → List GName → Model
of_list ms f place = record { marks = ms; answer = f; extent = sized; bounded = sized_bounded; place = place }

same_model : {ms ms' : List SMark} {f f' : Answers} {p : List GName} → ms' ≡ ms → f' ≡ f → of_list ms' f' p ≡ of_list ms f p
same_model q s = cc

-- a mark more is the device advanced by it
pub model_more : (h h' : Held) (s : Shape) (p p' : List GName) → h' ≡ added h s → p' ≡ p → h.used < length h.records → h.filled + length (text_in s) ≤ length h.text →
    kept h.filled (take h.used h.records) ≡ true → list_model h' p' ≡ advanced (list_model h p) (shape_value s ∷ [])
model_more h h' s p p' e same lt le k = ap (λ x. list_model x p') e ∙ rw (same) (same_model (marks_more h s lt (omega arith) k) (answers_more h s le))

-- what the device answers now, by the room that is left
pub answer_now : (h : Held) (s : Shape) → answers_of h [] (shape_value s) ≡ option_map put_number (verdict (room_of h) (length (text_in s)))
answer_now h s = rw (bytes_of s, add-zero h.used, add-zero h.filled)
