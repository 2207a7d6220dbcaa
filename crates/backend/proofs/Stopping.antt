-- A pass stops at the first mark that is refused.
use Rattle.std.proofs.Common.{◌≡◌, ℕ, zero, suc, ◌+◌, ◌<◌, ◌⊎◌, List, [], ◌∷◌, length, get_or, take, Some, None, Ok, Err, Option, refl, ap, ◌∙◌, inl, inr, arith}
use Rattle.size.specs.declared.refusal.Refusal.TheVariants.{Device}
use Rattle.backend.specs.Marks.{SMark, end}
use Rattle.backend.specs.Devices.{Answers, later}
use Rattle.backend.specs.Passes.{EveryPass, Goes, Stops, Takes, run, taken}

-- the first is taken, and of the rest those before k
takes_more : (f : Answers) (m : SMark) (ms : List SMark) (k : ℕ) → f [] m ≡ None → Takes (later f (m ∷ [])) ms k → (i : ℕ) → i < k + 1 → f (take i (m ∷ ms)) (get_or (m ∷ ms) i end) ≡ None
takes_more f m ms k h t zero lt = h
takes_more f m ms k h t (suc i) lt = t i (omega arith)

abbrev Ends : Answers → ℕ → List SMark → Type 0
Ends f a ms = Goes f a ms ⊎ ((i : ℕ) × ((n : ℕ) × Stops f a ms i n))

goes_more : (f : Answers) (a : ℕ) (m : SMark) (ms : List SMark) → f [] m ≡ None → Goes (later f (m ∷ [])) (a + 1) ms → Goes f a (m ∷ ms)
unfolding run taken
goes_more f a m ms h g =
    let n : a + 1 + length ms ≡ a + length (m ∷ ms) = omega arith in
    (λ i lt. takes_more f m ms (length ms) h g.0 i (omega arith), rw h (g.1 ∙ ap Ok n), rw h (ap (λ l. m ∷ l) g.2))

stops_more : (f : Answers) (a : ℕ) (m : SMark) (ms : List SMark) (i n : ℕ) → f [] m ≡ None → Stops (later f (m ∷ [])) (a + 1) ms i n → Stops f a (m ∷ ms) (suc i) n
unfolding run taken
stops_more f a m ms i n h s =
    let k : a + 1 + i ≡ a + suc i = omega arith in
    (omega arith, (λ j lt. takes_more f m ms i h s.1.0 j (omega arith), s.1.1, rw h (s.1.2 ∙ ap (λ c. Err (Device n c)) k), rw h (ap (λ l. m ∷ l) s.1.3)))

stops_here : (f : Answers) (a : ℕ) (m : SMark) (ms : List SMark) (n : ℕ) → f [] m ≡ Some n → Stops f a (m ∷ ms) 0 n
unfolding run taken
stops_here f a m ms n h =
    let k : a ≡ a + 0 = omega arith in
    (omega arith, (λ j lt. grind arith, h, rw h (ap (λ c. Err (Device n c)) k), rw h))

ends_step : (o : Option ℕ) (f : Answers) (a : ℕ) (m : SMark) (ms : List SMark) → f [] m ≡ o → Ends (later f (m ∷ [])) (a + 1) ms → Ends f a (m ∷ ms)
ends_step None f a m ms h (inl g) = inl (goes_more f a m ms h g)
ends_step None f a m ms h (inr s) = inr (suc s.0, (s.1.0, stops_more f a m ms s.0 s.1.0 h s.1.1))
ends_step (Some n) f a m ms h e = inr (0, (n, stops_here f a m ms n h))

pub every_pass : EveryPass
unfolding run taken
every_pass f a [] = inl (λ i lt. grind arith, ap Ok (omega arith), refl)
every_pass f a (m ∷ ms) = ends_step (f [] m) f a m ms refl (every_pass (later f (m ∷ [])) (a + 1) ms)
