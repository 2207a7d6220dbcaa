-- Passes, one after another.
use Rattle.std.specs.Result.{result_err}
use Rattle.std.proofs.Common.{◌≡◌, ℕ, ◌+◌, List, [], ◌∷◌, ◌++◌, length, IsErrAnd, Some, None, Ok, Err, Option, Result, sym, refl, ap, ◌∙◌, subst, arith}
use mathlib.Core.Path.{fun_ext}
use Rattle.std.proofs.lemmas.List.{append-nil, append_assoc}
use Rattle.std.proofs.lemmas.Result.{err_from_is_err_and}
use Rattle.size.specs.declared.refusal.Refusal.{Refusal}
use Rattle.size.specs.declared.refusal.Refusal.TheVariants.{Device}
use Rattle.backend.specs.Marks.{SMark}
use Rattle.backend.specs.Devices.{Answers, Model, Put, later, advanced}
use Rattle.backend.specs.Passes.{Fed, step, run, taken}

-- What a pass that answers r has put, and would put with more marks after its own.
abbrev Ran : Answers → ℕ → List SMark → Result ℕ Refusal → Type 0
Ran f a ms (Ok k) = (k ≡ a + length ms) × ((taken f ms ≡ ms) × ((ns : List SMark) → taken f (ms ++ ns) ≡ ms ++ taken (later f ms) ns))
Ran f a ms (Err e) = (ns : List SMark) → taken f (ms ++ ns) ≡ taken f ms

ran_step : (o : Option ℕ) (f : Answers) (a : ℕ) (m : SMark) (ms : List SMark) (rest : Result ℕ Refusal) → f [] m ≡ o →
    Ran (later f (m ∷ [])) (a + 1) ms rest → Ran f a (m ∷ ms) (step o a rest)
unfolding run taken
ran_step None f a m ms (Ok k) h r =
    (omega arith, (rw h (ap (λ l. m ∷ l) r.1.0), λ ns. rw h (ap (λ l. m ∷ l) (r.1.1 ns))))
ran_step None f a m ms (Err e) h r = λ ns. rw h (ap (λ l. m ∷ l) (r ns))
ran_step (Some n) f a m ms rest h r = λ ns. rw h

ran : (f : Answers) (a : ℕ) (ms : List SMark) → Ran f a ms (run f a ms)
unfolding run taken
ran f a [] = (omega arith, (refl, λ ns. refl))
ran f a (m ∷ ms) =
    let next = later f (m ∷ []) in
    ran_step (f [] m) f a m ms (run next (a + 1) ms) refl (ran next (a + 1) ms)

-- a pass of two lists is a pass of the second where the first has ended
abbrev on : Answers → List SMark → Result ℕ Refusal → Result ℕ Refusal
on f ns (Ok k) = run f k ns
on f ns (Err e) = Err e

on_step : (o : Option ℕ) (a : ℕ) (f : Answers) (ns : List SMark) (rest : Result ℕ Refusal) → step o a (on f ns rest) ≡ on f ns (step o a rest)
on_step None a f ns rest = refl
on_step (Some n) a f ns rest = refl

run-append : (f : Answers) (a : ℕ) (ms ns : List SMark) → run f a (ms ++ ns) ≡ on (later f ms) ns (run f a ms)
unfolding run taken
run-append f a [] ns = refl
run-append f a (m ∷ ms) ns =
    let next = later f (m ∷ []) in
    ap (step (f [] m) a) (run-append next (a + 1) ms ns) ∙ on_step (f [] m) a (later f (m ∷ ms)) ns (run next (a + 1) ms)

-- the device by its two parts that change
abbrev with : Model → List SMark → Answers → Model
with d ms f = record { marks = ms; answer = f; extent = d.extent; bounded = d.bounded; place = d.place }

pub advanced_none : (d : Model) → advanced d [] ≡ d
advanced_none d = ap (λ l. with d l d.answer) (append-nil d.marks)

later-later : (f : Answers) (ms ns : List SMark) → later (later f ms) ns ≡ later f (ms ++ ns)
later-later f ms ns = fun_ext (λ xs. fun_ext (λ m. ap (λ l. f l m) (sym (append_assoc ms ns xs))))

pub advanced_twice : (d : Model) (ms ns : List SMark) → advanced (advanced d ms) ns ≡ advanced d (ms ++ ns)
advanced_twice d ms ns =
    ap (λ l. with d l (later (later d.answer ms) ns)) (append_assoc d.marks ms ns) ∙ ap (with d (d.marks ++ (ms ++ ns))) (later-later d.answer ms ns)

-- nothing put
pub fed_none : (a : ℕ) (d : Model) → Fed a [] d (Ok a) d
unfolding run taken
fed_none a d = record { answered = refl; after = sym (advanced_none d) }

-- one mark, taken or refused
pub fed_taken : {a : ℕ} {m : SMark} {d d' : Model} → (d.answer [] m ≡ None) × (d' ≡ advanced d (m ∷ [])) → Fed a (m ∷ []) d (Ok (a + 1)) d'
unfolding run taken
fed_taken {a} {m} {d} {d'} p = record { answered = rw p.0; after = rw p.0 p.1 }

pub fed_refused : {a n : ℕ} {m : SMark} {d d' : Model} → (d.answer [] m ≡ Some n) × (d' ≡ d) → Fed a (m ∷ []) d (Err (Device n a)) d'
unfolding run taken
fed_refused {a} {n} {m} {d} {d'} p = record { answered = rw p.0; after = rw p.0 (p.1 ∙ sym (advanced_none d)) }

-- one mark put, and what the device answered counted on
pub fed_put : {U : Type 0} {a : ℕ} {m : SMark} {d d' : Model} (p : Result U ℕ) {r : Result ℕ Refusal} →
    Put d m p d' → r ≡ step (result_err p) a (Ok (a + 1)) → Fed a (m ∷ []) d r d'
fed_put (Ok _) t e = rw e (fed_taken t)
fed_put (Err n) t e = rw e (fed_refused t)

of_fed : {a : ℕ} {ms : List SMark} {d d' : Model} {r : Result ℕ Refusal} → Fed a ms d r d' → Ran d.answer a ms r
of_fed {a} {ms} {d} f = subst (Ran d.answer a ms) (sym f.answered) (ran d.answer a ms)

-- a pass that stopped has stopped, whatever was to follow
pub fed_stop : {a : ℕ} {ms : List SMark} {d d' : Model} {e : Refusal} (ns : List SMark) → Fed a ms d (Err e) d' → Fed a (ms ++ ns) d (Err e) d'
unfolding run taken
fed_stop {a} {ms} {d} {d'} {e} ns f =
    let c : Ran d.answer a ms (Err e) = of_fed f in
    record {
      answered = ap (on (later d.answer ms) ns) f.answered ∙ sym (run-append d.answer a ms ns);
      after = f.after ∙ ap (advanced d) (sym (c ns));
    }

joined : (a k : ℕ) (ms ns : List SMark) (d d' d'' : Model) (r : Result ℕ Refusal) → Fed a ms d (Ok k) d' → Fed k ns d' r d'' → Fed a (ms ++ ns) d r d''
unfolding run taken
joined a k ms ns d d' d'' r f s =
    let c : Ran d.answer a ms (Ok k) = of_fed f in
    let whole : d' ≡ advanced d ms = f.after ∙ ap (advanced d) c.1.0 in
    let ended : r ≡ run (later d.answer ms) k ns = s.answered ∙ ap (λ x. run x.answer k ns) whole in
    record {
      answered = ended ∙ ap (on (later d.answer ms) ns) f.answered ∙ sym (run-append d.answer a ms ns);
      after = s.after ∙ ap (λ x. advanced x (taken x.answer ns)) whole ∙ advanced_twice d ms (taken (later d.answer ms) ns) ∙ ap (advanced d) (sym (c.1.1 ns));
    }

-- a pass, and then another that counts on
pub fed_then : {a k : ℕ} {ms ns : List SMark} {d d' d'' : Model} {r : Result ℕ Refusal} → Fed a ms d (Ok k) d' → Fed k ns d' r d'' → Fed a (ms ++ ns) d r d''
fed_then = joined _ _ _ _ _ _ _ _

-- what a `?` hands on
pub exits : {a : ℕ} {ms : List SMark} {d d' : Model} {e : Refusal} {r : Result ℕ Refusal} → IsErrAnd r (λ y. y ≡ e) → Fed a ms d (Err e) d' → Fed a ms d r d'
exits {r = r} by f = let p = err_from_is_err_and r by in rw (p.1, p.2) f

-- the count after a pass that went
pub fed_length : {a p : ℕ} {ms : List SMark} {d d' : Model} → Fed a ms d (Ok p) d' → p ≡ a + length ms
fed_length {a} {p} {ms} {d} {d'} f = let c : Ran d.answer a ms (Ok p) = of_fed f in c.0
