-- How many lifetimes the records give: a step has two words or more and gives at most 16 lifetimes, so a record gives
-- at most eight for each of its words.
use Rattle.std.specs.Prelude.{Ok}
use Prim.Native.Nat.{ℕ, zero, suc, ◌+◌, ◌*◌, ◌≤◌}
use mathlib.Core.Bool.{Bool, true, false, cond, and-eq-true_iff}
use mathlib.Core.Path.{◌≡◌, refl, ap, subst, ◌∙◌}
use mathlib.Core.List.{List, [], ◌∷◌, ◌++◌, map}
use native.Mathlib.Omega.{arith}
use borrow.Author.Tests.{leb-true}
use lib.Dec.{eqb, leb}
use lib.ListN.{length, length-append, length-map, length-replicate}
use Rattle.answers.specs.Refusals.{NoneDue}
use Rattle.answers.proofs.RefusalLaws.{due_given}
use Rattle.records.specs.Reading.{Reading, Read, Fails, onward, read_word, read_lifetimes, read_all, items_of, read_or}
use Rattle.records.proofs.ReadingLaws.{Holds, read, fails, holds_cond, holds_onward, LifetimesIn, lifetimes_read}
use Rattle.elision.specs.Steps.{Step, Lifetime, Generics, SelfType, Receiver, NoSelf, SelfRef, read_generics}
use Rattle.elision.specs.Steps.{read_step, steps_of}
use Rattle.elision.specs.Rfc.{throughout, Occurrence, values, Item, input, output}
use Rattle.elision.specs.Rfc.{is_self_type, has_self_type, step_occurrences, occurrences_at, occurrences, own_from}
use Rattle.elision.specs.Rfc.{lowered_at, inputs, outputs, self_occurrences, lowered_self, lowered_steps}
use Rattle.elision.specs.Rfc.{lowered_returns, elision_checks, method_of, rfc141}
use Rattle.elision.specs.Machine.{fits, run_method}
use Rattle.elision.proofs.RfcLaws.{method_said}
use Rattle.elision.proofs.ReadingLaws.{AllFit, steps_fit}
use Rattle.elision.proofs.SmallLaws.{AllSmall, SmallMethod, method_small}

-- ---- a step has two words or more

abbrev Shorter : List ℕ → ℕ → List ℕ → Type 0
Shorter words n rest = n + length rest ≤ length words

lifetimes_shorter : (words : List ℕ) → Holds (λ ls rest. Shorter words 1 rest) (read_lifetimes words)
lifetimes_shorter words = go (read_lifetimes words) (lifetimes_read words)
  where
    go : (r : Reading (List ℕ)) → Holds (LifetimesIn words) r → Holds (λ ls rest. Shorter words 1 rest) r
    go (Read ls rest) (read e) = read {rest = rest} (let k = ap length e in omega (arith, k, length-append ls rest))
    go Fails fails = fails

step_shorter : (words : List ℕ) → Holds (λ s rest. Shorter words 2 rest) (read_step words)
unfolding read_step
step_shorter [] = fails
step_shorter (kind ∷ words) =
    holds_cond (λ s rest. Shorter (kind ∷ words) 2 rest) (eqb kind 0) (λ e. one words)
    (holds_cond (λ s rest. Shorter (kind ∷ words) 2 rest) (eqb kind 1) (λ e. many words)
    (holds_cond (λ s rest. Shorter (kind ∷ words) 2 rest) (eqb kind 2)
    (λ e. holds_onward (λ ls rest. Shorter words 1 rest) (λ s rest. Shorter (kind ∷ words) 2 rest)
    (lifetimes_shorter words) (λ ls rest h. read {rest = rest} (omega (arith, h)))) fails))
  where
    one : (words : List ℕ)
        → Holds (λ s rest. Shorter (kind ∷ words) 2 rest) (onward (read_word words) (λ l rest. Read (Lifetime l) rest))
    one [] = fails
    one (l ∷ words) = read {rest = words} (omega arith)

    many : (words : List ℕ)
        → Holds (λ s rest. Shorter (kind ∷ words) 2 rest)
        (onward (read_generics words) (λ g rest. onward (read_lifetimes rest) (λ ls behind. Read (Generics g ls) behind)))
    many [] = fails
    many (g ∷ words) =
        holds_onward (λ n rest. Shorter (g ∷ words) 1 rest) (λ s rest. Shorter (kind ∷ g ∷ words) 2 rest)
        (holds_cond (λ n rest. Shorter (g ∷ words) 1 rest) (leb g 16) (λ e. read {rest = words} (omega arith)) fails)
        (λ n rest h. holds_onward (λ ls behind. Shorter rest 1 behind) (λ s behind. Shorter (kind ∷ g ∷ words) 2 behind)
        (lifetimes_shorter rest) (λ ls behind k. read {rest = behind} (omega (arith, h, k))))

all_shorter : (number fuel : ℕ) (words : List ℕ)
    → Holds (λ items rest. Shorter words (2 * length items) rest) (read_all (λ n. read_step) number fuel words)
unfolding read_all
all_shorter number zero [] = read {a = []} {rest = []} (omega arith)
all_shorter number zero (w ∷ words) = fails
all_shorter number (suc fuel) [] = read {a = []} {rest = []} (omega arith)
all_shorter number (suc fuel) (w ∷ words) =
    holds_onward (λ step rest. Shorter (w ∷ words) 2 rest) (λ items rest. Shorter (w ∷ words) (2 * length items) rest)
    (step_shorter (w ∷ words))
    (λ s rest h. holds_onward (λ items last. Shorter rest (2 * length items) last)
    (λ items last. Shorter (w ∷ words) (2 * length items) last) (all_shorter (suc number) fuel rest)
    (λ items last k. read {a = s ∷ items} {rest = last} (omega (arith, h, k))))

pub steps_few : (words : List ℕ) → 2 * length (steps_of words) ≤ length words
unfolding items_of
steps_few words = go (read_all (λ n. read_step) 0 (length words) words) (all_shorter 0 (length words) words)
  where
    go : (r : Reading (List Step)) → Holds (λ items rest. Shorter words (2 * length items) rest) r
        → 2 * length (read_or [] r) ≤ length words
    go (Read items rest) (read h) = omega (arith, h)
    go Fails fails = omega arith

-- ---- and gives at most 16 lifetimes

values_length : (names : List ℕ) (self : Receiver) (before l : List Occurrence) → length (values names self before l) ≡ length l
unfolding throughout
values_length names self before [] = refl
values_length names self before (o ∷ l) = ap suc (values_length names self (before ++ (o ∷ [])) l)

abbrev AllFitted : List Item → Type 0
AllFitted [] = Unit {0}
AllFitted (i ∷ l) = (fits i.step ≡ true) × AllFitted l

step_occurs : (again out : Bool) (s : Step) → fits s ≡ true → length (step_occurrences again out s) ≤ 16
step_occurs again out (Lifetime word) e = omega arith
step_occurs again out (Generics g words) e =
    let p = (and-eq-true_iff (leb g 16) (leb (length words) 16)).0 e in
    rw (length-map, length-append, length-replicate) (omega (arith, leb-true g 16 p.0, leb-true (length words) 16 p.1))
step_occurs true out (SelfType words) e = omega arith
step_occurs false out (SelfType words) e = rw length-map (leb-true (length words) 16 e)

module _ (names : List ℕ) (self : Receiver) where
  own_few : (before l : List Item) → AllFitted l → length (own_from names self before l) ≤ 16
  unfolding own_from
  own_few before [] p = omega arith
  own_few before (i ∷ l) p = go (is_self_type i.step) (own_few (before ++ (i ∷ [])) l p.1)
    where
      go : (t : Bool) → length (own_from names self (before ++ (i ∷ [])) l) ≤ 16
          → length (cond t (values names self (occurrences self before) (step_occurrences false i.output i.step))
          (own_from names self (before ++ (i ∷ [])) l)) ≤ 16
      go true h = rw (values_length names self (occurrences self before) (step_occurrences false i.output i.step))
          (step_occurs false i.output i.step p.0)
      go false h = h

  fitted_append : (a b : List Item) → AllFitted a → AllFitted b → AllFitted (a ++ b)
  fitted_append [] b p q = q
  fitted_append (i ∷ a) b p q = (p.0, fitted_append a b p.1 q)

  step_few : (before : List Item) (i : Item) → AllFitted before → fits i.step ≡ true → length (lowered_at names self before i) ≤ 16
  step_few before i p e = go (is_self_type i.step)
    where
      go : (t : Bool)
          → length
          (cond t (own_from names self [] (before ++ (i ∷ [])))
          (values names self (occurrences self before) (occurrences_at before i))) ≤ 16
      go true = own_few [] (before ++ (i ∷ [])) (fitted_append before (i ∷ []) p (e, tt))
      go false =
          rw (values_length names self (occurrences self before) (occurrences_at before i))
          (step_occurs (has_self_type before) i.output i.step e)

  lowered_few : (before l : List Item) → AllFitted before → AllFitted l
      → length (throughout (lowered_at names self) before l) ≤ 16 * length l
  unfolding throughout
  lowered_few before [] p q = omega arith
  lowered_few before (i ∷ l) p q =
      rw length-append
      (omega (
        arith,
        step_few before i p q.0,
        lowered_few (before ++ (i ∷ [])) l (fitted_append before (i ∷ []) p (q.0, tt)) q.1,
      ))

  fitted_map : (f : Step → Item) → ((s : Step) → (f s).step ≡ s) → (l : List Step) → AllFit l → AllFitted (map f l)
  fitted_map f h [] p = tt
  fitted_map f h (s ∷ l) p = (rw (h s) p.0, fitted_map f h l p.1)

  -- the records: at most eight lifetimes for each word
  pub lowered_steps_lem : (steps : List ℕ) → length (lowered_steps names self (steps_of steps)) ≤ 8 * length steps
  lowered_steps_lem steps =
      let f = fitted_map input (λ s. refl) (steps_of steps) (steps_fit steps) in
      omega (arith, lowered_few [] (inputs (steps_of steps)) tt f, length-map (steps_of steps) input, steps_few steps)

  pub lowered_returns_lem : (steps returns : List ℕ) → length (lowered_returns names self (steps_of steps) (steps_of returns))
      ≤ 8 * length returns
  lowered_returns_lem steps returns =
      let f = fitted_map input (λ s. refl) (steps_of steps) (steps_fit steps) in
      let g = fitted_map output (λ s. refl) (steps_of returns) (steps_fit returns) in
      omega (
        arith,
        lowered_few (inputs (steps_of steps)) (outputs (steps_of returns)) f g,
        length-map (steps_of returns) output,
        steps_few returns,
      )

  pub lowered_self_lem : length (lowered_self names self) ≤ 1
  lowered_self_lem = rw (values_length names self [] (self_occurrences self)) (one self)
    where
      one : (s : Receiver) → length (self_occurrences s) ≤ 1
      one NoSelf = omega arith
      one (SelfRef word) = omega arith

  -- and each of them has a word of at most 64
  pub accepted_small : length names ≤ 32 → (steps returns : List Step) → NoneDue (elision_checks names self steps returns)
      → AllSmall (lowered_self names self)
      × (AllSmall (lowered_steps names self steps) × AllSmall (lowered_returns names self steps returns))
  unfolding rfc141
  accepted_small few steps returns none =
      let is : run_method names self steps returns ≡ Ok (method_of names self steps returns) =
      method_said names self steps returns ∙ due_given (method_of names self steps returns) none in
      subst (SmallMethod names few) is (method_small names few self steps returns)
