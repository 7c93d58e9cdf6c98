-- The steps of a record by their words: all words of a record in shape are theirs, each is read back from its own, and
-- taken in turn they give what the record gives.
use Rattle.std.specs.Prelude.{Ok, Err}
use Prim.Native.Nat.{ℕ}
use mathlib.Core.Bool.{Bool, true, and-eq-true_iff}
use mathlib.Core.Path.{◌≡◌, refl, sym, ◌∙◌}
use mathlib.Core.List.{List, [], ◌∷◌, ◌++◌, map, flat_map}
use native.Mathlib.Omega.{arith}
use borrow.Author.Tests.{eqb-true, le-leb}
use lib.Dec.{eqb, leb}
use lib.ListN.{length, drop_of_length-le}
use lib.Seq.{take-length}
use Rattle.answers.specs.Refusals.{Outcome, bind}
use Rattle.records.specs.Reading.{Read, read_lifetimes}
use Rattle.records.proofs.ReadingLaws.{Holds, read, fails, holds_cond, holds_onward, LifetimesIn, WordIn}
use Rattle.records.proofs.ReadingLaws.{lifetimes_read, word_read, items_encoded}
use Rattle.elision.specs.declared.lowerer.Lowerer.{Lowerer}
use Rattle.elision.specs.Steps.{Step, Lifetime, Generics, SelfType, read_generics, read_step, words_of_step, all_words}
use Rattle.elision.specs.Steps.{steps_in_shape, steps_of}
use Rattle.elision.specs.Machine.{Advanced, advanced, in_turn, fits, one_step, worded_step, run_steps}
use Rattle.elision.proofs.ReadingLaws.{AllFit, steps_fit, steps_one_by_one}

-- ---- a step's words are what stood there

generics_read : (words : List ℕ) → Holds (WordIn words) (read_generics words)
generics_read [] = fails
generics_read (g ∷ words) = holds_cond (WordIn (g ∷ words)) (leb g 16) (λ e. read refl) fails

step_read : (words : List ℕ) → Holds (λ step rest. words_of_step step ++ rest ≡ words) (read_step words)
unfolding read_step
step_read [] = fails
step_read (kind ∷ words) =
    let P : Step → List ℕ → Type 0 = λ step rest. words_of_step step ++ rest ≡ kind ∷ words in
    holds_cond P (eqb kind 0) (λ e. holds_onward (WordIn words) P (word_read words) (λ l rest p. read (rw (eqb-true kind 0 e, p))))
    (holds_cond P (eqb kind 1)
    (λ e. holds_onward (WordIn words) P (generics_read words)
    (λ g rest p. holds_onward (LifetimesIn rest) P (lifetimes_read rest)
    (λ ls behind r. read (rw (eqb-true kind 1 e, r, p)))))
    (holds_cond P (eqb kind 2)
    (λ e. holds_onward (LifetimesIn words) P (lifetimes_read words) (λ ls rest p. read (rw (eqb-true kind 2 e, p))))
    fails))

pub steps_whole : (words : List ℕ) → steps_in_shape words ≡ true → all_words (steps_of words) ≡ words
unfolding flat_map
steps_whole words e = items_encoded (λ number. read_step) words_of_step (λ number. step_read) all_words refl (λ a items. refl) words e

-- ---- a step is read back from its words

lifetimes_back : (ls : List ℕ) → leb (length ls) 16 ≡ true → read_lifetimes (length ls ∷ ls) ≡ Read ls []
lifetimes_back ls few =
    rw (
      few,
      le-leb (length ls) (length ls) (omega arith),
      take-length ls,
      drop_of_length-le ls {i = length ls} (omega arith),
    )

step_back : (step : Step) → fits step ≡ true → read_step (words_of_step step) ≡ Read step []
unfolding read_step
step_back (Lifetime l) e = refl
step_back (Generics g ls) e = let p = (and-eq-true_iff (leb g 16) (leb (length ls) 16)).0 e in rw (p.0, lifetimes_back ls p.1)
step_back (SelfType ls) e = rw (lifetimes_back ls e)

-- ---- the steps in turn

in_turn_lem : (names : List ℕ) (out : Bool) (l : List Step) → AllFit l → (s : Lowerer)
    → in_turn (worded_step names out) (map words_of_step l) s ≡ in_turn (one_step names out) l s
unfolding in_turn worded_step
in_turn_lem names out [] p s = refl
in_turn_lem names out (x ∷ l) p s = rw (step_back x p.0) (go (one_step names out x s) (in_turn_lem names out l p.1))
  where
    go : (o : Outcome (Advanced Lowerer))
        → ((s : Lowerer) → in_turn (worded_step names out) (map words_of_step l) s ≡ in_turn (one_step names out) l s)
        → bind o
        (λ first. bind (in_turn (worded_step names out) (map words_of_step l) first.left)
        (λ rest. Ok (advanced (first.given ++ rest.given) rest.left)))
        ≡ bind o
        (λ first. bind (in_turn (one_step names out) l first.left)
        (λ rest. Ok (advanced (first.given ++ rest.given) rest.left)))
    go (Ok a) more = rw (more a.left)
    go (Err r) more = refl

pub steps_together : (names : List ℕ) (out : Bool) (words : List ℕ) (s : Lowerer)
    → in_turn (worded_step names out) (map words_of_step (steps_of words)) s ≡ run_steps names out (steps_of words) s
steps_together names out words s = in_turn_lem names out (steps_of words) (steps_fit words) s ∙ sym (steps_one_by_one names out words s)
