-- 01's starred examples about elision, and three more (a later use of kind 2, refused steps), as questions and answers.
-- Theorems.ExamplesHold: each question has its answer.
use Rattle.std.specs.Prelude.{ℕ, Bool, true, false, ◌≡◌, List, [], ◌∷◌, length, Ok, Err}
use Rattle.answers.specs.declared.Refusal.TheVariants.{Undeclared, NoSource, Ambiguous}
use Rattle.answers.specs.Refusals.{Outcome, over}
use Rattle.ast_lifetimes.specs.Env.{named_env}
use Rattle.elision.specs.declared.lowerer.Lifetimes.{Lifetimes}
use Rattle.elision.specs.declared.lowerer.Lowerer.{Lowerer}
use Rattle.elision.specs.Steps.{NoSelf, steps_of}
use Rattle.elision.specs.Rfc.{Method, positions, occurrences, inputs}
use Rattle.elision.specs.Machine.{unused, given_by, left_by, worded_step}
use Rattle.elision.specs.Lowering.{words, lower_records}

pub data Question : Type 0 where
  -- the lowered words of the records self, steps, returns over these names, and room for 16 of each
  Lower : List ℕ → List ℕ → List ℕ → List ℕ → Question
  -- how many input positions the record steps has, over these names
  Positions : List ℕ → List ℕ → Question
  -- a single step by its words, in the output or not, on the unused lowerer over these names
  OneStep : List ℕ → Bool → List ℕ → Question

-- the words of self, steps and returns
pub record Words : Type 0 where
  pub self : List ℕ
  pub steps : List ℕ
  pub returns : List ℕ

pub data Answer : Type 0 where
  Lowered : Outcome Words → Answer
  Count : ℕ → Answer
  -- the lifetimes, and what a lowerer that is lent is then
  Steps : Outcome Lifetimes → Lowerer → Answer

abbrev pub in_words : Outcome Method → Outcome Words
in_words o = over (λ m. record { self = words m.self; steps = words m.steps; returns = words m.returns }) o

abbrev pub answer : Question → Answer
answer (Lower names self steps returns) =
    Lowered (in_words (lower_records (named_env names []) self steps returns 16 16 16))
answer (Positions names steps) = Count (length (positions names (occurrences NoSelf (inputs (steps_of steps)))))
answer (OneStep names out step) = let o = worded_step names out step (unused names) in
    Steps (given_by o) (left_by (unused names) o)

pub record Example : Type 0 where
  pub question : Question
  pub expected : Answer

abbrev pub asked : Question → Answer → Example
asked q a = record { question = q; expected = a }

-- 01's, each starred there
abbrev pub starred : List Example
starred =
    -- no names, self `1`, steps `0 1`, returns `0 1`: lowered 1, 2, 1
    asked (Lower [] (1 ∷ []) (0 ∷ 1 ∷ []) (0 ∷ 1 ∷ []))
    (Lowered (Ok (record { self = 1 ∷ []; steps = 2 ∷ []; returns = 1 ∷ [] })))
    -- returns `0 1`: no input 5; steps `0 0` give 0; steps `0 7 0 7` give 6
    ∷ asked (Lower [] [] [] (0 ∷ 1 ∷ [])) (Lowered (Err NoSource))
    ∷ asked (Lower [] [] (0 ∷ 0 ∷ []) (0 ∷ 1 ∷ []))
    (Lowered (Ok (record { self = []; steps = 0 ∷ []; returns = 0 ∷ [] })))
    ∷ asked (Lower (7 ∷ []) [] (0 ∷ 7 ∷ 0 ∷ 7 ∷ []) (0 ∷ 1 ∷ [])) (Lowered (Err Ambiguous))
    -- step `1 2 1 7` is two positions
    ∷ asked (Positions (7 ∷ []) (1 ∷ 2 ∷ 1 ∷ 7 ∷ [])) (Count 2)
    ∷ []

abbrev pub further : List Example
further =
    -- over the name 7, steps `2 1 7 2 1 9` lowered 1, 1: the words of the second use are not looked up
    asked (Lower (7 ∷ []) [] (2 ∷ 1 ∷ 7 ∷ 2 ∷ 1 ∷ 9 ∷ []) [])
    (Lowered (Ok (record { self = []; steps = 1 ∷ 1 ∷ []; returns = [] })))
    -- a refused step leaves the lowerer as it was: `0 1` in the output gives 5; `1 0 2 1 9` gives 3 behind the new
    -- lifetime of its first word
    ∷ asked (OneStep [] true (0 ∷ 1 ∷ []))
    (Steps (Err NoSource) (unused []))
    ∷ asked (OneStep [] false (1 ∷ 0 ∷ 2 ∷ 1 ∷ 9 ∷ []))
    (Steps (Err Undeclared) (unused []))
    ∷ []

-- each question of a list has its expected answer
abbrev pub Right : List Example → Type 0
Right [] = Unit {0}
Right (x ∷ xs) = (answer x.question ≡ x.expected) × Right xs
