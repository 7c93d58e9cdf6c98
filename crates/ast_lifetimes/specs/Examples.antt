-- 01's starred examples about AST environments, as one list of questions and answers. Theorems.ExamplesHold: each
-- question has its answer.
use Rattle.std.specs.Prelude.{ℕ, true, ◌≡◌, List, [], ◌∷◌, Ok, Err}
use Rattle.answers.specs.declared.Refusal.TheVariants.{Duplicate}
use Rattle.lifetimes.specs.declared.bounds.Bound.{Bound}
use Rattle.answers.specs.Refusals.{Outcome, over}
use Rattle.lifetimes.specs.Bounds.{above}
use Rattle.ast_lifetimes.specs.declared.env.LifetimeEnv.{LifetimeEnv}
use Rattle.ast_lifetimes.specs.Env.{bounds_of, named_env, from_method_item, list_than}

pub data Question : Type 0 where
  -- the bounds of the records names, bounds, types
  Bounds : List ℕ → List ℕ → List ℕ → Question
  -- `longer_than` the name, with these names and bounds, and room for 32
  LongerThan : List ℕ → List Bound → ℕ → Question

pub data Answer : Type 0 where
  Pushed : Outcome (List Bound) → Answer
  Listed : Outcome (List ℕ) → Answer

abbrev pub bounds : Outcome LifetimeEnv → Outcome (List Bound)
bounds o = over bounds_of o

abbrev pub answer : Question → Answer
answer (Bounds names bs types) = Pushed (bounds (from_method_item names bs types))
answer (LongerThan names bs word) = Listed (list_than true (named_env names bs) word 32)

pub record Example : Type 0 where
  pub question : Question
  pub expected : Answer

abbrev pub asked : Question → Answer → Example
asked q a = record { question = q; expected = a }

abbrev pub starred : List Example
starred =
    -- `2 7 1 2 9 9` pushes two equal bounds; `2 7 1 1 7` none
    asked (Bounds (0 ∷ 7 ∷ 9 ∷ []) (0 ∷ []) (2 ∷ 7 ∷ 1 ∷ 2 ∷ 9 ∷ 9 ∷ [])) (Pushed (Ok (above 1 0 ∷ above 1 0 ∷ [])))
    ∷ asked (Bounds (0 ∷ 7 ∷ []) (0 ∷ []) (2 ∷ 7 ∷ 1 ∷ 1 ∷ 7 ∷ [])) (Pushed (Ok []))
    -- names `0 7 7`: 2
    ∷ asked (Bounds (0 ∷ 7 ∷ 7 ∷ []) (0 ∷ []) []) (Pushed (Err Duplicate))
    -- bounds 1 above 0, 2 above 0: AST longer of 0 is 0 1 2
    ∷ asked (LongerThan (5 ∷ 6 ∷ 7 ∷ []) (above 1 0 ∷ above 2 0 ∷ []) 5) (Listed (Ok (0 ∷ 1 ∷ 2 ∷ [])))
    ∷ []

-- each question of a list has its expected answer
abbrev pub Right : List Example → Type 0
Right [] = Unit {0}
Right (x ∷ xs) = (answer x.question ≡ x.expected) × Right xs
