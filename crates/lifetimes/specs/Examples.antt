-- 01's starred examples about environments ("Checked by hand (* is to be proved)"), as one list of questions and
-- answers. Theorems.ExamplesHold: each question has its answer.
use Rattle.std.specs.Prelude.{ℕ, Bool, true, ◌≡◌, List, [], ◌∷◌, Ok, Err}
use Rattle.answers.specs.declared.Refusal.TheVariants.{OutOfRange}
use Rattle.lifetimes.specs.declared.bounds.Bound.{Bound}
use Rattle.answers.specs.Refusals.{Outcome}
use Rattle.lifetimes.specs.Bounds.{above}
use Rattle.lifetimes.specs.Env.{env_of}
use Rattle.lifetimes.specs.Reach.{list_reach, list_depth_first}

pub data Question : Type 0 where
  -- HIR: declared, count, bounds, the direction, the start; with room for 64
  Hir : ℕ → ℕ → List Bound → Bool → ℕ → Question
  -- the same in the AST's order
  Ast : ℕ → ℕ → List Bound → Bool → ℕ → Question

abbrev pub answer : Question → Outcome (List ℕ)
answer (Hir declared count bs d start) = list_reach d (env_of declared count bs) start 64
answer (Ast declared count bs d start) = list_depth_first d (env_of declared count bs) start 64

pub record Example : Type 0 where
  pub question : Question
  pub expected : Outcome (List ℕ)

abbrev pub asked : Question → Outcome (List ℕ) → Example
asked q o = record { question = q; expected = o }

abbrev pub starred : List Example
starred =
    -- bounds 1 above 0, 2 above 0: HIR longer of 0 is 0 2 1; AST 0 1 2
    asked (Hir 3 3 (above 1 0 ∷ above 2 0 ∷ []) true 0) (Ok (0 ∷ 2 ∷ 1 ∷ []))
    ∷ asked (Ast 3 3 (above 1 0 ∷ above 2 0 ∷ []) true 0) (Ok (0 ∷ 1 ∷ 2 ∷ []))
    -- 0 above 1, 1 above 0: longer of 1 is 1 0
    ∷ asked (Hir 2 2 (above 0 1 ∷ above 1 0 ∷ []) true 1) (Ok (1 ∷ 0 ∷ []))
    -- count 3, two declared: longer of 2 is 2; of 3 is 8
    ∷ asked (Hir 2 3 [] true 2) (Ok (2 ∷ []))
    ∷ asked (Hir 2 3 [] true 3) (Err OutOfRange)
    ∷ []

-- each question of a list has its expected answer
abbrev pub Right : List Example → Type 0
Right [] = Unit {0}
Right (x ∷ xs) = (answer x.question ≡ x.expected) × Right xs
