-- 01's starred examples ("Checked by hand (* is to be proved)"), all in one list, and 01's own sheet with its listing.
-- Each question is answered by the definitions that the contracts cite; the crates below have the questions of their
-- own. Theorems.ExamplesHold: each question has its answer.
use Rattle.std.specs.Prelude.{ℕ, ◌≡◌, List, [], ◌∷◌, ◌++◌, map}
use Rattle.answers.specs.Refusals.{Outcome}
use Rattle.lifetimes.specs.Examples as reach
use Rattle.ast_lifetimes.specs.Examples as ast
use Rattle.elision.specs.Examples as elision
use Rattle.text.specs.Decimal.{newline, space}
use Rattle.sheet.specs.Examples.{sheet_bytes}
use Rattle.borrowing_param.specs.Examples as visits
use Rattle.listing.specs.Listing.{count_heading, lowered_heading, longer_heading, answer_heading, edge_heading}
use Rattle.listing.specs.Listing.{refusal_heading, response}

pub data Question : Type 0 where
  -- traversals of an environment; AST environments; elision; methods and their visits
  Reach : reach.Question → Question
  Ast : ast.Question → Question
  Elision : elision.Question → Question
  Visits : visits.Question → Question
  -- what the program answers to some bytes
  Program : List ℕ → Question

pub data Answer : Type 0 where
  Reached : Outcome (List ℕ) → Answer
  Declared : ast.Answer → Answer
  Elided : elision.Answer → Answer
  Visited : visits.Answer → Answer
  Printed : List ℕ → Answer

abbrev pub answer : Question → Answer
answer (Reach q) = Reached (reach.answer q)
answer (Ast q) = Declared (ast.answer q)
answer (Elision q) = Elided (elision.answer q)
answer (Visits q) = Visited (visits.answer q)
answer (Program bytes) = Printed (response bytes)

pub record Example : Type 0 where
  pub question : Question
  pub expected : Answer

abbrev pub asked : Question → Answer → Example
asked q a = record { question = q; expected = a }

-- the questions of the crates below
abbrev pub reach_example : reach.Example → Example
reach_example e = asked (Reach e.question) (Reached e.expected)

abbrev pub ast_example : ast.Example → Example
ast_example e = asked (Ast e.question) (Declared e.expected)

abbrev pub elision_example : elision.Example → Example
elision_example e = asked (Elision e.question) (Elided e.expected)

abbrev pub visits_example : visits.Example → Example
visits_example e = asked (Visits e.question) (Visited e.expected)

-- the listing of 01
abbrev pub listing_bytes : List ℕ
listing_bytes =
    count_heading
    ++ (51 ∷ space ∷ 49 ∷ space ∷ 50 ∷ space ∷ 49 ∷ newline ∷ [])
    ++ lowered_heading
    ++ (newline ∷ [])
    ++ (49 ∷ space ∷ 50 ∷ space ∷ 51 ∷ newline ∷ [])
    ++ (49 ∷ newline ∷ [])
    ++ longer_heading
    ++ (48 ∷ space ∷ 48 ∷ space ∷ 49 ∷ newline ∷ [])
    ++ (49 ∷ space ∷ 49 ∷ newline ∷ [])
    ++ (50 ∷ space ∷ 50 ∷ newline ∷ [])
    ++ answer_heading
    ++ (48 ∷ space ∷ 52 ∷ newline ∷ [])
    ++ (49 ∷ space ∷ 49 ∷ newline ∷ [])
    ++ edge_heading
    ++ (48 ∷ space ∷ 48 ∷ space ∷ 49 ∷ space ∷ 48 ∷ space ∷ 48 ∷ newline ∷ [])

abbrev pub program_examples : List Example
program_examples =
    asked (Program sheet_bytes) (Printed listing_bytes)
    -- no bytes at all: 10
    ∷ asked (Program []) (Printed (refusal_heading ++ (49 ∷ 48 ∷ newline ∷ [])))
    ∷ []

abbrev pub starred : List Example
starred =
    map reach_example reach.starred
    ++ (map ast_example ast.starred
    ++ (map elision_example elision.starred
    ++ (map visits_example visits.starred
    ++ program_examples)))

-- each question of a list has its expected answer
abbrev pub Right : List Example → Type 0
Right [] = Unit {0}
Right (x ∷ xs) = (answer x.question ≡ x.expected) × Right xs
