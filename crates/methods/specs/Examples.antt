-- Methods as questions and answers, 01's starred example among them. Theorems.ExamplesHold: each question has its
-- answer.
use Rattle.std.specs.Prelude.{ℕ, ◌≡◌, List, [], ◌∷◌, Ok, Err}
use Rattle.answers.specs.declared.Refusal.TheVariants.{Malformed, Full, Mismatch, OutOfRange, Retired}
use Rattle.answers.specs.Refusals.{Outcome}
use Rattle.lifetimes.specs.Env.{env_of}
use Rattle.methods.specs.declared.fields.FieldPair.{FieldPair}
use Rattle.methods.specs.Used.{used_set}
use Rattle.methods.specs.Fields.{field_pair, field_pairs}

pub data Question : Type 0 where
  -- the used lifetimes: how many are declared, how many there are in all, no bounds; structs, params, output, force
  Used : ℕ → ℕ → List ℕ → List ℕ → List ℕ → List ℕ → Question
  -- the pairs of a field: structs, row, field
  Field : List ℕ → ℕ → ℕ → Question

pub data Answer : Type 0 where
  Set : Outcome ℕ → Answer
  Pairs : Outcome (List FieldPair) → Answer

abbrev pub answer : Question → Answer
answer (Used declared count structs params output force) =
    Set (used_set (env_of declared count []) structs params output force)
answer (Field structs row field) = Pairs (field_pairs structs row field)

pub record Example : Type 0 where
  pub question : Question
  pub expected : Answer

abbrev pub asked : Question → Answer → Example
asked q a = record { question = q; expected = a }

abbrev pub examples : List Example
examples =
    -- output `3 2`: 8, the lifetime of `Strs` is in no environment
    asked (Used 1 1 [] [] (3 ∷ 2 ∷ []) (0 ∷ [])) (Set (Err OutOfRange))
    -- an output number equal to the count: 8; one below it is used
    ∷ asked (Used 1 1 [] [] (3 ∷ 1 ∷ 2 ∷ []) (0 ∷ [])) (Set (Err OutOfRange))
    ∷ asked (Used 2 2 [] [] (3 ∷ 1 ∷ 2 ∷ []) (0 ∷ [])) (Set (Ok 2))
    -- empty `force`: 1
    ∷ asked (Used 0 0 [] [] [] []) (Set (Err Malformed))
    -- a struct under an option with no words for its row's one lifetime: 7
    ∷ asked (Used 0 0 (1 ∷ 0 ∷ []) (4 ∷ 2 ∷ 0 ∷ 0 ∷ []) [] (0 ∷ [])) (Set (Err Mismatch))
    -- `force` 1: 13, also beside 65 lifetimes (4) and an output number past the count (8); but 1 beside a torn record,
    -- and for `force` 2 and 0 1
    ∷ asked (Used 2 2 (1 ∷ 1 ∷ 3 ∷ 1 ∷ 1 ∷ []) (2 ∷ 0 ∷ 1 ∷ 2 ∷ []) [] (1 ∷ []))
    (Set (Err Retired))
    ∷ asked (Used 65 65 [] [] (3 ∷ 2 ∷ []) (1 ∷ [])) (Set (Err Retired))
    ∷ asked (Used 65 65 [] [] (3 ∷ 2 ∷ []) (0 ∷ [])) (Set (Err Full))
    ∷ asked (Used 1 1 [] (2 ∷ 0 ∷ 0 ∷ []) [] (1 ∷ [])) (Set (Err Malformed))
    ∷ asked (Used 1 1 [] [] [] (2 ∷ [])) (Set (Err Malformed))
    ∷ asked (Used 1 1 [] [] [] (0 ∷ 1 ∷ [])) (Set (Err Malformed))
    -- row 1 has two lifetimes, its field row 0's two filled by 'static and by its second
    ∷ asked (Field (2 ∷ 0 ∷ 2 ∷ 1 ∷ 2 ∷ 0 ∷ 2 ∷ 0 ∷ 2 ∷ []) 1 0) (Pairs (Ok (field_pair 1 1 ∷ [])))
    -- a field that is not there: 1
    ∷ asked (Field (2 ∷ 0 ∷ []) 0 0) (Pairs (Err Malformed))
    ∷ []

-- each question of a list has its expected answer
abbrev pub Right : List Example → Type 0
Right [] = Unit {0}
Right (x ∷ xs) = (answer x.question ≡ x.expected) × Right xs
