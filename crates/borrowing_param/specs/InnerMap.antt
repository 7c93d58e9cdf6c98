-- For private functions only: passing over all parameters, counting and storing their edges. No public contract cites
-- this file.
use Rattle.std.specs.Prelude.{ℕ, ◌≤◌, Bool, ◌≡◌, length}
use mathlib.Core.List.{List, [], ◌∷◌, flat_map}
use Rattle.std.proofs.lemmas.List.Edits.{sets}
use Rattle.answers.specs.Refusals.{Check, Outcome, unless}
use Rattle.answers.specs.Lent.{room_check}
use Rattle.records.specs.Reading.{Read, items_of}
use Rattle.hir_types.specs.LoweredTypes.{LoweredType, read_lowered}
use Rattle.methods.specs.Method.{most_params}
use Rattle.borrowing_param.specs.declared.listed.BorrowMap.{BorrowMap}
use Rattle.borrowing_param.specs.declared.visitor.LifetimeEdge.{LifetimeEdge}
use Rattle.borrowing_param.specs.declared.visitor.BorrowingParamVisitor.{BorrowingParamVisitor}
use Rattle.borrowing_param.specs.Edges.{edge_words}
use Rattle.borrowing_param.specs.Brings.{bring}
use Rattle.borrowing_param.specs.BorrowMap.{listed_edges, answers_from, Mapping, mapping_of}
use Rattle.answers.specs.Lists.{numbered}

-- types one after another, to the end of some words
pub data ReadsTypes : List ℕ → List LoweredType → Type 0 where
  done : ReadsTypes [] []
  more : {words rest : List ℕ} {t : LoweredType} {ts : List LoweredType} → read_lowered words ≡ Read t rest
      → ReadsTypes rest ts → ReadsTypes words (t ∷ ts)

-- the types of a record, their rows not looked up
abbrev pub param_types : List ℕ → List LoweredType
param_types words = items_of (λ number. read_lowered) words

-- the parameters of a method
pub record Params (words : List ℕ) : Type 0 where
  pub lists : ReadsTypes words (param_types words)
  pub few : length (param_types words) ≤ most_params

-- a visitor by its sets
abbrev pub visitor_in : ℕ → List ℕ → BorrowingParamVisitor
visitor_in used drawn = record { used = used; draws = drawn; stored = 0 }

-- what some types, numbered from `param` on, bring to one used lifetime
abbrev pub bring_from : (ℕ → Bool) → ℕ → ℕ → List LoweredType → List LifetimeEdge
bring_from draws used param ts = numbered (λ p t. bring draws used p t) param ts

-- how many parameters there are, how many edges, and the numbers of the answers
pub record CountsParams (used : ℕ) (drawn : List ℕ) (types : List LoweredType) (numbers : List ℕ) (r : BorrowMap)
    (numbers₁ : List ℕ) : Type 0 where
  pub params : r.params ≡ length types
  pub edges : r.edges ≡ length (listed_edges (visitor_in used drawn) types)
  pub noted : numbers₁ ≡ sets numbers 0 (answers_from (visitor_in used drawn) 0 types)

-- the two checks for room
abbrev pub map_room_checks : BorrowingParamVisitor → List LoweredType → ℕ → ℕ → List Check
map_room_checks v types answers edges =
    room_check answers (answers_from v 0 types)
    ∷ room_check edges (flat_map edge_words (listed_edges v types))
    ∷ []

abbrev pub map_of : BorrowingParamVisitor → List LoweredType → ℕ → ℕ → Outcome Mapping
map_of v types answers edges = unless (map_room_checks v types answers edges) (mapping_of v types)
