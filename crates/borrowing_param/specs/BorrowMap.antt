-- The edges in listing order (01: by used lifetime, parameter, def), and the answers by parameter: of a visitor and the
-- types of the parameters.
use Rattle.std.specs.Prelude.{ℕ, ◌≡◌, length}
use mathlib.Core.List.{List, [], ◌∷◌, ◌++◌, flat_map}
use Rattle.answers.specs.Refusals.{Check, Outcome, unless, over}
use Rattle.answers.specs.Lent.{Slice, Fills, room_check}
use Rattle.hir_types.specs.LoweredTypes.{LoweredType}
use Rattle.methods.specs.Method.{types_in, structs_and_params_checks}
use Rattle.borrowing_param.specs.declared.listed.BorrowMap.{BorrowMap}
use Rattle.borrowing_param.specs.declared.visitor.LifetimeEdge.{LifetimeEdge}
use Rattle.borrowing_param.specs.declared.visitor.BorrowingParamVisitor.{BorrowingParamVisitor}
use Rattle.borrowing_param.specs.Edges.{edge_words}
use Rattle.borrowing_param.specs.Brings.{answer_number}
use Rattle.borrowing_param.specs.Visit.{used_of, bring_to, bring_all}
use Rattle.answers.specs.Lists.{numbered}

-- what the parameters bring to one used lifetime, numbered from `param` on
abbrev pub listed_to : BorrowingParamVisitor → ℕ → List LoweredType → ℕ → List LifetimeEdge
listed_to v param ts used = numbered (λ p t. bring_to v t p used) param ts

-- to all used lifetimes, ascending
unfoldable pub listed_edges : BorrowingParamVisitor → List LoweredType → List LifetimeEdge
listed_edges v types = flat_map (listed_to v 0 types) (used_of v)

-- the answers' numbers, the parameters numbered from `param` on
abbrev pub answers_from : BorrowingParamVisitor → ℕ → List LoweredType → List ℕ
answers_from v param ts = numbered (λ p t. answer_number t.kind (bring_all v t p) ∷ []) param ts

-- what `borrow_map` gives: the answers by parameter, the edges in listing order
pub record Mapping : Type 0 where
  pub answers : List ℕ
  pub edges : List LifetimeEdge

abbrev pub mapping_of : BorrowingParamVisitor → List LoweredType → Mapping
mapping_of v types = record { answers = answers_from v 0 types; edges = listed_edges v types }

-- `borrow_map`: refused as any method with these two records is (1, then 4 and 7 by place); then where a slice is too
-- short (9)
abbrev pub map_checks : BorrowingParamVisitor → List ℕ → List ℕ → ℕ → ℕ → List Check
map_checks v structs params answers edges =
    structs_and_params_checks structs params
    ++ (room_check answers (answers_from v 0 (types_in structs params))
    ∷ room_check edges (flat_map edge_words (listed_edges v (types_in structs params)))
    ∷ [])

unfoldable pub borrow_map : BorrowingParamVisitor → List ℕ → List ℕ → ℕ → ℕ → Outcome Mapping
borrow_map v structs params answers edges =
    unless (map_checks v structs params answers edges) (mapping_of v (types_in structs params))

-- what the call answers: how many parameters and edges there are
abbrev pub map_answer : Outcome Mapping → Outcome BorrowMap
map_answer o = over (λ m. record { params = length m.answers; edges = length m.edges }) o

-- what it writes
abbrev pub map_answers : Outcome Mapping → Outcome (List ℕ)
map_answers o = over (λ m. m.answers) o

abbrev pub map_edges : Outcome Mapping → Outcome (List ℕ)
map_edges o = over (λ m. flat_map edge_words m.edges) o

-- both, of what the call gives
pub record MapsTo (o : Outcome Mapping) (r : Outcome BorrowMap) (answers edges : Slice) : Type 0 where
  pub counts : r ≡ map_answer o
  pub answers_filled : Fills (map_answers o) answers
  pub edges_filled : Fills (map_edges o) edges
