-- A whole method, and a whole sheet: the used lifetimes, the answers by parameter, and the edges in listing order.
use Rattle.std.specs.Prelude.{ℕ, ◌*◌, ◌≡◌, length}
use mathlib.Core.List.{List, [], ◌∷◌, ◌++◌, flat_map}
use Rattle.lifetimes.specs.declared.env.LifetimeEnv.{LifetimeEnv}
use Rattle.answers.specs.Refusals.{Check, Outcome, unless, over}
use Rattle.answers.specs.Lent.{Slice, Fills, room_check}
use Rattle.methods.specs.Method.{most_params, types_in, method_checks}
use Rattle.methods.specs.Used.{most_used}
use Rattle.sheet.specs.Text.{Records}
use Rattle.sheet.specs.Reading.{sheet_of}
use Rattle.borrowing_param.specs.declared.borrows.Borrows as answer
use Rattle.borrowing_param.specs.declared.visitor.LifetimeEdge.{LifetimeEdge}
use Rattle.borrowing_param.specs.declared.visitor.BorrowingParamVisitor.{BorrowingParamVisitor}
use Rattle.borrowing_param.specs.Edges.{most_defs, edge_words}
use Rattle.borrowing_param.specs.Visit.{used_of}
use Rattle.borrowing_param.specs.New.{method_visitor}
use Rattle.borrowing_param.specs.BorrowMap.{listed_edges, answers_from}
use Rattle.borrowing_param.specs.SheetMethod.{env_of_sheet, sheet_refusals}

-- what a whole method or sheet gives
pub record Borrows : Type 0 where
  pub used : List ℕ
  pub answers : List ℕ
  pub edges : List LifetimeEdge

-- by the method's new visitor
abbrev pub borrows_by : BorrowingParamVisitor → List ℕ → List ℕ → Borrows
borrows_by v structs params =
    record {
      used = used_of v;
      answers = answers_from v 0 (types_in structs params);
      edges = listed_edges v (types_in structs params);
    }

abbrev pub borrows_of : LifetimeEnv → List ℕ → List ℕ → List ℕ → Borrows
borrows_of env structs params output = borrows_by (method_visitor env structs output) structs params

abbrev pub sheet_borrows : Records → Borrows
sheet_borrows r = borrows_of (env_of_sheet r) r.structs r.params r.output

-- how many edges a method has at most: to each of its used lifetimes one from each path word of each parameter
abbrev pub most_listed : ℕ
most_listed = most_used * (most_params * most_defs)

-- a slice too short (9)
abbrev pub borrows_room_checks : Borrows → ℕ → ℕ → ℕ → List Check
borrows_room_checks b used answers edges =
    room_check used b.used ∷ room_check answers b.answers ∷ room_check edges (flat_map edge_words b.edges) ∷ []

-- `borrow_method`: refused as the method is (1, 13, 4, 7, 8), then by 9
unfoldable pub borrow_method : LifetimeEnv → List ℕ → List ℕ → List ℕ → List ℕ → ℕ → ℕ → ℕ → Outcome Borrows
borrow_method env structs params output force used answers edges =
    unless
    (method_checks env structs params output force
    ++ borrows_room_checks (borrows_of env structs params output) used answers edges)
    (borrows_of env structs params output)

-- `borrow_sheet`: refused as the sheet is (10, 1, 13, then 2 to 7 by place, 8), then by 9
unfoldable pub borrow_sheet : List ℕ → ℕ → ℕ → ℕ → Outcome Borrows
borrow_sheet bytes used answers edges =
    unless (sheet_refusals bytes ++ borrows_room_checks (sheet_borrows (sheet_of bytes)) used answers edges)
    (sheet_borrows (sheet_of bytes))

-- what the calls answer: how many of each there are
abbrev pub borrows_answer : Outcome Borrows → Outcome answer.Borrows
borrows_answer o =
    over (λ b. record { used = length b.used; params = length b.answers; edges = length b.edges }) o

-- what they write
abbrev pub used_words : Outcome Borrows → Outcome (List ℕ)
used_words o = over (λ b. b.used) o

abbrev pub answer_words : Outcome Borrows → Outcome (List ℕ)
answer_words o = over (λ b. b.answers) o

abbrev pub edges_words : Outcome Borrows → Outcome (List ℕ)
edges_words o = over (λ b. flat_map edge_words b.edges) o

-- both, of what a call gives
pub record BorrowsTo (o : Outcome Borrows) (r : Outcome answer.Borrows) (used answers edges : Slice) : Type 0 where
  pub counts : r ≡ borrows_answer o
  pub used_filled : Fills (used_words o) used
  pub answers_filled : Fills (answer_words o) answers
  pub edges_filled : Fills (edges_words o) edges
