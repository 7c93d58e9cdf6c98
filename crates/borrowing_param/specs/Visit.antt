-- One visit, and a list of visits.
use Rattle.std.specs.Prelude.{ℕ, ◌+◌, ◌*◌, Bool, true, cond, ◌&&◌, leb, ltb, length, get_or, take, Ok, Err}
use mathlib.Core.List.{List, [], ◌∷◌, flat_map}
use Rattle.std.proofs.lemmas.List.Edits.{sets}
use Rattle.answers.specs.declared.Refusal.TheVariants.{NoRoom}
use Rattle.answers.specs.Refusals.{Outcome}
use Rattle.lifetimes.specs.Limits.{most_lifetimes}
use Rattle.lifetimes.specs.Sets.{member, members}
use Rattle.hir_types.specs.LoweredTypes.{LoweredType}
use Rattle.borrowing_param.specs.declared.visitor.LifetimeEdge.{LifetimeEdge}
use Rattle.borrowing_param.specs.declared.visitor.ParamBorrowInfo.{ParamBorrowInfo}
use Rattle.borrowing_param.specs.declared.visitor.BorrowingParamVisitor.{BorrowingParamVisitor}
use Rattle.borrowing_param.specs.Edges.{width, edge_words}
use Rattle.borrowing_param.specs.Brings.{bring, answer_of}

-- the used lifetimes of a visitor, ascending
abbrev pub used_of : BorrowingParamVisitor → List ℕ
used_of v = members v.used

-- whether a lifetime is in a set of those that draw
abbrev pub draws_in : ℕ → ℕ → Bool
draws_in set lifetime = ltb lifetime most_lifetimes && member set lifetime

-- whether it draws an edge to the used lifetime
abbrev pub draws_of : BorrowingParamVisitor → ℕ → ℕ → Bool
draws_of v used lifetime = draws_in (get_or v.draws used 0) lifetime

-- what a visit brings, by used lifetime
abbrev pub bring_to : BorrowingParamVisitor → LoweredType → ℕ → ℕ → List LifetimeEdge
bring_to v t param used = bring (draws_of v used) used param t

abbrev pub bring_all : BorrowingParamVisitor → LoweredType → ℕ → List LifetimeEdge
bring_all v t param = flat_map (bring_to v t param) (used_of v)

-- the visitor with so many edges stored
abbrev pub holding : BorrowingParamVisitor → ℕ → BorrowingParamVisitor
holding v stored = record { used = v.used; draws = v.draws; stored = stored }

-- the visitor and the lent edges between visits
pub record State : Type 0 where
  pub visitor : BorrowingParamVisitor
  pub words : List ℕ

abbrev pub state : BorrowingParamVisitor → List ℕ → State
state v words = record { visitor = v; words = words }

-- what a visit answers and leaves; "a refusal answers its number alone"
pub record VisitOutcome : Type 0 where
  pub info : Outcome ParamBorrowInfo
  pub left : State

abbrev pub outcome : Outcome ParamBorrowInfo → State → VisitOutcome
outcome info left = record { info = info; left = left }

-- a visit with this answer that brings these edges: if there is room for them they are stored behind those that are
-- stored; else it is refused by 9, and leaves all as it was. A visit that brings nothing needs no room
abbrev pub room_for : State → List LifetimeEdge → Bool
room_for s [] = true
room_for s (e ∷ es) = leb (width * (s.visitor.stored + length (e ∷ es))) (length s.words)

abbrev pub with_edges : State → List LifetimeEdge → State
with_edges s es =
    state (holding s.visitor (s.visitor.stored + length es))
    (sets s.words (width * s.visitor.stored) (flat_map edge_words es))

abbrev pub visit_with : State → ParamBorrowInfo → List LifetimeEdge → VisitOutcome
visit_with s info es = cond (room_for s es) (outcome (Ok info) (with_edges s es)) (outcome (Err NoRoom) s)

-- one visit of a parameter of this type
unfoldable pub visit : State → LoweredType → ℕ → VisitOutcome
visit s t param = visit_with s (answer_of t.kind (bring_all s.visitor t param)) (bring_all s.visitor t param)

-- Visits one after another, each with the visitor and the words as the one before left them

unfoldable pub after_visits : (State → ℕ → VisitOutcome) → State → List ℕ → State
after_visits visits s [] = s
after_visits visits s (p ∷ ps) = after_visits visits (visits s p).left ps

-- the visit with the number i, from 0, of a list
abbrev pub visit_at : (State → ℕ → VisitOutcome) → State → List ℕ → ℕ → VisitOutcome
visit_at visits s ps i = visits (after_visits visits s (take i ps)) (get_or ps i 0)
