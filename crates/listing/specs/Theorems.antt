-- The main theorems, stated. Their proofs are the terms of these types in proofs/Theorems.antt.
use Rattle.std.specs.Prelude.{ℕ, ◌*◌, ◌≤◌, ◌<◌, ◌≡◌, ◌⊎◌, ◌↔◌, List, length, get_or, Ok, Err}
use Rattle.answers.specs.declared.Refusal.{Refusal}
use Rattle.answers.specs.declared.Refusal.TheVariants.{NoRoom}
use Rattle.answers.specs.Refusals.{FirstDue, NoneDue, Outcome, over}
use Rattle.sheet.specs.Text.{Records}
use Rattle.sheet.specs.Reading.{sheet_of}
use Rattle.methods.specs.Method.{types_in}
use Rattle.borrowing_param.specs.declared.visitor.BorrowingParamVisitor.{BorrowingParamVisitor}
use Rattle.borrowing_param.specs.declared.visitor.ParamBorrowInfo.{ParamBorrowInfo}
use Rattle.borrowing_param.specs.Edges.{width, edges_in, edges_of}
use Rattle.borrowing_param.specs.Visit.{State}
use Rattle.borrowing_param.specs.New.{method_visitor}
use Rattle.borrowing_param.specs.SheetMethod.{env_of_sheet, sheet_refusals}
use Rattle.borrowing_param.specs.Borrows.{sheet_borrows}
use Rattle.borrowing_param.specs.Theorems.{visit_of, after_all_visits}
use Rattle.listing.specs.Listing.{most_edges, room_bytes, listing_of, listing_checks, listing, refusal_text}
use Rattle.listing.specs.Listing.{response}
use Rattle.listing.specs.Examples.{starred, Right}

-- Condition 1. Whatever the bytes, a refusal is due on them or none is; what the program answers is that refusal's two
-- lines, or the complete listing
pub record Answered (bytes : List ℕ) : Type 0 where
  pub judged : ((k : Refusal) × FirstDue k (listing_checks bytes)) ⊎ NoneDue (listing_checks bytes)
  pub refused : (k : Refusal) → FirstDue k (listing_checks bytes) → response bytes ≡ refusal_text k
  pub complete : NoneDue (listing_checks bytes) → response bytes ≡ listing_of (sheet_of bytes)
  -- it fits into the room of `respond`, so that 9 comes from the edges alone
  pub fits : length (response bytes) ≤ room_bytes
  -- `listing`, lent as much, gives the same
  pub same : NoneDue (listing_checks bytes) → listing bytes room_bytes ≡ Ok (response bytes)

abbrev pub ProgramAnswers : Type 0
ProgramAnswers = (bytes : List ℕ) → Answered bytes

-- The listing is what visits give. Of every sheet on which no refusal but 9 is due: its parameters visited, one after
-- another, by its method's new visitor with 4,096 edges lent
abbrev pub visitor_of : List ℕ → BorrowingParamVisitor
visitor_of bytes =
    method_visitor (env_of_sheet (sheet_of bytes)) (sheet_of bytes).structs (sheet_of bytes).output

abbrev pub params_of : List ℕ → ℕ
params_of bytes = length (types_in (sheet_of bytes).structs (sheet_of bytes).params)

abbrev pub visit_to : List ℕ → List ℕ → ℕ → Outcome ParamBorrowInfo
visit_to bytes edges p = visit_of (sheet_of bytes).structs (sheet_of bytes).params (visitor_of bytes) edges p

abbrev pub left_by_visits : List ℕ → List ℕ → State
left_by_visits bytes edges = after_all_visits (sheet_of bytes).structs (sheet_of bytes).params (visitor_of bytes) edges

pub record AsListed (bytes edges : List ℕ) : Type 0 where
  -- a visit is refused by 9 exactly where the program answers 9
  pub nine : (response bytes ≡ refusal_text NoRoom)
      ↔ ((p : ℕ) × (p < params_of bytes) × (visit_to bytes edges p ≡ Err NoRoom))
  -- else each visit answers the number that is listed, and each lifetime has the edges that are listed, in the same
  -- order
  pub answers : NoneDue (listing_checks bytes) → (p : ℕ) → p < params_of bytes
      → over (λ info. info.number) (visit_to bytes edges p)
      ≡ Ok (get_or (sheet_borrows (sheet_of bytes)).answers p 0)
  pub brings : NoneDue (listing_checks bytes) → (used : ℕ)
      → edges_of used (edges_in (left_by_visits bytes edges).visitor.stored (left_by_visits bytes edges).words)
      ≡ edges_of used (sheet_borrows (sheet_of bytes)).edges

abbrev pub VisitsAsListed : Type 0
VisitsAsListed = (bytes edges : List ℕ) → NoneDue (sheet_refusals bytes) → length edges ≡ width * most_edges
    → AsListed bytes edges

-- No listing is the text of a refusal
abbrev pub ToldApart : Type 0
ToldApart = (r : Records) (k : Refusal) → listing_of r ≡ refusal_text k → ⊥

-- 01's starred examples, all of them, and its own listing
abbrev pub ExamplesHold : Type 0
ExamplesHold = Right starred
