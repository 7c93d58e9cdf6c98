-- The listing and the visits: with 4,096 edges lent there is room for all exactly where the listing has no more.
use Rattle.std.specs.Prelude.{Ok, Err}
use Prim.Native.Nat.{ℕ, ◌*◌, ◌≤◌, ◌<◌}
use mathlib.Core.Bool.{Bool, true, false}
use mathlib.Core.Path.{◌≡◌, refl, sym, ap, ◌∙◌}
use mathlib.Core.List.{List}
use native.Mathlib.Omega.{arith}
use borrow.Author.Tests.{ltb-true, ltb-false}
use lib.Dec.{ltb}
use lib.ListN.{length}
use Rattle.answers.specs.declared.Refusal.TheVariants.{NoRoom}
use Rattle.answers.specs.Refusals.{here, NoneDue, next, end, Outcome, over}
use Rattle.answers.proofs.RefusalLaws.{none_first, none_split, none_more, first_after}
use Rattle.borrowing_param.specs.declared.visitor.ParamBorrowInfo.{ParamBorrowInfo}
use Rattle.borrowing_param.specs.Edges.{width}
use Rattle.borrowing_param.specs.SheetMethod.{env_of_sheet, sheet_refusals}
use Rattle.borrowing_param.specs.Borrows.{sheet_borrows}
use Rattle.borrowing_param.specs.Theorems.{AsVisited}
use Rattle.borrowing_param.proofs.Theorems.{listing_is_visits, sheets_give_methods}
use Rattle.sheet.specs.Reading.{sheet_of}
use Rattle.listing.specs.Listing.{most_edges, listing_checks, refusal_text, response}
use Rattle.listing.specs.Theorems.{Answered, ToldApart, visitor_of, params_of, visit_to, AsListed}

module _ (bytes edges : List ℕ) (fine : NoneDue (sheet_refusals bytes)) (lent : length edges ≡ width * most_edges) where
  visits : AsVisited (sheet_of bytes).structs (sheet_of bytes).params (visitor_of bytes) edges
  visits = listing_is_visits (env_of_sheet (sheet_of bytes)) (sheet_of bytes).structs (sheet_of bytes).params
      (sheet_of bytes).output (sheet_of bytes).force (sheets_give_methods bytes fine) edges

  abbrev listed : ℕ
  listed = length (sheet_borrows (sheet_of bytes)).edges

  -- none due on the listing is room for all edges
  pub room_for_all : NoneDue (listing_checks bytes) → width * listed ≤ length edges
  unfolding listing_checks
  room_for_all n = omega (arith, lent, ltb-false most_edges listed (none_first (none_split (sheet_refusals bytes) _ n).1))

  -- a refused visit is none that is accepted
  told : {i : Outcome ParamBorrowInfo} {n : ℕ} → i ≡ Err NoRoom → over (λ (x : ParamBorrowInfo). x.number) i ≡ Ok n → ⊥
  told e a = let z : ◌≡◌ {A = Outcome ℕ} (Err NoRoom) (Ok _) = sym (ap (over (λ (x : ParamBorrowInfo). x.number)) e) ∙ a in cc

  module _ (answered : Answered bytes) (apart : ToldApart) where
    too_many : (b : Bool) → ltb most_edges listed ≡ b → response bytes ≡ refusal_text NoRoom → most_edges < listed
    unfolding listing_checks
    too_many true t e = ltb-true most_edges listed t
    too_many false f e = absurd (apart (sheet_of bytes) NoRoom (sym (answered.complete (none_more fine (next f end))) ∙ e))

    is_nine : (b : Bool) → ltb most_edges listed ≡ b → (p : ℕ) × (p < params_of bytes)
        × (visit_to bytes edges p ≡ Err NoRoom) → response bytes ≡ refusal_text NoRoom
    unfolding listing_checks
    is_nine true t w = answered.refused NoRoom (first_after fine (here t refl))
    is_nine false f w = absurd (told w.2 (visits.answered (omega (arith, lent, ltb-false most_edges listed f)) w.0 w.1))

    pub as_listed : AsListed bytes edges
    as_listed = record {
      nine = (
        λ e. visits.refused (λ room. omega (arith, lent, room, too_many (ltb most_edges listed) refl e)),
        is_nine (ltb most_edges listed) refl,
      );
      answers = λ n. visits.answered (room_for_all n);
      brings = λ n. visits.edges (room_for_all n);
    }
