-- Records one after another: the loop of `ascend`, ten ends as an array, and the ways out of the call.
use Rattle.std.specs.Prelude.{Err}
use Prim.Native.Nat.{ℕ, suc, ◌+◌, ◌≤◌, ◌<◌}
use mathlib.Core.Bool.{Bool, true, false, ◌&&◌, and-eq-true_iff}
use mathlib.Core.Path.{◌≡◌, refl, sym, ◌∙◌}
use mathlib.Core.List.{List, [], ◌∷◌, ◌++◌, flatten}
use native.Mathlib.Omega.{arith}
use native.Mathlib.Numerals.{add-one}
use borrow.Author.Tests.{le-leb, lt-leb, eq-eqb, ne_eqb, eqb-true}
use lib.Dec.{leb, eqb}
use lib.ListN.{length, get_or, drop, length-append, drop_of_length-le}
use lib.Seq.{drop-cons}
use Rattle.answers.specs.declared.Refusal.TheVariants.{Malformed}
use Rattle.answers.specs.Refusals.{unless, Outcome}
use Rattle.answers.specs.Lent.{counted, written}
use Rattle.answers.specs.Lists.{ends_from}
use Rattle.sheet.specs.Text.{record_count, Records, lists, words_of}
use Rattle.sheet.specs.Answer.{records_at}
use Rattle.sheet.proofs.LaidLaws.{laid_records}
use Rattle.sheet_writer.specs.Writing.{write_sheet}
use Rattle.sheet_writer.specs.Laid.{ascend_to, are_ends, write_laid}

-- ---- ends that ascend

-- the loop: those so far do, so that the rest tells
pub record Ascending (count : ℕ) (ends : List ℕ) (from i : ℕ) : Type 0 where
  pub here : i ≤ length ends
  pub rest : ascend_to count from (drop i ends) ≡ ascend_to count 0 ends

pub ascending_start : (count : ℕ) (ends : List ℕ) → Ascending count ends 0 0
ascending_start count ends = record { here = omega arith; rest = refl }

module _ {count : ℕ} {ends : List ℕ} {from i : ℕ} (inv : Ascending count ends from i) where
  ascending_on : i < length ends
      → leb from (get_or ends i 0) && ascend_to count (get_or ends i 0) (drop (suc i) ends) ≡ ascend_to count 0 ends
  unfolding ascend_to
  ascending_on h = rw (drop-cons ends i 0 h) at inv.rest

  pub ascending_not : i < length ends → get_or ends i 0 < from → false ≡ ascend_to count 0 ends
  ascending_not h k = rw (lt-leb from (get_or ends i 0) k) at (ascending_on h)

  pub ascending_more : i < length ends → from ≤ get_or ends i 0 → Ascending count ends (get_or ends i 0) (i + 1)
  ascending_more h k =
      record { here = omega arith; rest = rw (add-one i) (rw (le-leb from (get_or ends i 0) k) at (ascending_on h)) }

  pub ascending_end : length ends ≤ i → leb from count ≡ ascend_to count 0 ends
  unfolding ascend_to
  ascending_end h = rw (drop_of_length-le ends {i = i} h) at inv.rest

-- not ten, or ten that are asked whether they ascend
module _ (count : ℕ) (ends : List ℕ) where
  pub not_ten : (length ends ≡ 10 → ⊥) → false ≡ are_ends count ends
  not_ten h = rw (ne_eqb (length ends) 10 h)

  pub ten_ascend : length ends ≡ 10 → {t : Bool} → t ≡ ascend_to count 0 ends → t ≡ are_ends count ends
  ten_ascend h e = e ∙ rw (eq-eqb (length ends) 10 h)

pub are_ten : (count : ℕ) (ends : List ℕ) → are_ends count ends ≡ true → length ends ≡ record_count
are_ten count ends e =
    eqb-true (length ends) record_count ((and-eq-true_iff (eqb (length ends) record_count) _).0 e).0

-- ---- the ways out

module _ (words ends : List ℕ) (room : ℕ) where
  -- as the ten are written
  pub laid_same : are_ends (length words) ends ≡ true → write_laid words ends room ≡ write_sheet (records_at words ends) room
  unfolding write_laid write_sheet unless
  laid_same h = rw h

pub laid_torn : (words ends out : List ℕ) {t : Bool} → t ≡ are_ends (length words) ends → t ≡ false
    → (Err Malformed ≡ counted (write_laid words ends (length out)))
    × (out ≡ written (write_laid words ends (length out)) out)
unfolding write_laid unless
laid_torn words ends out e h = rw (sym e ∙ h) (refl, refl)

pub laid_written : (words ends out : List ℕ) → are_ends (length words) ends ≡ true → {r : Records} → r ≡ records_at words ends
    → {l : Outcome ℕ} {out₁ : List ℕ}
    → (l ≡ counted (write_sheet r (length out))) × (out₁ ≡ written (write_sheet r (length out)) out)
    → (l ≡ counted (write_laid words ends (length out))) × (out₁ ≡ written (write_laid words ends (length out)) out)
laid_written words ends out fine e told = rw (laid_same words ends (length out) fine, ← e) told

-- ---- records as reading gives them

ends_ascend : (count at : ℕ) (ls : List (List ℕ)) → at + length (flatten ls) ≤ count
    → ascend_to count at (ends_from at ls) ≡ true
unfolding ascend_to ends_from flatten
ends_ascend count at [] h = le-leb at count (omega arith)
ends_ascend count at (l ∷ ls) h =
    rw (le-leb at (at + length l) (omega arith))
    (ends_ascend count (at + length l) ls (omega (arith, h, length-append l (flatten ls))))

pub ends_are : (r : Records) (rest : List ℕ) → are_ends (length (words_of r ++ rest)) (ends_from 0 (lists r)) ≡ true
unfolding ends_from
ends_are r rest = ends_ascend (length (words_of r ++ rest)) 0 (lists r) (omega (arith, length-append (words_of r) rest))

pub records_found : (r : Records) (rest : List ℕ) → records_at (words_of r ++ rest) (ends_from 0 (lists r)) ≡ r
records_found r rest = laid_records (record { sheet = r; rest = rest; stored = refl; placed = refl })
