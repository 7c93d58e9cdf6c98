-- Writing ten records: the verdict on them, how many bytes their text has at most, and the ways out of the call.
use Rattle.std.specs.Prelude.{Ok, Err}
use Prim.Native.Nat.{ℕ, suc, ◌*◌, ◌≤◌}
use mathlib.Core.Bool.{Bool, true, false}
use mathlib.Core.Path.{◌≡◌, refl, sym, ap, ◌∙◌}
use mathlib.Core.List.Memᴰ
use mathlib.Core.List.{List, [], ◌∷◌, ◌++◌, flat_map, flatten, Memᴰ}
use mathlib.Core.Logic.{⊎_elim}
use native.Mathlib.Nat.{zero-add}
use native.Mathlib.Omega.{arith}
use borrow.Author.Tests.{le-leb, leb-true, leb-false, not-false}
use lib.Dec.{leb}
use lib.ListN.{length, replicate, length-append}
use Rattle.answers.specs.declared.Refusal.{Refusal}
use Rattle.answers.specs.declared.Refusal.TheVariants.{NoRoom, Unreadable}
use Rattle.answers.specs.Refusals.{Check, unless, FirstDue, NoneDue, end, Verdict}
use Rattle.answers.specs.Lent.{counted, judged, written, room_check}
use Rattle.answers.proofs.RefusalLaws.{refused_first, accepted_none, first_more, first_after, none_more, none_first}
use Rattle.answers.proofs.RefusalLaws.{none_rest}
use Rattle.answers.proofs.LentLaws.{answers_refusal, answers_list, no_room, has_room}
use Rattle.records.specs.Reading.{most_words}
use Rattle.text.specs.Decimal.{line}
use Rattle.text.specs.Printing.{Prints}
use Rattle.text.proofs.DigitLaws.{digits_length}
use Rattle.text.proofs.LineLaws.{Under, line_short, even_some, lines_short}
use Rattle.text.proofs.PrintLaws.{prints_front, prints_length}
use Rattle.sheet.specs.Text.{heading, Records, lists, words_of, text, most_word, WordsUpTo}
use Rattle.sheet.specs.Shape.{sheet_in_shape, records_verdict}
use Rattle.sheet.proofs.Theorems.{shapes_are_short}
use Rattle.sheet_writer.specs.Writing.{has_large, write_checks, write_sheet, most_written}
use Rattle.sheet_writer.proofs.LargeLaws.{none_large}

-- ---- the verdict

module _ (r : Records) {t : Bool} (e : t ≡ has_large (words_of r)) where
  pub large_first : t ≡ true → Err Unreadable ≡ judged (write_checks r)
  unfolding unless
  large_first h = rw (sym e ∙ h)

  pub large_not : t ≡ false → {v : Verdict} → v ≡ records_verdict r → v ≡ judged (write_checks r)
  unfolding unless
  large_not h q = q ∙ rw (sym e ∙ h)

-- ---- how many bytes

-- a record of words that have five digits at most
five_each : (words : List ℕ) → ((word : ℕ) → Memᴰ word words → word ≤ most_word)
    → Under (replicate (length words) 5) words
five_each [] h = tt
five_each (word ∷ words) h = (
  digits_length 4 word (omega (arith, h word (Memᴰ.head refl))),
  five_each words (λ w m. h w (Memᴰ.tail m)),
)

line_most : (words : List ℕ) → ((word : ℕ) → Memᴰ word words → word ≤ most_word) → length words ≤ most_words
    → length (line words) ≤ 6 * most_words
line_most [] h few = omega (arith, line_short [] [] tt)
line_most (word ∷ words) h few =
    omega (arith, few, line_short (replicate (suc (length words)) 5) (word ∷ words) (five_each (word ∷ words) h), even_some 5 (length words))

-- the words of one of some lists are among the words of all
among_all : {word : ℕ} (l : List ℕ) (ls : List (List ℕ)) → Memᴰ l ls → Memᴰ word l → Memᴰ word (flatten ls)
unfolding flatten
among_all l [] m k = absurd (Memᴰ.not-nil m)
among_all {word} l (x ∷ ls) m k =
    ⊎_elim (λ (e : l ≡ x). Memᴰ.append_left (flatten ls) (rw e at k)) (λ i. Memᴰ.append_right x (among_all l ls i k))
    (Memᴰ.cases_cons m)

pub text_most : (r : Records) → WordsUpTo most_word r → sheet_in_shape r ≡ true → length (text r) ≤ most_written
unfolding text
text_most r words shape =
    let lines = lines_short line (6 * most_words) (lists r)
    (λ l m. line_most l (λ w k. words w (among_all l (lists r) m k)) (shapes_are_short r shape l m)) in
    omega (arith, lines, length-append heading (flat_map line (lists r)))

-- what no check being due says
pub words_fine : (r : Records) → NoneDue (write_checks r) → WordsUpTo most_word r
words_fine r n = (none_large r).0 (none_first n)

pub shape_fine : (r : Records) → NoneDue (write_checks r) → sheet_in_shape r ≡ true
shape_fine r n = not-false (sheet_in_shape r) (none_first (none_rest n))

pub text_short : (r : Records) → NoneDue (write_checks r) → length (text r) ≤ most_written
text_short r n = text_most r (words_fine r n) (shape_fine r n)

-- ---- whether it fits

module _ (r : Records) (n : NoneDue (write_checks r)) (room : ℕ) where
  pub fits_any : most_written ≤ room → true ≡ leb (length (text r)) room
  fits_any h = sym (le-leb (length (text r)) room (omega (arith, h, text_short r n)))

  pub fits_measured : {none none₁ : List ℕ} {count : ℕ} → Prints (text r) 0 none count none₁
      → leb count room ≡ leb (length (text r)) room
  fits_measured {count = count} p =
      let e : count ≡ length (text r) = prints_length p (omega (arith, text_short r n)) ∙ zero-add _ in
      rw e

-- ---- the ways out

module _ (r : Records) (out : List ℕ) where
  abbrev checks : List Check
  checks = write_checks r ++ (room_check (length out) (text r) ∷ [])

  pub write_refused : {k : Refusal} → Err k ≡ judged (write_checks r)
      → (Err k ≡ counted (write_sheet r (length out))) × (out ≡ written (write_sheet r (length out)) out)
  unfolding write_sheet
  write_refused {k} told =
      let due : FirstDue k checks = first_more _ (refused_first (tt {0}) k (write_checks r) (sym told)) in
      answers_refusal (text r) out due

  module _ (told : Ok (tt {0}) ≡ judged (write_checks r)) where
    pub none_due : NoneDue (write_checks r)
    none_due = accepted_none (tt {0}) (write_checks r) (sym told)

    module _ {t : Bool} (fits : t ≡ leb (length (text r)) (length out)) where
      pub write_short : t ≡ false
          → (Err NoRoom ≡ counted (write_sheet r (length out))) × (out ≡ written (write_sheet r (length out)) out)
      unfolding write_sheet
      write_short e =
          let due : FirstDue NoRoom checks =
          first_after none_due (no_room (length out) (text r) (leb-false (length (text r)) (length out) (sym fits ∙ e))) in
          answers_refusal (text r) out due

      pub write_given : t ≡ true → {count : ℕ} {out₁ : List ℕ} → Prints (text r) 0 out count out₁
          → (Ok count ≡ counted (write_sheet r (length out))) × (out₁ ≡ written (write_sheet r (length out)) out)
      unfolding write_sheet
      write_given e {count} p =
          let room : length (text r) ≤ length out = leb-true (length (text r)) (length out) (sym fits ∙ e) in
          let due : NoneDue checks = none_more none_due (has_room (length out) (text r) room end) in
          let all = answers_list (text r) out due in
          let n : count ≡ length (text r) = prints_length p (omega (arith, text_short r none_due)) ∙ zero-add _ in
          (ap (λ (k : ℕ). Ok k) n ∙ all.0, prints_front p room ∙ all.1)
