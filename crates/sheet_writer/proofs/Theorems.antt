-- The main theorems, proved: for each statement of specs/Theorems.antt a term of exactly its type.
use Rattle.std.specs.Prelude.{Ok}
use Prim.Native.Nat.{ℕ, ◌≤◌}
use mathlib.Core.Bool.{not, true, false}
use mathlib.Core.Path.{◌≡◌, refl, sym, ap, subst, ◌∙◌}
use mathlib.Core.List.{List, [], ◌∷◌, ◌++◌, flatten, flat_map}
use native.Mathlib.Omega.{arith}
use borrow.Author.Tests.{le-ltb, ltb-false}
use lib.ListN.{length}
use Rattle.answers.specs.Lists.{any, all, ends_from}
use Rattle.answers.specs.Refusals.{NoneDue, unless, next, end}
use Rattle.answers.specs.Lent.{room_check}
use Rattle.answers.proofs.RefusalLaws.{due_given, given_due, none_split, none_more, none_first, none_rest, further}
use Rattle.records.specs.Reading.{in_shape, items_of, read_all}
use Rattle.ast_lifetimes.specs.Shapes.{names_in_shape, bounds_in_shape}
use Rattle.ast_lifetimes.specs.Types.{read_type}
use Rattle.elision.specs.Steps.{read_step}
use Rattle.hir_types.specs.LoweredTypes.{read_lowered, read_bare, read_opaque, read_slice, read_struct}
use Rattle.hir_types.specs.Rows.{method_in_shape, read_known, forced}
use Rattle.text.specs.Decimal.{line, following, digits, digits_for}
use Rattle.sheet.specs.Text.{Records, lists, words_of, text, most_word, WordsUpTo}
use Rattle.sheet.specs.Shape.{sheet_in_shape, read_sheet}
use Rattle.sheet.proofs.Theorems.{reading_judges_shapes}
use Rattle.sheet_writer.specs.Writing.{write_checks, write_sheet, most_written}
use Rattle.sheet_writer.specs.Theorems.{WritingIsInverse, RoomForAnyWritten, LaidAsRecords, ExamplesHold}
use Rattle.sheet_writer.proofs.LargeLaws.{none_large}
use Rattle.sheet_writer.proofs.WriteLaws.{text_most, text_short, words_fine, shape_fine}
use Rattle.sheet_writer.proofs.LaidLaws.{laid_same, ends_are, records_found}

-- what writing gives, and when
Written : Records → ℕ → List ℕ → Type 0
Written r room bytes =
    (bytes ≡ text r) × WordsUpTo most_word r × (sheet_in_shape r ≡ true) × (forced r.force ≡ false)
    × (length (text r) ≤ room)

given_so : (r : Records) (room : ℕ) (bytes : List ℕ) → write_sheet r room ≡ Ok bytes → Written r room bytes
unfolding write_sheet Written
given_so r room bytes e =
    let g = given_due (text r) bytes (write_checks r ++ (room_check room (text r) ∷ [])) e in
    let n = none_split (write_checks r) (room_check room (text r) ∷ []) g.0 in (
      sym g.1,
      words_fine r n.0,
      shape_fine r n.0,
      none_first (none_rest (none_rest n.0)),
      ltb-false room (length (text r)) (none_first n.1),
    )

so_given : (r : Records) (room : ℕ) (bytes : List ℕ) → Written r room bytes → write_sheet r room ≡ Ok bytes
unfolding write_sheet Written
so_given r room bytes (spelt, words, shape, force, fits) =
    let n : NoneDue (write_checks r) =
    next ((none_large r).1 words) (next (ap not shape) (next force end)) in
    due_given (text r) (none_more n (next (le-ltb room (length (text r)) fits) end)) ∙ ap (λ (b : List ℕ). Ok b) (sym spelt)

read_back : (r : Records) (room : ℕ) (bytes : List ℕ) → Written r room bytes → read_sheet bytes ≡ Ok r
unfolding Written
read_back r room bytes (spelt, words, shape, force, fits) =
    let size : length bytes ≤ 65536 =
    subst (λ (b : List ℕ). length b ≤ 65536) (sym spelt) (omega (arith, text_most r words shape)) in
    ((reading_judges_shapes bytes).given r).1 (record { spelt = spelt; words = words; size = size }, shape, force)

pub writing_is_inverse : WritingIsInverse
unfolding Written
writing_is_inverse = record {
  given = λ r room bytes. (given_so r room bytes, so_given r room bytes);
  back = λ r room bytes e. read_back r room bytes (given_so r room bytes e);
  again = λ bytes r room e fits.
      let g = ((reading_judges_shapes bytes).given r).0 e in
      let s = g.0 in
      so_given r room bytes (s.spelt, s.words, g.1, g.2, subst (λ (b : List ℕ). length b ≤ room) s.spelt fits);
  one = λ bytes other r e f.
      (((reading_judges_shapes bytes).given r).0 e).0.spelt ∙ sym (((reading_judges_shapes other).given r).0 f).0.spelt;
  short = λ r room bytes e.
      let w = given_so r room bytes e in
      subst (λ (b : List ℕ). length b ≤ most_written) (sym w.0) (text_most r w.1 w.2);
}

pub room_for_any_written : RoomForAnyWritten
unfolding write_sheet
room_for_any_written r room h =
    further (text r) (write_checks r) (room_check room (text r) ∷ [])
    (λ n. next (le-ltb room (length (text r)) (omega (arith, h, text_short r n))) end)

pub laid_as_records : LaidAsRecords
laid_as_records r rest room =
    laid_same (words_of r ++ rest) (ends_from 0 (lists r)) room (ends_are r rest)
    ∙ ap (λ (x : Records). write_sheet x room) (records_found r rest)

pub examples_hold : ExamplesHold
unfolding write_sheet any all unless flatten flat_map text line following digits digits_for
    sheet_in_shape method_in_shape names_in_shape bounds_in_shape in_shape items_of read_all read_type read_step read_known
    read_lowered read_bare read_opaque read_slice read_struct
examples_hold = (refl, (refl, (refl, (refl, (refl, (refl, tt))))))
