-- The main theorems, proved: for each statement of specs/Theorems.antt a term of exactly its type.
use mathlib.Core.List.{[], flatten, flat_map}
use mathlib.Core.Path.{refl, ap}
use Rattle.answers.specs.Lists.{all}
use Rattle.answers.specs.Refusals.{unless}
use Rattle.records.specs.Reading.{in_shape, items_of, read_all}
use Rattle.ast_lifetimes.specs.Shapes.{names_in_shape, bounds_in_shape}
use Rattle.ast_lifetimes.specs.Types.{read_type}
use Rattle.elision.specs.Steps.{read_step}
use Rattle.hir_types.specs.LoweredTypes.{read_lowered, read_bare, read_opaque, read_slice, read_struct}
use Rattle.hir_types.specs.Rows.{method_in_shape, read_known}
use Rattle.text.specs.Decimal.{line, following, digits, digits_for}
use Rattle.sheet.specs.Text.{lists, text}
use Rattle.sheet.specs.Reading.{records_of, read_text, text_checks, sheet_of, sheet_in, lines_behind, ten, read_lines}
use Rattle.sheet.specs.Reading.{strip_prefix}
use Rattle.sheet.specs.Shape.{read_sheet, sheet_words, sheet_ends, sheet_checks, sheet_in_shape}
use Rattle.sheet.specs.Answer.{read_words, read_ends}
use Rattle.sheet.specs.Theorems.{TextIsOneToOne, ReadingIsInverse, ReadingJudgesShapes}
use Rattle.sheet.specs.Theorems.{ShapesAreShort, CallReadsText, CallReadsSheet, RecordsInPlace, RoomForAnySheet}
use Rattle.sheet.specs.Theorems.{WordsTakeTwoBytes, ExamplesHold, SheetExamplesHold}
use Rattle.sheet.proofs.SheetLaws.{text_lists, text_bytes, total_words, few_all}
use Rattle.sheet.proofs.ReadingLaws.{call_gives, list_between}
use Rattle.sheet.proofs.ReadingCases.{reads_back}
use Rattle.sheet.proofs.ShapeCases.{shape_short, reads_in_shape}

pub text_is_one_to_one : TextIsOneToOne
text_is_one_to_one r s e = ap records_of (text_lists r s e)

pub reading_is_inverse : ReadingIsInverse
reading_is_inverse = reads_back

pub reading_judges_shapes : ReadingJudgesShapes
reading_judges_shapes = reads_in_shape

pub shapes_are_short : ShapesAreShort
shapes_are_short r e = few_all (lists r) (shape_short r e)

pub call_reads_text : CallReadsText
unfolding read_text read_words read_ends
call_reads_text bytes room = call_gives (text_checks bytes) (sheet_of bytes) room

pub call_reads_sheet : CallReadsSheet
unfolding read_sheet sheet_words sheet_ends
call_reads_sheet bytes room = call_gives (sheet_checks bytes) (sheet_of bytes) room

pub records_in_place : RecordsInPlace
records_in_place r rest i h = list_between [] 0 (lists r) rest i refl h

pub room_for_any_sheet : RoomForAnySheet
room_for_any_sheet bytes r e = total_words (lists r) (((reads_back bytes).given r).0 e).1

pub words_take_two_bytes : WordsTakeTwoBytes
words_take_two_bytes bytes r e = rw (((reads_back bytes).given r).0 e).0.spelt (text_bytes r)

pub examples_hold : ExamplesHold
unfolding read_text text_checks sheet_of sheet_in lines_behind ten read_lines strip_prefix all unless flatten
examples_hold = (
  refl,
  (refl, (refl, (refl, (refl, (refl, (refl, (refl, (refl, (refl, (refl, (refl, (refl, (refl, (refl, tt)))))))))))))),
)

pub sheet_examples_hold : SheetExamplesHold
unfolding read_sheet sheet_checks text_checks sheet_of sheet_in lines_behind ten read_lines strip_prefix all unless flatten
    flat_map text line following digits digits_for
    sheet_in_shape method_in_shape names_in_shape bounds_in_shape in_shape items_of read_all read_type read_step read_known
    read_lowered read_bare read_opaque read_slice read_struct
sheet_examples_hold = (refl, (refl, (refl, (refl, (refl, (refl, (refl, (refl, (refl, (refl, (refl, (refl, tt))))))))))))
