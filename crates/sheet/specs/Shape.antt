-- The shape of a sheet's ten records (refusal 1, 01's "torn"): each as the crate that reads it says; and what the
-- reader refuses.
use Rattle.std.specs.Prelude.{ℕ, Bool, ◌&&◌, List, ◌++◌}
use Rattle.answers.specs.Refusals.{Check, Outcome, unless, Verdict}
use Rattle.answers.specs.Lent.{judged}
use Rattle.ast_lifetimes.specs.Shapes.{names_in_shape, bounds_in_shape}
use Rattle.ast_lifetimes.specs.Types.{types_in_shape}
use Rattle.elision.specs.Steps.{self_in_shape, steps_in_shape}
use Rattle.hir_types.specs.Rows.{method_in_shape, shape_checks}
use Rattle.sheet.specs.declared.reading.Text.{Text}
use Rattle.sheet.specs.Text.{Records, lists, words_of}
use Rattle.sheet.specs.Reading.{sheet_of, text_checks}
use Rattle.answers.specs.Lists.{ends_from}
use Rattle.sheet.specs.Answer.{text_answer, with_room}

-- Whether all ten are in shape; the last four are those of a method (`structs`; `params` and `output` beside so many
-- rows; `force`)
unfoldable pub sheet_in_shape : Records → Bool
sheet_in_shape r =
    (names_in_shape r.names && (bounds_in_shape r.bounds && types_in_shape r.types))
    && ((self_in_shape r.self && (steps_in_shape r.steps && steps_in_shape r.returns))
    && method_in_shape r.structs r.params r.output r.force)

-- The first refusals of ten records: 1 over all of them, then 13
abbrev pub records_checks : Records → List Check
records_checks r = shape_checks (sheet_in_shape r) r.force

-- the verdict of these alone
abbrev pub records_verdict : Records → Verdict
records_verdict r = judged (records_checks r)

-- The checks of the reader, in the papers' order: 10; 1 over all records, for one above 1,024 words or one that is not
-- in shape; 13. The reader checks no further, and the refusals of a sheet begin with this list
unfoldable pub sheet_checks : List ℕ → List Check
sheet_checks bytes = text_checks bytes ++ records_checks (sheet_of bytes)

unfoldable pub read_sheet : List ℕ → Outcome Records
read_sheet bytes = unless (sheet_checks bytes) (sheet_of bytes)

-- What `read_sheet` answers: 10, 1, 13, then 9
abbrev pub call_checks : List ℕ → ℕ → List Check
call_checks bytes room = with_room (sheet_checks bytes) room (sheet_of bytes)

unfoldable pub sheet_words : List ℕ → ℕ → Outcome (List ℕ)
sheet_words bytes room = unless (call_checks bytes room) (words_of (sheet_of bytes))

unfoldable pub sheet_ends : List ℕ → ℕ → Outcome (List ℕ)
sheet_ends bytes room = unless (call_checks bytes room) (ends_from 0 (lists (sheet_of bytes)))

unfoldable pub sheet_answer : List ℕ → ℕ → Outcome Text
sheet_answer bytes room = text_answer (sheet_ends bytes room)
