-- What `read_text` answers: the words of the ten records one after another in the lent slice, and where each record
-- ends.
use Rattle.std.specs.Prelude.{ℕ, cond, ◌&&◌, List, [], ◌∷◌, ◌++◌, leb, ltb, length, get_or}
use Rattle.std.proofs.Math.Seq.{slice}
use Rattle.answers.specs.Refusals.{Check, Outcome, unless, over}
use Rattle.answers.specs.Lent.{room_check}
use Rattle.answers.specs.Lists.{ends_from}
use Rattle.sheet.specs.declared.reading.Text.{Text}
use Rattle.sheet.specs.Text.{record_count, Records, ten_records, lists, words_of}
use Rattle.sheet.specs.Reading.{sheet_of, text_checks}

-- the words of the record with a number: from where the one before ends to where it ends. None where there is no such
-- record, or where these are no ends of records in the slice
abbrev pub start_of : List ℕ → ℕ → ℕ
start_of ends i = get_or (0 ∷ ends) i 0

unfoldable pub record_words : List ℕ → List ℕ → ℕ → List ℕ
record_words words ends i =
    cond (ltb i record_count && (leb (start_of ends i) (get_or ends i 0) && leb (get_or ends i 0) (length words)))
    (slice (start_of ends i) (get_or ends i 0) words)
    []

-- the ten records that stand so in a slice
abbrev pub records_at : List ℕ → List ℕ → Records
records_at words ends =
    ten_records (record_words words ends 0) (record_words words ends 1) (record_words words ends 2)
    (record_words words ends 3) (record_words words ends 4) (record_words words ends 5) (record_words words ends 6)
    (record_words words ends 7) (record_words words ends 8) (record_words words ends 9)

-- where the records of a text end, as it is answered
abbrev pub text_with : List ℕ → Text
text_with ends = record { ends = ends }

abbrev pub text_answer : Outcome (List ℕ) → Outcome Text
text_answer = over text_with

-- the answer before the slice is looked at
unfoldable pub measured : List ℕ → Outcome Text
measured bytes = unless (text_checks bytes) (text_with (ends_from 0 (lists (sheet_of bytes))))

-- some checks, then 9: the slice is too short for the words of all records
abbrev pub with_room : List Check → ℕ → Records → List Check
with_room checks room r = checks ++ (room_check room (words_of r) ∷ [])

-- 10, 1, then 9
abbrev pub read_checks : List ℕ → ℕ → List Check
read_checks bytes room = with_room (text_checks bytes) room (sheet_of bytes)

unfoldable pub read_words : List ℕ → ℕ → Outcome (List ℕ)
read_words bytes room = unless (read_checks bytes room) (words_of (sheet_of bytes))

unfoldable pub read_ends : List ℕ → ℕ → Outcome (List ℕ)
read_ends bytes room = unless (read_checks bytes room) (ends_from 0 (lists (sheet_of bytes)))

unfoldable pub read_answer : List ℕ → ℕ → Outcome Text
read_answer bytes room = text_answer (read_ends bytes room)
