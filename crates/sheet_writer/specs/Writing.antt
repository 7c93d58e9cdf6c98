-- Writing a sheet (02, W-214: "Editors hold the records and want the file. Write the sheet of ten records."). What is
-- written is `text` of the crate sheet; that it is the inverse of reading is WritingIsInverse in specs/Theorems.antt.
use Rattle.std.specs.Prelude.{ℕ, ◌+◌, ◌*◌, Bool, List, [], ◌∷◌, ◌++◌, ltb, length}
use Rattle.answers.specs.declared.Refusal.TheVariants.{Unreadable}
use Rattle.answers.specs.Refusals.{Check, check, Outcome, unless}
use Rattle.answers.specs.Lent.{room_check}
use Rattle.answers.specs.Lists.{any}
use Rattle.records.specs.Reading.{most_words}
use Rattle.sheet.specs.Text.{record_count, heading, Records, words_of, text, most_word}
use Rattle.sheet.specs.Shape.{records_checks}

-- "a word above 65535" is among some words
abbrev pub has_large : List ℕ → Bool
has_large words = any (ltb most_word) words

-- "Records are refused with 10 for a word above 65535, then with 1, then with 13 as the table says, however long a
-- record is": 10 over all words of all records, then what the reader refuses of records that it has read
abbrev pub write_checks : Records → List Check
write_checks r = check (has_large (words_of r)) Unreadable ∷ records_checks r

-- "then with 9. Later refusals, such as 2, don't prevent writing."
unfoldable pub write_sheet : Records → ℕ → Outcome (List ℕ)
write_sheet r room = unless (write_checks r ++ (room_check room (text r) ∷ [])) (text r)

-- So many bytes take any sheet that is written: the heading; and of ten records of 1,024 words each word, five digits
-- and the byte behind them
abbrev pub most_written : ℕ
most_written = length heading + 6 * (record_count * most_words)
