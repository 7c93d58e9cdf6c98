-- The main theorems of this crate, stated. Each has its proof, a term of exactly this type and of the same name in
-- small letters, in proofs/Theorems.antt.
use Rattle.std.specs.Prelude.{ℕ, ◌≤◌, true, false, ◌≡◌, ◌↔◌, List, ◌++◌, length, Ok}
use Rattle.answers.specs.Refusals.{unless}
use Rattle.answers.specs.Lists.{ends_from}
use Rattle.hir_types.specs.Rows.{forced}
use Rattle.sheet.specs.Text.{Records, lists, words_of, text, most_word, WordsUpTo}
use Rattle.sheet.specs.Shape.{sheet_in_shape, read_sheet}
use Rattle.sheet_writer.specs.Writing.{write_checks, write_sheet, most_written}
use Rattle.sheet_writer.specs.Laid.{write_laid}
use Rattle.sheet_writer.specs.Examples.{examples, AsExpected}

-- Writing and reading are each other's inverse. `read_sheet` is 02's "reader, checking no further than 13".
pub record Inverse : Type 0 where
  -- ten records are written exactly if no word is above 65535, all are in shape, `force` is not 1 and there is room;
  -- whatever else a sheet is refused by does not prevent it
  pub given : (r : Records) (room : ℕ) (bytes : List ℕ) → (write_sheet r room ≡ Ok bytes)
      ↔ ((bytes ≡ text r) × WordsUpTo most_word r × (sheet_in_shape r ≡ true) × (forced r.force ≡ false)
      × (length (text r) ≤ room))
  -- "The reader .. takes it back to equal records"
  pub back : (r : Records) (room : ℕ) (bytes : List ℕ) → write_sheet r room ≡ Ok bytes → read_sheet bytes ≡ Ok r
  -- "each accepted sheet, read and written, comes out byte for byte"
  pub again : (bytes : List ℕ) (r : Records) (room : ℕ) → read_sheet bytes ≡ Ok r → length bytes ≤ room
      → write_sheet r room ≡ Ok bytes
  -- "no two sheets have the same records"
  pub one : (bytes other : List ℕ) (r : Records) → read_sheet bytes ≡ Ok r → read_sheet other ≡ Ok r → bytes
      ≡ other
  -- a written sheet has at most 61,506 bytes
  pub short : (r : Records) (room : ℕ) (bytes : List ℕ) → write_sheet r room ≡ Ok bytes → length bytes ≤ most_written

abbrev pub WritingIsInverse : Type 0
WritingIsInverse = Inverse

-- With room for 61,506 bytes no refusal comes from what is lent
abbrev pub RoomForAnyWritten : Type 0
RoomForAnyWritten = (r : Records) (room : ℕ) → most_written ≤ room → write_sheet r room
    ≡ unless (write_checks r) (text r)

-- The words and ends that reading a sheet gives are written as its records are, whatever is behind the words
abbrev pub LaidAsRecords : Type 0
LaidAsRecords = (r : Records) (rest : List ℕ) (room : ℕ)
    → write_laid (words_of r ++ rest) (ends_from 0 (lists r)) room ≡ write_sheet r room

-- The examples
abbrev pub ExamplesHold : Type 0
ExamplesHold = AsExpected examples
