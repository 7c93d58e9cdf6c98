-- The main theorems of this crate, stated. Each has its proof, a term of exactly this type and of the same name in
-- small letters, in proofs/Theorems.antt.
use Rattle.std.specs.Prelude.{ℕ, ◌*◌, ◌≤◌, ◌<◌, true, false, ◌≡◌, ◌↔◌, ◌⊎◌, length, get_or, Ok, Err}
use mathlib.Core.List.{List, [], ◌∷◌, ◌++◌, Memᴰ}
use Rattle.std.proofs.Math.Seq.{slice}
use Rattle.answers.specs.declared.Refusal.{Refusal}
use Rattle.answers.specs.declared.Refusal.TheVariants.{Malformed, NoRoom, Unreadable, Retired}
use Rattle.answers.specs.Refusals.{Outcome}
use Rattle.hir_types.specs.Rows.{forced}
use Rattle.records.specs.Reading.{most_words}
use Rattle.sheet.specs.Text.{record_count, Records, lists, words_of, text, most_word, most_bytes, WordsUpTo}
use Rattle.sheet.specs.Reading.{read_text}
use Rattle.answers.specs.Lists.{ends_from}
use Rattle.sheet.specs.Answer.{read_words, read_ends}
use Rattle.sheet.specs.Shape.{sheet_in_shape, read_sheet, sheet_words, sheet_ends}
use Rattle.sheet.specs.Examples.{examples, sheet_examples, Right}

-- Two sheets with the same text are the same, whatever their words
abbrev pub TextIsOneToOne : Type 0
TextIsOneToOne = (r s : Records) → text r ≡ text s → r ≡ s

-- the bytes are this sheet: "decimal 0 to 65535", "a sheet at most 65,536 bytes"
pub record IsSheet (bytes : List ℕ) (r : Records) : Type 0 where
  pub spelt : bytes ≡ text r
  pub words : WordsUpTo most_word r
  pub size : length bytes ≤ most_bytes

-- Reading gives a sheet exactly if the bytes are that sheet and no record of it has more than 1,024 words; it refuses
-- with 10 exactly if the bytes are no sheet; with 1 exactly if they are a sheet with a longer record; and with nothing
-- else.
pub record ReadsBack (bytes : List ℕ) : Type 0 where
  pub given : (r : Records) → (read_text bytes ≡ Ok r)
      ↔ (IsSheet bytes r × ((l : List ℕ) → Memᴰ l (lists r) → length l ≤ most_words))
  pub unreadable : (read_text bytes ≡ Err Unreadable) ↔ ((r : Records) → IsSheet bytes r → ⊥)
  pub malformed : (read_text bytes ≡ Err Malformed)
      ↔ ((r : Records) × IsSheet bytes r × ((l : List ℕ) × Memᴰ l (lists r) × (most_words < length l)))
  pub refusals : (k : Refusal) → read_text bytes ≡ Err k → (k ≡ Unreadable) ⊎ (k ≡ Malformed)

abbrev pub ReadingIsInverse : Type 0
ReadingIsInverse = (bytes : List ℕ) → ReadsBack bytes

-- Reading with the shapes: gives a sheet exactly if the bytes are that sheet, its records are in shape and `force` is
-- not 1; refuses with 10 exactly if the bytes are no sheet; with 1 exactly if they are a sheet whose records are not
-- all in shape (a record above 1,024 words is not); with 13 exactly if they are a sheet in shape whose `force` is 1;
-- and with nothing else. 02: "The sheet keeps its tenth line, which must be 0."
pub record ReadsInShape (bytes : List ℕ) : Type 0 where
  pub given : (r : Records) → (read_sheet bytes ≡ Ok r)
      ↔ (IsSheet bytes r × (sheet_in_shape r ≡ true) × (forced r.force ≡ false))
  pub unreadable : (read_sheet bytes ≡ Err Unreadable) ↔ ((r : Records) → IsSheet bytes r → ⊥)
  pub malformed : (read_sheet bytes ≡ Err Malformed) ↔ ((r : Records) × IsSheet bytes r × (sheet_in_shape r
      ≡ false))
  pub retired : (read_sheet bytes ≡ Err Retired)
      ↔ ((r : Records) × IsSheet bytes r × (sheet_in_shape r ≡ true) × (forced r.force ≡ true))
  pub refusals : (k : Refusal) → read_sheet bytes ≡ Err k
      → (k ≡ Unreadable) ⊎ ((k ≡ Malformed) ⊎ (k ≡ Retired))
  pub tenth : (r : Records) → read_sheet bytes ≡ Ok r → r.force ≡ 0 ∷ []

abbrev pub ReadingJudgesShapes : Type 0
ReadingJudgesShapes = (bytes : List ℕ) → ReadsInShape bytes

-- No record of a sheet in shape has more than 1,024 words
abbrev pub ShapesAreShort : Type 0
ShapesAreShort = (r : Records) → sheet_in_shape r ≡ true → (l : List ℕ) → Memᴰ l (lists r) → length l ≤ most_words

-- What a call answers and writes, from what reading gives: the words and ends of the sheet's records; 9 where the words
-- are more than the slice takes; else the refusal of the reading.
pub record CallGives (reading : Outcome Records) (words ends : Outcome (List ℕ)) (room : ℕ) : Type 0 where
  pub given : (r : Records) → reading ≡ Ok r → length (words_of r) ≤ room → (words ≡ Ok (words_of r))
      × (ends ≡ Ok (ends_from 0 (lists r)))
  pub short : (r : Records) → reading ≡ Ok r → room < length (words_of r) → (words ≡ Err NoRoom)
      × (ends ≡ Err NoRoom)
  pub refused : (k : Refusal) → reading ≡ Err k → (words ≡ Err k) × (ends ≡ Err k)

-- `read_text`, and `read_sheet`
abbrev pub CallReadsText : Type 0
CallReadsText = (bytes : List ℕ) (room : ℕ) → CallGives (read_text bytes) (read_words bytes room) (read_ends bytes room)
    room

abbrev pub CallReadsSheet : Type 0
CallReadsSheet =
    (bytes : List ℕ) (room : ℕ) → CallGives (read_sheet bytes) (sheet_words bytes room) (sheet_ends bytes room) room

-- The words of each record stand from where the one before ends to where it ends, whatever is behind them
abbrev pub RecordsInPlace : Type 0
RecordsInPlace = (r : Records) (rest : List ℕ) (i : ℕ) → i < record_count
    → slice (get_or (0 ∷ ends_from 0 (lists r)) i 0) (get_or (ends_from 0 (lists r)) i 0) (words_of r ++ rest)
    ≡ get_or (lists r) i []

-- A slice of 10,240 words takes any sheet that reading gives
abbrev pub RoomForAnySheet : Type 0
RoomForAnySheet = (bytes : List ℕ) (r : Records) → read_text bytes ≡ Ok r
    → length (words_of r) ≤ record_count * most_words

-- and a sheet has at most half as many words as bytes, so that a small sheet needs little room
abbrev pub WordsTakeTwoBytes : Type 0
WordsTakeTwoBytes = (bytes : List ℕ) (r : Records) → read_text bytes ≡ Ok r → 2 * length (words_of r) ≤ length bytes

-- The examples
abbrev pub ExamplesHold : Type 0
ExamplesHold = Right read_text examples

abbrev pub SheetExamplesHold : Type 0
SheetExamplesHold = Right read_sheet sheet_examples
