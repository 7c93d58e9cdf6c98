-- Examples of writing, as one list: records, the room for them, and what is expected. Theorems.ExamplesHold: each is
-- so.
use Rattle.std.specs.Prelude.{ℕ, ◌≡◌, List, [], ◌∷◌, length, Ok, Err}
use Rattle.answers.specs.declared.Refusal.TheVariants.{Malformed, NoRoom, Unreadable, Retired}
use Rattle.answers.specs.Refusals.{Outcome}
use Rattle.sheet.specs.Text.{Records}
use Rattle.sheet.specs.Reading.{records_of}
use Rattle.sheet.specs.Examples.{sheet_bytes, sheet_records, smallest_with}
use Rattle.sheet_writer.specs.Writing.{write_sheet}

pub record Example : Type 0 where
  pub given : Records
  pub room : ℕ
  pub expected : Outcome (List ℕ)

abbrev pub writes : Records → ℕ → Outcome (List ℕ) → Example
writes r n o = record { given = r; room = n; expected = o }

abbrev pub examples : List Example
examples =
    -- 01's own sheet with room for it, and with a byte less
    writes sheet_records (length sheet_bytes) (Ok sheet_bytes)
    ∷ writes sheet_records 131 (Err NoRoom)
    -- `force` 1; beside it a row that is not there; beside both a word above 65535
    ∷ writes (smallest_with [] (1 ∷ [])) 200 (Err Retired)
    ∷ writes (smallest_with (2 ∷ 0 ∷ 0 ∷ []) (1 ∷ [])) 200 (Err Malformed)
    ∷ writes (smallest_with (2 ∷ 0 ∷ 0 ∷ 65536 ∷ []) (1 ∷ [])) 200 (Err Unreadable)
    -- no records at all, into no room
    ∷ writes (records_of []) 0 (Err Malformed)
    ∷ []

-- each of a list is written as expected
abbrev pub AsExpected : List Example → Type 0
AsExpected [] = Unit {0}
AsExpected (x ∷ xs) = (write_sheet x.given x.room ≡ x.expected) × AsExpected xs
