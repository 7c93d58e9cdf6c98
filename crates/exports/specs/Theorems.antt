-- The main theorems, stated. Their proofs are the terms of these types in proofs/Theorems.antt.
use Rattle.std.specs.Prelude.{ℕ, ◌*◌, ◌≤◌, ◌≡◌, List}
use Rattle.answers.specs.declared.Refusal.{Refusal}
use Rattle.answers.specs.Refusals.{unless, number_of}
use Rattle.sheet.specs.Text.{text}
use Rattle.sheet.specs.Reading.{sheet_of}
use Rattle.sheet.specs.Answer.{records_at}
use Rattle.sheet_writer.specs.Writing.{most_written}
use Rattle.sheet_writer.specs.Laid.{laid_checks}
use Rattle.methods.specs.Method.{most_params}
use Rattle.methods.specs.Used.{most_used}
use Rattle.borrowing_param.specs.Edges.{width}
use Rattle.borrowing_param.specs.SheetMethod.{sheet_refusals}
use Rattle.borrowing_param.specs.Borrows.{sheet_borrows, most_listed}
use Rattle.listing.specs.Listing.{room_bytes, listing_of, listing_checks}
use Rattle.exports.specs.Calls.{listing_to, writing_to, sheet_to}

-- The sizes that include/borrows.h names (131,072 bytes and a word; 34, 16, 43,520 and 3 words; 61,506 bytes and a
-- word) are always enough. With them, or more, no refusal comes from what is lent: a listing's 9 is that of too many
-- edges,
abbrev pub BytesEnough : Type 0
BytesEnough = (bytes : List ℕ) (room words : ℕ) → room_bytes ≤ room → 1 ≤ words
    → listing_to bytes room words ≡ unless (listing_checks bytes) (listing_of (sheet_of bytes))

-- `borrows_sheet` has no 9
abbrev pub WordsEnough : Type 0
WordsEnough = (bytes : List ℕ) (used answers edges counts : ℕ)
    → most_used ≤ used → most_params ≤ answers → width * most_listed ≤ edges → 3 ≤ counts
    → sheet_to bytes used answers edges counts ≡ unless (sheet_refusals bytes) (sheet_borrows (sheet_of bytes))

-- and no more has `borrows_write_sheet` (61,506 bytes and a word)
abbrev pub WrittenEnough : Type 0
WrittenEnough = (words ends : List ℕ) (room written : ℕ) → most_written ≤ room → 1 ≤ written
    → writing_to words ends room written ≡ unless (laid_checks words ends) (text (records_at words ends))

-- A status of 0 is never that of a refusal, and none is above 13
abbrev pub StatusTells : Type 0
StatusTells = (r : Refusal) → (1 ≤ number_of r) × (number_of r ≤ 13)
