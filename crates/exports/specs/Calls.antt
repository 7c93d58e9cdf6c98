-- The exported calls: what each gives, its status, and the words beside the answer. What a sheet gives is said by the
-- crates below; here there is one slice more, which may be too short (9), and a status in place of an answer of many
-- cases.
use Rattle.std.specs.Prelude.{ℕ, ◌≡◌, List, [], ◌∷◌, ◌++◌, length, Ok, Err}
use Rattle.answers.specs.declared.Refusal.{Refusal}
use Rattle.answers.specs.declared.Refusal.TheVariants.{NoRoom}
use Rattle.answers.specs.Refusals.{Check, Outcome, unless, number_of, over}
use Rattle.answers.specs.Lent.{Slice, Fills, room_check}
use Rattle.sheet.specs.Text.{text}
use Rattle.sheet.specs.Reading.{sheet_of}
use Rattle.sheet.specs.Answer.{records_at}
use Rattle.sheet_writer.specs.Laid.{laid_checks}
use Rattle.borrowing_param.specs.SheetMethod.{sheet_refusals}
use Rattle.borrowing_param.specs.Borrows.{Borrows, sheet_borrows, borrows_room_checks, used_words}
use Rattle.borrowing_param.specs.Borrows.{answer_words, edges_words}
use Rattle.listing.specs.Listing.{listing_of, listing_checks}

-- 0, or the papers' number of the refusal
abbrev pub status_of : {A : Type 0} → Outcome A → ℕ
status_of (Ok a) = 0
status_of (Err r) = number_of r

-- why a call is refused whose last words have no place: as what gives them is refused into no room at all, else by 9
abbrev pub unplaced : {A : Type 0} → Outcome A → Refusal
unplaced (Ok a) = NoRoom
unplaced (Err r) = r

-- ---- a text, and how many bytes it has in a word beside it: `borrows_listing`, `borrows_write_sheet`

abbrev pub length_word : List ℕ → List ℕ
length_word text = length text ∷ []

-- refused by some checks, then where one of the two slices is too short (9)
unfoldable pub text_to : List Check → List ℕ → ℕ → ℕ → Outcome (List ℕ)
text_to checks text room words =
    unless (checks ++ (room_check room text ∷ room_check words (length_word text) ∷ [])) text

abbrev pub length_of : Outcome (List ℕ) → Outcome (List ℕ)
length_of o = over length_word o

-- what the call answers and writes
pub record TextAnswers (o : Outcome (List ℕ)) (status : ℕ) (out written : Slice) : Type 0 where
  pub status_is : status ≡ status_of o
  pub out_filled : Fills o out
  pub written_filled : Fills (length_of o) written

-- a listing: refused as the sheet is, then by too many edges (9)
abbrev pub listing_to : List ℕ → ℕ → ℕ → Outcome (List ℕ)
listing_to bytes = text_to (listing_checks bytes) (listing_of (sheet_of bytes))

-- a sheet written from words and the ends of ten records in them: refused where these are no such ends (1), then as the
-- records are
abbrev pub writing_to : List ℕ → List ℕ → ℕ → ℕ → Outcome (List ℕ)
writing_to words ends = text_to (laid_checks words ends) (text (records_at words ends))

-- ---- `borrows_sheet`

-- the words beside the three lists: how many used lifetimes, parameters and edges there are
abbrev pub count_words : Borrows → List ℕ
count_words b = length b.used ∷ length b.answers ∷ length b.edges ∷ []

-- refused as the sheet is, then where one of the four slices is too short (9)
unfoldable pub sheet_to : List ℕ → ℕ → ℕ → ℕ → ℕ → Outcome Borrows
sheet_to bytes used answers edges counts =
    unless
    (sheet_refusals bytes
    ++ (borrows_room_checks (sheet_borrows (sheet_of bytes)) used answers edges
    ++ (room_check counts (count_words (sheet_borrows (sheet_of bytes))) ∷ [])))
    (sheet_borrows (sheet_of bytes))

abbrev pub counts_of : Outcome Borrows → Outcome (List ℕ)
counts_of o = over count_words o

-- what the call answers and writes
pub record SheetAnswers (o : Outcome Borrows) (status : ℕ) (used answers edges counts : Slice) : Type 0 where
  pub status_is : status ≡ status_of o
  pub used_filled : Fills (used_words o) used
  pub answers_filled : Fills (answer_words o) answers
  pub edges_filled : Fills (edges_words o) edges
  pub counts_filled : Fills (counts_of o) counts
