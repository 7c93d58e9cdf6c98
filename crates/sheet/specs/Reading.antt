-- Reading the bytes of a sheet. That this is the inverse of `text`, with 01's refusals, is TextIsOneToOne and
-- ReadingIsInverse in specs/Theorems.antt.
use Rattle.std.specs.Prelude.{ℕ, ◌+◌, ◌*◌, ◌-◌, Bool, true, false, cond, not, ◌&&◌, List, [], ◌∷◌, eqb, ltb}
use Rattle.std.specs.Prelude.{leb, length, get_or}
use Rattle.std.specs.Prelude.{None, Option, Some}
use Rattle.std.specs.Option.{unwrap_or}
use Rattle.answers.specs.declared.Refusal.TheVariants.{Malformed, Unreadable}
use Rattle.answers.specs.Refusals.{Check, check, Outcome, unless}
use Rattle.text.specs.Decimal.{newline, space}
use Rattle.text.specs.Number.{is_digit}
use Rattle.records.specs.Reading.{few_words}
use Rattle.sheet.specs.Text.{record_count, heading, Records, lists, most_word, most_bytes}
use Rattle.answers.specs.Lists.{all}

-- what follows the bytes of a prefix, where the bytes begin with it
unfoldable pub strip_prefix : List ℕ → List ℕ → Option (List ℕ)
strip_prefix [] bytes = Some bytes
strip_prefix (p ∷ prefix) [] = None
strip_prefix (p ∷ prefix) (b ∷ bytes) = let rest = strip_prefix prefix bytes in cond (eqb p b) rest None

-- where reading stands: at the start of a line, at the start of a word behind a space, or behind the digits of a number
pub data Place : Type 0 where
  LineStart : Place
  WordStart : Place
  Behind : ℕ → Place

-- a byte continues a number: a digit, no leading zero before it, and the limit kept
abbrev pub continues : ℕ → ℕ → ℕ → Bool
continues limit n b = is_digit b && (ltb 0 n && leb (n * 10 + (b - 48)) limit)

-- a line before other lines, and a word before the words of the first line
abbrev pub line_before : List ℕ → Option (List (List ℕ)) → Option (List (List ℕ))
line_before l None = None
line_before l (Some ls) = Some (l ∷ ls)

abbrev pub word_before : ℕ → Option (List (List ℕ)) → Option (List (List ℕ))
word_before w None = None
word_before w (Some []) = None
word_before w (Some (l ∷ ls)) = Some ((w ∷ l) ∷ ls)

-- The lines of words that the bytes are, byte by byte; or none. No number grows above the limit (65,535, so that one
-- digit is always within it).
unfoldable pub read_lines : ℕ → Place → List ℕ → Option (List (List ℕ))
read_lines limit LineStart [] = Some []
read_lines limit WordStart [] = None
read_lines limit (Behind n) [] = None
read_lines limit LineStart (b ∷ bytes) =
    let empty = line_before [] (read_lines limit LineStart bytes) in
    let number = read_lines limit (Behind (b - 48)) bytes in
    let other = cond (is_digit b) number None in
    cond (eqb b newline) empty other
read_lines limit WordStart (b ∷ bytes) =
    let number = read_lines limit (Behind (b - 48)) bytes in
    cond (is_digit b) number None
read_lines limit (Behind n) (b ∷ bytes) =
    let last = line_before (n ∷ []) (read_lines limit LineStart bytes) in
    let next = word_before n (read_lines limit WordStart bytes) in
    let number = read_lines limit (Behind (n * 10 + (b - 48))) bytes in
    let other = cond (continues limit n b) number None in
    let word = cond (eqb b space) next other in
    cond (eqb b newline) last word

-- ten lines are the ten records
abbrev pub records_of : List (List ℕ) → Records
records_of ls =
    record {
      names = get_or ls 0 [];
      bounds = get_or ls 1 [];
      types = get_or ls 2 [];
      self = get_or ls 3 [];
      steps = get_or ls 4 [];
      returns = get_or ls 5 [];
      structs = get_or ls 6 [];
      params = get_or ls 7 [];
      output = get_or ls 8 [];
      force = get_or ls 9 [];
    }

unfoldable pub ten : Option (List (List ℕ)) → Option Records
ten None = None
ten (Some ls) = cond (eqb (length ls) record_count) (Some (records_of ls)) None

-- the lines behind the heading
unfoldable pub lines_behind : Option (List ℕ) → Option (List (List ℕ))
lines_behind None = None
lines_behind (Some bytes) = read_lines most_word LineStart bytes

-- the sheet that the bytes are: at most 65,536 bytes, the heading and ten lines; or none
unfoldable pub sheet_in : List ℕ → Option Records
sheet_in bytes = cond (leb (length bytes) most_bytes) (ten (lines_behind (strip_prefix heading bytes))) None

-- the same, and empty records where there is none
unfoldable pub sheet_of : List ℕ → Records
sheet_of bytes = unwrap_or (sheet_in bytes) (records_of [])

abbrev pub is_none : Option Records → Bool
is_none None = true
is_none (Some r) = false

-- no record has too many words
abbrev pub all_short : List (List ℕ) → Bool
all_short ls = all few_words ls

-- The checks of a sheet's text, in 01's order: 10; then 1 for a record above 1,024 words, once the whole text is read
unfoldable pub text_checks : List ℕ → List Check
text_checks bytes =
    check (is_none (sheet_in bytes)) Unreadable ∷ check (not (all_short (lists (sheet_of bytes)))) Malformed
    ∷ []

unfoldable pub read_text : List ℕ → Outcome Records
read_text bytes = unless (text_checks bytes) (sheet_of bytes)
