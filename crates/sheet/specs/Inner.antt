-- Predicates that only private contracts cite: what reading a line and ten lines from a place on says of reading
-- the rest; room for the words of any sheet.
use Rattle.std.specs.Prelude.{ℕ, ◌+◌, ◌*◌, ◌≤◌, ◌<◌, not, ◌≡◌, ◌⊎◌, eqb, length, drop, Err}
use mathlib.Core.List.{List, [], ◌∷◌, flatten}
use Rattle.std.specs.Prelude.{None, Option, Some}
use Rattle.std.proofs.lemmas.List.Edits.{sets}
use Rattle.answers.specs.Refusals.{check, Outcome, unless, NoneDue}
use Rattle.answers.specs.declared.Refusal.TheVariants.{Malformed, Unreadable}
use Rattle.sheet.specs.declared.reading.Text.{Text}
use Rattle.sheet.specs.declared.lines.LineEnd.{LineEnd}
use Rattle.records.specs.Reading.{most_words}
use Rattle.sheet.specs.Text.{record_count, lists, most_word}
use Rattle.sheet.specs.Answer.{text_with}
use Rattle.sheet.specs.Reading.{Place, LineStart, line_before, read_lines}
use Rattle.sheet.specs.Reading.{all_short, sheet_of, text_checks}
use Rattle.answers.specs.Lists.{ends_from}

-- reading the bytes from an index on
abbrev pub read_from : Place → List ℕ → ℕ → Option (List (List ℕ))
read_from p bytes i = read_lines most_word p (drop i bytes)

-- a line of words stands from one index to another; its words are stored
pub record LineAt (bytes : List ℕ) (from : ℕ) (words words' : List ℕ) (to at count : ℕ) : Type 0 where
  pub line : List ℕ
  pub reads : read_from LineStart bytes from ≡ line_before line (read_from LineStart bytes at)
  pub counts : count ≡ to + length line
  pub stored : words' ≡ sets words to line
  pub after : from + length line < at
  pub inside : at ≤ length bytes

-- no line stands there: the bytes end before, or they cannot be read
abbrev pub NoLine : List ℕ → ℕ → Type 0
NoLine bytes from = (length bytes ≤ from) ⊎ (read_from LineStart bytes from ≡ None)

abbrev pub LineRead : List ℕ → ℕ → List ℕ → List ℕ → ℕ → Option LineEnd → Type 0
LineRead bytes from words words' to (Some l) = LineAt bytes from words words' to l.at l.count
LineRead bytes from words words' to None = NoLine bytes from

-- where the words of ten lines end: 10 where these are no lines or not ten, then 1 where one has too many words
unfoldable pub ten_ends : Option (List (List ℕ)) → Outcome Text
ten_ends None = Err Unreadable
ten_ends (Some ls) =
    unless (check (not (eqb (length ls) record_count)) Unreadable ∷ check (not (all_short ls)) Malformed ∷ [])
    (text_with (ends_from 0 ls))

abbrev pub lines_answer : List ℕ → ℕ → Outcome Text
lines_answer bytes from = ten_ends (read_from LineStart bytes from)

-- the words of ten lines are stored, too many or not; of anything else nothing is said
abbrev pub TenStored : Option (List (List ℕ)) → List ℕ → List ℕ → Type 0
TenStored o words words' = (ls : List (List ℕ)) → o ≡ Some ls → length ls ≡ record_count
    → words' ≡ sets words 0 (flatten ls)

abbrev pub LinesStored : List ℕ → ℕ → List ℕ → List ℕ → Type 0
LinesStored bytes from words words' = TenStored (read_from LineStart bytes from) words words'

-- an accepted text, and where its records end
pub record Counted (bytes ends : List ℕ) : Type 0 where
  pub due : NoneDue (text_checks bytes)
  pub placed : ends ≡ ends_from 0 (lists (sheet_of bytes))

-- so many words are enough for any sheet of these bytes
abbrev pub Roomy : List ℕ → ℕ → Type 0
Roomy bytes room = (n : ℕ) → n ≤ record_count * most_words → 2 * n ≤ length bytes → n ≤ room
