-- Examples of texts: 01's own sheet, and the edges of the rules, as one list of bytes and what reading gives; and a
-- list of sheets with their shapes. Theorems.ExamplesHold: each is so.
use Rattle.std.specs.Prelude.{ℕ, ◌≡◌, replicate, Ok, Err}
use mathlib.Core.List.{List, [], ◌∷◌, ◌++◌, flatten}
use Rattle.answers.specs.declared.Refusal.TheVariants.{Malformed, Unreadable, Retired}
use Rattle.answers.specs.Refusals.{Outcome}
use Rattle.text.specs.Decimal.{newline, space}
use Rattle.sheet.specs.Text.{heading, Records, text}
use Rattle.sheet.specs.Reading.{records_of}

pub record Example : Type 0 where
  pub bytes : List ℕ
  pub expected : Outcome Records

abbrev pub reads : List ℕ → Outcome Records → Example
reads b o = record { bytes = b; expected = o }

-- the sheet of 01's listing
abbrev pub sheet_bytes : List ℕ
sheet_bytes =
    heading
    ++ (48 ∷ space ∷ 55 ∷ space ∷ 57 ∷ newline ∷ [])
    ++ (48 ∷ newline ∷ [])
    ++ (50 ∷ space ∷ 55 ∷ space ∷ 49 ∷ space ∷ 49 ∷ space ∷ 57 ∷ newline ∷ [])
    ++ (newline ∷ [])
    ++ (48 ∷ space ∷ 55 ∷ space ∷ 48 ∷ space ∷ 57 ∷ space ∷ 48 ∷ space ∷ 49 ∷ newline ∷ [])
    ++ (48 ∷ space ∷ 55 ∷ newline ∷ [])
    ++ (newline ∷ [])
    ++ (49 ∷ space ∷ 48 ∷ space ∷ 49 ∷ space ∷ 50 ∷ space ∷ 49 ∷ space ∷ 49 ∷ space ∷ 51 ∷ space ∷ 49 ∷ space ∷ 51
    ∷ newline ∷ [])
    ++ (49 ∷ space ∷ 48 ∷ space ∷ 49 ∷ space ∷ 49 ∷ space ∷ 48 ∷ newline ∷ [])
    ++ (48 ∷ newline ∷ [])

abbrev pub sheet_records : Records
sheet_records =
    record {
      names = 0 ∷ 7 ∷ 9 ∷ [];
      bounds = 0 ∷ [];
      types = 2 ∷ 7 ∷ 1 ∷ 1 ∷ 9 ∷ [];
      self = [];
      steps = 0 ∷ 7 ∷ 0 ∷ 9 ∷ 0 ∷ 1 ∷ [];
      returns = 0 ∷ 7 ∷ [];
      structs = [];
      params = 1 ∷ 0 ∷ 1 ∷ 2 ∷ 1 ∷ 1 ∷ 3 ∷ 1 ∷ 3 ∷ [];
      output = 1 ∷ 0 ∷ 1 ∷ 1 ∷ 0 ∷ [];
      force = 0 ∷ [];
    }

-- empty lines; a line of some noughts and one more, and what stands before its end
abbrev pub empty_lines : ℕ → List ℕ
empty_lines n = replicate n newline

abbrev pub noughts : ℕ → List ℕ → List ℕ
noughts n rest = flatten (replicate n (48 ∷ space ∷ [])) ++ (48 ∷ rest)

abbrev pub examples : List Example
examples =
    reads sheet_bytes (Ok sheet_records)
    -- nothing, the heading alone, ten empty lines, nine, eleven
    ∷ reads [] (Err Unreadable)
    ∷ reads heading (Err Unreadable)
    ∷ reads (heading ++ empty_lines 10) (Ok (records_of []))
    ∷ reads (heading ++ empty_lines 9) (Err Unreadable)
    ∷ reads (heading ++ empty_lines 11) (Err Unreadable)
    -- a last line `65535`, `65536`, `00`, `07`, with a space behind its word, without its end
    ∷ reads (heading ++ empty_lines 9 ++ (54 ∷ 53 ∷ 53 ∷ 51 ∷ 53 ∷ newline ∷ []))
    (Ok (records_of ([] ∷ [] ∷ [] ∷ [] ∷ [] ∷ [] ∷ [] ∷ [] ∷ [] ∷ (65535 ∷ []) ∷ [])))
    ∷ reads (heading ++ empty_lines 9 ++ (54 ∷ 53 ∷ 53 ∷ 51 ∷ 54 ∷ newline ∷ [])) (Err Unreadable)
    ∷ reads (heading ++ empty_lines 9 ++ (48 ∷ 48 ∷ newline ∷ [])) (Err Unreadable)
    ∷ reads (heading ++ empty_lines 9 ++ (48 ∷ 55 ∷ newline ∷ [])) (Err Unreadable)
    ∷ reads (heading ++ empty_lines 9 ++ (55 ∷ space ∷ newline ∷ [])) (Err Unreadable)
    ∷ reads (heading ++ empty_lines 9 ++ (55 ∷ [])) (Err Unreadable)
    -- a record of 1,024 words, of 1,025, and of 1,025 with `07` in the last line
    ∷ reads (heading ++ noughts 1023 (empty_lines 10)) (Ok (records_of (replicate 1024 0 ∷ [])))
    ∷ reads (heading ++ noughts 1024 (empty_lines 10)) (Err Malformed)
    ∷ reads (heading ++ noughts 1024 (empty_lines 9 ++ (48 ∷ 55 ∷ newline ∷ []))) (Err Unreadable)
    ∷ []

-- the smallest sheet but for `params` and `force`
abbrev pub smallest_with : List ℕ → List ℕ → Records
smallest_with params force = records_of ((0 ∷ []) ∷ (0 ∷ []) ∷ [] ∷ [] ∷ [] ∷ [] ∷ [] ∷ params ∷ [] ∷ force ∷ [])

abbrev pub sheet_examples : List Example
sheet_examples =
    reads sheet_bytes (Ok sheet_records)
    ∷ reads (text (smallest_with [] (0 ∷ []))) (Ok (smallest_with [] (0 ∷ [])))
    -- empty `names`; empty `force`; both that and a line too many
    ∷ reads (heading ++ empty_lines 10) (Err Malformed)
    ∷ reads (text (smallest_with [] [])) (Err Malformed)
    ∷ reads (text (smallest_with [] []) ++ empty_lines 1) (Err Unreadable)
    -- an optional opaque under an option, an option there, a row that is not there
    ∷ reads (text (smallest_with (4 ∷ 1 ∷ 1 ∷ 0 ∷ 0 ∷ []) (0 ∷ [])))
    (Ok (smallest_with (4 ∷ 1 ∷ 1 ∷ 0 ∷ 0 ∷ []) (0 ∷ [])))
    ∷ reads (text (smallest_with (4 ∷ 4 ∷ 0 ∷ []) (0 ∷ []))) (Err Malformed)
    ∷ reads (text (smallest_with (2 ∷ 0 ∷ 0 ∷ []) (0 ∷ []))) (Err Malformed)
    -- `force` 1; beside it a row that is not there, and a line too many; `force` 2
    ∷ reads (text (smallest_with [] (1 ∷ []))) (Err Retired)
    ∷ reads (text (smallest_with (2 ∷ 0 ∷ 0 ∷ []) (1 ∷ []))) (Err Malformed)
    ∷ reads (text (smallest_with [] (1 ∷ [])) ++ empty_lines 1) (Err Unreadable)
    ∷ reads (text (smallest_with [] (2 ∷ []))) (Err Malformed)
    ∷ []

-- each of a list is read as expected
abbrev pub Right : (List ℕ → Outcome Records) → List Example → Type 0
Right reader [] = Unit {0}
Right reader (x ∷ xs) = (reader x.bytes ≡ x.expected) × Right reader xs
