-- The records `structs`, `params`, `output` and `force`: their shape (refusal 1, 01's "torn"), the value of `force`
-- that is no longer taken (refusal 13, 02's "retired"), and what a record in shape says.
use Rattle.std.specs.Prelude.{ℕ, zero, suc, Bool, false, cond, not, ◌&&◌, List, [], ◌∷◌, eqb, leb, length}
use Rattle.answers.specs.declared.Refusal.TheVariants.{Malformed, Retired}
use Rattle.answers.specs.Refusals.{Check, check, Outcome, unless, Verdict}
use Rattle.answers.specs.Lent.{verdict_of}
use Rattle.records.specs.Reading.{Reading, Read, Fails, onward, read_word, in_shape, items_of, most_list}
use Rattle.hir_types.specs.declared.shapes.Shape.{Shape}
use Rattle.hir_types.specs.LoweredTypes.{LoweredType, read_lowered, knows}

-- a type whose row, if it is a struct, is among so many
unfoldable pub read_known : ℕ → List ℕ → Reading LoweredType
read_known rows words = onward (read_lowered words) (λ t rest. cond (knows rows t.kind) (Read t rest) Fails)

-- so many types
unfoldable pub read_types : ℕ → ℕ → List ℕ → Reading (List LoweredType)
read_types rows zero words = Read [] words
read_types rows (suc n) words =
    onward (read_known rows words) (λ t rest. onward (read_types rows n rest) (λ ts end. Read (t ∷ ts) end))

-- `structs`: rows one after another, the first numbered 0. A row: lifetimes d, field count, fields; d and fields at
-- most 16; a field names only earlier rows
pub record Row : Type 0 where
  pub lifetimes : ℕ
  pub fields : List LoweredType

abbrev pub row_with : ℕ → List LoweredType → Row
row_with d fields = record { lifetimes = d; fields = fields }

unfoldable pub read_row : ℕ → List ℕ → Reading Row
read_row number words =
    onward (read_word words) (λ d rest.
    onward (read_word rest) (λ n behind.
    cond (leb d most_list && leb n most_list)
    (onward (read_types number n behind) (λ fields end. Read (row_with d fields) end))
    Fails))

abbrev pub structs_in_shape : List ℕ → Bool
structs_in_shape structs = in_shape read_row structs

abbrev pub rows_of : List ℕ → List Row
rows_of structs = items_of read_row structs

-- `params`: types one after another; each row that is named is among so many. All rows of the record count, also those
-- past the 32nd
abbrev pub params_in_shape : ℕ → List ℕ → Bool
params_in_shape rows params = in_shape (λ number. read_known rows) params

abbrev pub types_of : ℕ → List ℕ → List LoweredType
types_of rows words = items_of (λ number. read_known rows) words

-- `output`: none, one, or two types
abbrev pub output_in_shape : ℕ → List ℕ → Bool
output_in_shape rows output = params_in_shape rows output && leb (length (types_of rows output)) 2

-- `force`: one word, 0 or 1
abbrev pub force_in_shape : List ℕ → Bool
force_in_shape [] = false
force_in_shape (word ∷ []) = leb word 1
force_in_shape (word ∷ other ∷ words) = false

-- whether force is 1
abbrev pub forced : List ℕ → Bool
forced [] = false
forced (word ∷ words) = eqb word 1

-- the four records of a method
unfoldable pub method_in_shape : List ℕ → List ℕ → List ℕ → List ℕ → Bool
method_in_shape structs params output force =
    structs_in_shape structs
    && (params_in_shape (length (rows_of structs)) params
    && (output_in_shape (length (rows_of structs)) output
    && force_in_shape force))

-- The first refusals of some records with `force` among them (`force` alone, the four of a method, the ten of a
-- sheet), by whether they are in shape: 1; then 13 (02: "retired, for 1 in `force`, directly after 1 over all records
-- and before 2")
abbrev pub shape_checks : Bool → List ℕ → List Check
shape_checks in_shape force = check (not in_shape) Malformed ∷ check (forced force) Retired ∷ []

-- the verdict of these checks alone
abbrev pub checks_verdict : Bool → List ℕ → Verdict
checks_verdict in_shape force = verdict_of (unless (shape_checks in_shape force) (tt {0}))

-- what a call answers on the shape of a record of items: how many they are, or 1
abbrev pub how_many : {A : Type 0} → Bool → List A → Outcome ℕ
how_many in_shape items = unless (check (not in_shape) Malformed ∷ []) (length items)

-- what it answers on a method's records: how much stands in them, or why they are refused
unfoldable pub method_shape : List ℕ → List ℕ → List ℕ → List ℕ → Outcome Shape
method_shape structs params output force =
    unless (shape_checks (method_in_shape structs params output force) force)
    (record {
      rows = length (rows_of structs);
      params = length (types_of (length (rows_of structs)) params);
      outputs = length (types_of (length (rows_of structs)) output);
    })
