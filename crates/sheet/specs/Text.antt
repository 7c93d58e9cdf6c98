-- The text of a sheet (01, "The sheet"): a heading line with the records' names, then a line of words for each of the
-- ten records. Bytes are numbers. A line ("decimal .., no leading zeros", "one space between, LF at the end. An empty
-- record is an empty line") is `line` of the crate text.
use Rattle.std.specs.Prelude.{ℕ, ◌≤◌}
use mathlib.Core.List.{List, [], ◌∷◌, ◌++◌, flat_map, flatten, Memᴰ}
use Rattle.text.specs.Decimal.{newline, space, line}
use Rattle.sheet.specs.declared.record.Records as lent

-- "One line of names": names bounds types self steps returns structs params output force
abbrev pub heading : List ℕ
heading =
    110 ∷ 97 ∷ 109 ∷ 101 ∷ 115 ∷ space ∷ 98 ∷ 111 ∷ 117 ∷ 110 ∷ 100 ∷ 115 ∷ space ∷ 116 ∷ 121 ∷ 112 ∷ 101 ∷ 115 ∷ space
    ∷ 115 ∷ 101 ∷ 108 ∷ 102 ∷ space
    ∷ 115 ∷ 116 ∷ 101 ∷ 112 ∷ 115 ∷ space ∷ 114 ∷ 101 ∷ 116 ∷ 117 ∷ 114 ∷ 110 ∷ 115 ∷ space ∷ 115 ∷ 116 ∷ 114 ∷ 117 ∷ 99
    ∷ 116 ∷ 115 ∷ space ∷ 112
    ∷ 97 ∷ 114 ∷ 97 ∷ 109 ∷ 115 ∷ space ∷ 111 ∷ 117 ∷ 116 ∷ 112 ∷ 117 ∷ 116 ∷ space ∷ 102 ∷ 111 ∷ 114 ∷ 99 ∷ 101
    ∷ newline ∷ []

-- the ten records of a sheet, each a list of words
pub record Records : Type 0 where
  pub names : List ℕ
  pub bounds : List ℕ
  pub types : List ℕ
  pub self : List ℕ
  pub steps : List ℕ
  pub returns : List ℕ
  pub structs : List ℕ
  pub params : List ℕ
  pub output : List ℕ
  pub force : List ℕ

-- ten lists as the ten records
abbrev pub ten_records : List ℕ → List ℕ → List ℕ → List ℕ → List ℕ → List ℕ → List ℕ → List ℕ → List ℕ → List ℕ
    → Records
ten_records names bounds types self steps returns structs params output force =
    record {
      names = names;
      bounds = bounds;
      types = types;
      self = self;
      steps = steps;
      returns = returns;
      structs = structs;
      params = params;
      output = output;
      force = force;
    }

-- what ten lent slices hold
abbrev pub records_in : lent.Records → Records
records_in r =
    ten_records r.names.now r.bounds.now r.types.now r.own.now r.steps.now r.returns.now r.structs.now r.params.now
    r.output.now r.force.now

-- "ten lines of values in that order"
abbrev pub lists : Records → List (List ℕ)
lists r = r.names ∷ r.bounds ∷ r.types ∷ r.self ∷ r.steps ∷ r.returns ∷ r.structs ∷ r.params ∷ r.output
    ∷ r.force ∷ []

-- the words of all records, one after another
abbrev pub words_of : Records → List ℕ
words_of r = flatten (lists r)

-- the text of a sheet: the heading, then a line for each record
unfoldable pub text : Records → List ℕ
text r = heading ++ flat_map line (lists r)

-- how many records there are
abbrev pub record_count : ℕ
record_count = 10

-- the limits of a word, and of a sheet in bytes; that of a record in words is `most_words` of `records`
abbrev pub most_word : ℕ
most_word = 65535

abbrev pub most_bytes : ℕ
most_bytes = 65536

-- no word above a limit
abbrev pub WordsUpTo : ℕ → Records → Type 0
WordsUpTo limit r = (word : ℕ) → Memᴰ word (words_of r) → word ≤ limit
