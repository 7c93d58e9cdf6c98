-- The record `types`: self, parameters and return, one type after another.
use Rattle.std.specs.Prelude.{ℕ, zero, suc, Bool, cond, List, [], ◌∷◌, eqb}
use Rattle.records.specs.Reading.{Reading, Read, Fails, onward, read_word, read_lifetimes, in_shape, items_of}

-- 01's codes: 0 anything else; 1 `Named` with its lifetimes; 2 `Reference` with its lifetime; 3 `Option`; 4 `Result`
pub data TypeName : Type 0 where
  Other : TypeName
  Named : List ℕ → TypeName
  Reference : ℕ → TypeName → TypeName
  Option : TypeName → TypeName
  Result : TypeName → TypeName → TypeName

-- "Nesting at most 8, the outermost counting 1"
abbrev pub most_nesting : ℕ
most_nesting = 8

-- the type that stands in front, with nesting at most this
unfoldable pub read_type : ℕ → List ℕ → Reading TypeName
read_type zero words = Fails
read_type (suc nesting) [] = Fails
read_type (suc nesting) (code ∷ words) =
    cond (eqb code 0) (Read Other words)
    (cond (eqb code 1) (onward (read_lifetimes words) (λ ls rest. Read (Named ls) rest))
    (cond (eqb code 2)
    (onward (read_word words) (λ l rest. onward (read_type nesting rest) (λ t behind. Read (Reference l t) behind)))
    (cond (eqb code 3) (onward (read_type nesting words) (λ t rest. Read (Option t) rest))
    (cond (eqb code 4)
    (onward (read_type nesting words)
    (λ t rest. onward (read_type nesting rest) (λ u behind. Read (Result t u) behind)))
    Fails))))

-- one type after another, to the end of the record
abbrev pub types_in_shape : List ℕ → Bool
types_in_shape words = in_shape (λ number. read_type most_nesting) words

abbrev pub type_names_of : List ℕ → List TypeName
type_names_of words = items_of (λ number. read_type most_nesting) words
