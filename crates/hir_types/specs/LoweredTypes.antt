-- Lowered types (in a struct's fields, in `params`, in `output`): what stands in front of some words, where its parts
-- are, and its lifetimes.
use Rattle.std.specs.Prelude.{ℕ, ◌+◌, ◌-◌, ◌^◌, Bool, true, false, cond, List, [], ◌∷◌, ◌++◌, map, eqb, ltb, length}
use Rattle.std.specs.Prelude.{Ok, Err, Some, None, Option}
use Rattle.answers.specs.declared.Refusal.TheVariants.{Malformed}
use Rattle.lifetimes.specs.declared.lifetime.Lifetime.{Lifetime}
use Rattle.lifetimes.specs.declared.maybe_static.MaybeStatic.{MaybeStatic}
use Rattle.lifetimes.specs.declared.maybe_static.MaybeStatic.TheVariants.{NonStatic}
use Rattle.lifetimes.specs.Numbers.{lifetime}
use Rattle.lifetimes.specs.LoweredWords.{from_word}
use Rattle.answers.specs.Refusals.{Outcome}
use Rattle.records.specs.Reading.{Reading, Read, Fails, onward, read_word, read_lifetimes}
use Rattle.hir_types.specs.declared.types.Kind.{Kind}
use Rattle.hir_types.specs.declared.types.Kind.TheVariants.{Plain, Opaque, Struct, Slice}
use Rattle.hir_types.specs.declared.types.Own.{Own}
use Rattle.hir_types.specs.declared.types.Own.TheVariants.{Absent, Word, Strs}
use Rattle.hir_types.specs.declared.types.Parts.{Parts}

-- A type: whether it is under an option (01's code 4), its kind (codes 0 to 3), its path words, and the lifetime behind
-- them. That an opaque is optional is kept nowhere: no answer depends on it.
pub record LoweredType : Type 0 where
  pub option : Bool
  pub kind : Kind
  pub path : List ℕ
  pub own : Own

abbrev pub lowered_type : Bool → Kind → List ℕ → Own → LoweredType
lowered_type option kind path own = record { option = option; kind = kind; path = path; own = own }

-- Reading

-- 0 or 1
abbrev pub read_flag : List ℕ → Reading Bool
read_flag [] = Fails
read_flag (word ∷ words) = cond (eqb word 0) (Read false words) (cond (eqb word 1) (Read true words) Fails)

-- code 1, an opaque: optional 0 or 1; its path words; 0 owned, or 1 and a word
abbrev pub read_owner : Bool → List ℕ → Reading Own
read_owner false words = Read Absent words
read_owner true words = onward (read_word words) (λ word rest. Read (Word word) rest)

unfoldable pub read_opaque : Bool → List ℕ → Reading LoweredType
read_opaque option words =
    onward (read_flag words) (λ optional rest.
    onward (read_lifetimes rest) (λ path behind.
    onward (read_flag behind) (λ borrowed owner.
    onward (read_owner borrowed owner) (λ own end. Read (lowered_type option Opaque path own) end))))

-- code 2, a struct: its row, its words
unfoldable pub read_struct : Bool → List ℕ → Reading LoweredType
read_struct option words =
    onward (read_word words)
    (λ row rest. onward (read_lifetimes rest) (λ path end. Read (lowered_type option (Struct row) path Absent) end))

-- code 3, a slice: 0 without a lifetime; 1 with its own; 2 `Strs`; 3 of opaques, with their path words and its own
unfoldable pub read_slice : Bool → List ℕ → Reading LoweredType
read_slice option [] = Fails
read_slice option (code ∷ words) =
    cond (eqb code 0) (Read (lowered_type option Slice [] Absent) words)
    (cond (eqb code 1) (onward (read_word words) (λ word end. Read (lowered_type option Slice [] (Word word)) end))
    (cond (eqb code 2) (Read (lowered_type option Slice [] Strs) words)
    (cond (eqb code 3)
    (onward (read_lifetimes words)
    (λ path rest. onward (read_word rest) (λ word end. Read (lowered_type option Slice path (Word word)) end)))
    Fails)))

-- a type that is no option; code 0 is one without lifetimes
unfoldable pub read_bare : Bool → List ℕ → Reading LoweredType
read_bare option [] = Fails
read_bare option (code ∷ words) =
    cond (eqb code 0) (Read (lowered_type option Plain [] Absent) words)
    (cond (eqb code 1) (read_opaque option words)
    (cond (eqb code 2) (read_struct option words)
    (cond (eqb code 3) (read_slice option words)
    Fails)))

-- any type; code 4 is an option, of a type that is none
unfoldable pub read_lowered : List ℕ → Reading LoweredType
read_lowered [] = Fails
read_lowered (code ∷ words) = cond (eqb code 4) (read_bare true words) (read_bare false (code ∷ words))

-- whether the row that a type names is among so many
abbrev pub knows : ℕ → Kind → Bool
knows rows Plain = true
knows rows Opaque = true
knows rows (Struct row) = ltb row rows
knows rows Slice = true

-- Where its parts are, in so many words: the path words start three places behind the type, or behind the option that
-- it is under
abbrev pub located : ℕ → ℕ → Reading LoweredType → Option Parts
located at n (Read t rest) =
    Some (record {
      option = t.option;
      kind = t.kind;
      from = cond t.option (at + 4) (at + 3);
      count = length t.path;
      own = t.own;
      next = n - length rest;
    })
located at n Fails = None

-- Its lifetimes (`Type::lifetimes`): the path words, then the borrow. That of `Strs` is numbered 2^64 - 1, outside
-- every environment

abbrev pub own_lifetime : Own → Option (MaybeStatic Lifetime)
own_lifetime Absent = None
own_lifetime (Word word) = Some (from_word word)
own_lifetime Strs = Some (NonStatic (lifetime (2 ^ 64 - 1)))

abbrev pub one_or_none : Option (MaybeStatic Lifetime) → List (MaybeStatic Lifetime)
one_or_none (Some m) = m ∷ []
one_or_none None = []

abbrev pub own_lifetimes : Own → List (MaybeStatic Lifetime)
own_lifetimes own = one_or_none (own_lifetime own)

abbrev pub lifetimes_of : LoweredType → List (MaybeStatic Lifetime)
lifetimes_of t = map from_word t.path ++ own_lifetimes t.own

-- the lifetimes of the one type that some words are; 1 where they are none, or more
abbrev pub only_type : Reading LoweredType → Outcome (List (MaybeStatic Lifetime))
only_type (Read t []) = Ok (lifetimes_of t)
only_type (Read t (word ∷ words)) = Err Malformed
only_type Fails = Err Malformed

unfoldable pub type_lifetimes : List ℕ → Outcome (List (MaybeStatic Lifetime))
type_lifetimes words = only_type (read_lowered words)
