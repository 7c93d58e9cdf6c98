-- The records `self`, `steps` and `returns`: their shape (refusal 1, 01's "torn"), and what they say. One shape for
-- steps and returns.
use Rattle.std.specs.Prelude.{ℕ, Bool, cond, eqb, leb, length}
use mathlib.Core.List.{List, [], ◌∷◌, flat_map}
use Rattle.records.specs.Reading.{Reading, Read, Fails, onward, read_word, read_lifetimes, in_shape, items_of}
use Rattle.records.specs.Reading.{most_list}

-- 01's kinds: 0 one lifetime (`lower_lifetime`); 1 how many generics a type has, and the lifetimes given
-- (`lower_generics`); 2 the lifetimes given of the `Self` type (`is_self`)
pub data Step : Type 0 where
  Lifetime : ℕ → Step
  Generics : ℕ → List ℕ → Step
  SelfType : List ℕ → Step

-- how many generics: "g, n at most 16"
abbrev pub read_generics : List ℕ → Reading ℕ
read_generics [] = Fails
read_generics (g ∷ words) = cond (leb g most_list) (Read g words) Fails

-- the step that stands in front
unfoldable pub read_step : List ℕ → Reading Step
read_step [] = Fails
read_step (kind ∷ words) =
    cond (eqb kind 0) (onward (read_word words) (λ l rest. Read (Lifetime l) rest))
    (cond (eqb kind 1)
    (onward (read_generics words) (λ g rest. onward (read_lifetimes rest) (λ ls behind. Read (Generics g ls) behind)))
    (cond (eqb kind 2) (onward (read_lifetimes words) (λ ls rest. Read (SelfType ls) rest))
    Fails))

-- the words of a step as they stand in a record, and those of several
abbrev pub words_of_step : Step → List ℕ
words_of_step (Lifetime l) = 0 ∷ l ∷ []
words_of_step (Generics g ls) = 1 ∷ g ∷ length ls ∷ ls
words_of_step (SelfType ls) = 2 ∷ length ls ∷ ls

abbrev pub all_words : List Step → List ℕ
all_words steps = flat_map words_of_step steps

-- one step after another, to the end of the record
abbrev pub steps_in_shape : List ℕ → Bool
steps_in_shape words = in_shape (λ number. read_step) words

abbrev pub steps_of : List ℕ → List Step
steps_of words = items_of (λ number. read_step) words

-- `self`: empty for `no_self_ref`, or one declared lifetime for `lower_self_ref`
pub data Receiver : Type 0 where
  NoSelf : Receiver
  SelfRef : ℕ → Receiver

abbrev pub self_in_shape : List ℕ → Bool
self_in_shape words = leb (length words) 1

abbrev pub receiver_of : List ℕ → Receiver
receiver_of [] = NoSelf
receiver_of (word ∷ words) = SelfRef word
