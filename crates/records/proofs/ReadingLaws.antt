-- Of a reading: what holds of what is read and of the words behind it; a list of lifetimes is what stands there.
use Prim.Native.Nat.{ℕ, zero, suc, ◌≤◌}
use mathlib.Core.Bool.{Bool, true, false, cond, ◌&&◌}
use mathlib.Core.Path.{◌≡◌, refl}
use mathlib.Core.List.{List, [], ◌∷◌, ◌++◌}
use native.Mathlib.Omega.{arith}
use lib.Dec.{leb}
use lib.ListN.{length, take-append-drop}
use lib.Seq.{length-take-le}
use borrow.Author.Tests.{leb-true}
use Rattle.records.specs.Reading.{Reading, Read, Fails, onward, is_read, read_or, read_word, read_lifetimes}
use Rattle.records.specs.Reading.{read_all, few_words, in_shape, items_of}

pub data Holds {A : Type 0} (P : A → List ℕ → Type 0) : Reading A → Type 0 where
  read : {a : A} {rest : List ℕ} → P a rest → Holds P (Read a rest)
  fails : Holds P Fails

-- a test that is passed
pub passed : {A : Type 0} → false ≡ true → A
passed e = let z : ◌≡◌ {A = ℕ} 0 1 = cc in absurd (omega arith)

-- a reading that fails reads nothing
pub fails_read : {A B : Type 0} {a : A} {rest : List ℕ} → Fails ≡ Read a rest → B
fails_read e = let z : ◌≡◌ {A = ℕ} 0 1 = cc in absurd (omega arith)

module _ {A : Type 0} (P : A → List ℕ → Type 0) where
  pub holds_read : (a : A) (rest : List ℕ) → Holds P (Read a rest) → P a rest
  holds_read a rest (read p) = p

  pub holds_cond : (b : Bool) {r s : Reading A} → (b ≡ true → Holds P r) → Holds P s → Holds P (cond b r s)
  holds_cond true h k = h refl
  holds_cond false h k = k

  pub holds_onward : {B : Type 0} (Q : B → List ℕ → Type 0) {r : Reading A} {next : A → List ℕ → Reading B} → Holds P r
      → ((a : A) (rest : List ℕ) → P a rest → Holds Q (next a rest)) → Holds Q (onward r next)
  holds_onward Q (read p) h = h _ _ p
  holds_onward Q fails h = fails

pub holds_or : {A : Type 0} (Q : A → Type 0) (other : A) {r : Reading A} → Holds (λ a rest. Q a) r → is_read r ≡ true
    → Q (read_or other r)
holds_or Q other (read q) e = q
holds_or Q other fails e = passed e

-- a list of lifetimes, and one word
abbrev pub LifetimesIn : List ℕ → List ℕ → List ℕ → Type 0
LifetimesIn words ls rest = length ls ∷ (ls ++ rest) ≡ words

abbrev pub WordIn : List ℕ → ℕ → List ℕ → Type 0
WordIn words l rest = l ∷ rest ≡ words

pub lifetimes_read : (words : List ℕ) → Holds (LifetimesIn words) (read_lifetimes words)
lifetimes_read [] = fails
lifetimes_read (n ∷ words) =
    holds_cond (LifetimesIn (n ∷ words)) (leb n 16 && leb n (length words))
    (λ e. read (rw (length-take-le n words (few (leb n 16) e), take-append-drop n words))) fails
  where
    few : (b : Bool) → (b && leb n (length words)) ≡ true → n ≤ length words
    few true e = leb-true n (length words) e
    few false e = passed e

pub word_read : (words : List ℕ) → Holds (WordIn words) (read_word words)
word_read [] = fails
word_read (l ∷ words) = read refl

-- items one after another: where each item's words are what stands there, so are those of all
module _ {A : Type 0} (item : ℕ → List ℕ → Reading A) (encode : A → List ℕ) (encodes : (number : ℕ) (words : List ℕ)
    → Holds (λ a rest. encode a ++ rest ≡ words) (item number words))
    (encode_all : List A → List ℕ) (none : encode_all [] ≡ []) (more : (a : A) (items : List A)
    → encode_all (a ∷ items) ≡ encode a ++ encode_all items) where
  all_read : (number steps : ℕ) (words : List ℕ) → Holds (λ items rest. encode_all items ≡ words) (read_all item number steps words)
  unfolding read_all
  all_read number zero [] = read none
  all_read number zero (word ∷ words) = fails
  all_read number (suc steps) [] = read none
  all_read number (suc steps) (word ∷ words) =
      let P : List A → List ℕ → Type 0 = λ items rest. encode_all items ≡ word ∷ words in
      holds_onward (λ a rest. encode a ++ rest ≡ word ∷ words) P (encodes number (word ∷ words))
      (λ a rest p. holds_onward (λ items end. encode_all items ≡ rest) P (all_read (suc number) steps rest)
      (λ items end q. read (rw (more a items, q, p))))

  -- the words of the items of a record in shape are all its words
  pub items_encoded : (words : List ℕ) → in_shape item words ≡ true → encode_all (items_of item words) ≡ words
  unfolding in_shape items_of
  items_encoded words e = holds_or (λ items. encode_all items ≡ words) [] (all_read 0 (length words) words) (right (few_words words) e)
    where
      right : (b : Bool) → (b && is_read (read_all item 0 (length words) words)) ≡ true
          → is_read (read_all item 0 (length words) words) ≡ true
      right true e = e
      right false e = passed e
