-- Reading a record: what stands in front of some words, and the words behind it; items one after another to the end.
use Rattle.std.specs.Prelude.{ℕ, zero, suc, ◌-◌, Bool, true, false, cond, ◌&&◌, List, [], ◌∷◌, leb, length, take, drop}
use Rattle.std.specs.Prelude.{Ok, Err, Some, None, Option}
use Rattle.answers.specs.declared.Refusal.TheVariants.{Malformed}
use Rattle.answers.specs.Refusals.{Verdict}

-- what stands in front of some words, and the words behind it; or that there is no such thing
pub data Reading (A : Type 0) : Type 0 where
  Read : A → List ℕ → Reading A
  Fails : Reading A

-- reading goes on behind what was read
abbrev pub onward : {A B : Type 0} → Reading A → (A → List ℕ → Reading B) → Reading B
onward (Read a rest) next = next a rest
onward Fails next = Fails

-- whether something was read
abbrev pub is_read : {A : Type 0} → Reading A → Bool
is_read (Read a rest) = true
is_read Fails = false

-- what was read, or another value
abbrev pub read_or : {A : Type 0} → A → Reading A → A
read_or other (Read a rest) = a
read_or other Fails = other

-- one word
abbrev pub read_word : List ℕ → Reading ℕ
read_word [] = Fails
read_word (word ∷ words) = Read word words

-- 01: "n at most 16"
abbrev pub most_list : ℕ
most_list = 16

-- a list of lifetimes: how many (at most 16), then they
abbrev pub read_lifetimes : List ℕ → Reading (List ℕ)
read_lifetimes [] = Fails
read_lifetimes (n ∷ words) = cond (leb n most_list && leb n (length words)) (Read (take n words) (drop n words)) Fails

-- items one after another, to the end of the words; an item may depend on its number. Each takes a word at least, so
-- that as many steps as words are enough
abbrev pub until_end : {A : Type 0} → List ℕ → Reading (List A) → Reading (List A)
until_end [] more = Read [] []
until_end (word ∷ words) more = more

unfoldable pub read_all : {A : Type 0} → (ℕ → List ℕ → Reading A) → ℕ → ℕ → List ℕ → Reading (List A)
read_all item number zero words = until_end words Fails
read_all item number (suc steps) words =
    until_end words
    (onward (item number words)
    (λ a rest. onward (read_all item (suc number) steps rest) (λ items end. Read (a ∷ items) end)))

-- "A record has at most 1,024 words"
abbrev pub most_words : ℕ
most_words = 1024

abbrev pub few_words : List ℕ → Bool
few_words words = leb (length words) most_words

-- a record of items: its shape (refusal 1, 01's "torn", if it is not in shape), and the items. Words that do not make
-- items to their end have none; a record that only has too many words has its items all the same, and its shape refuses
-- it
unfoldable pub in_shape : {A : Type 0} → (ℕ → List ℕ → Reading A) → List ℕ → Bool
in_shape item words = few_words words && is_read (read_all item 0 (length words) words)

unfoldable pub items_of : {A : Type 0} → (ℕ → List ℕ → Reading A) → List ℕ → List A
items_of item words = read_or [] (read_all item 0 (length words) words)

-- a record in shape is accepted; one that is not is refused by 1
abbrev pub shape_verdict : Bool → Verdict
shape_verdict true = Ok (tt {0})
shape_verdict false = Err Malformed

-- where, in so many words, a reading ends
abbrev pub end_of : {A : Type 0} → ℕ → Reading A → Option ℕ
end_of n (Read a rest) = Some (n - length rest)
end_of n Fails = None
