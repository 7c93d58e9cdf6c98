-- Laws of the lifetimes of a definition paired with the words at its use: at each place, past the end, and where they
-- are not as many.
use Rattle.std.specs.Prelude.{Ok, Err, Some, None, Option}
use Prim.Native.Nat.{ℕ, zero, suc, ◌+◌, ◌≤◌, ◌<◌}
use mathlib.Core.Path.{◌≡◌, sym, ap, ◌∙◌}
use mathlib.Core.List.{List, map}
use native.Mathlib.Omega.{arith}
use borrow.Author.Tests.{eq-eqb, ne_eqb, lt-ltb, le-ltb}
use lib.Dec.{ltb}
use denote.Bor.{Bor}
use Rattle.std.specs.Option.{is_some, unwrap_or, option_map, option_copied}
use lib.ListN.{length, get_or, drop, drop_of_length-le}
use lib.Seq.{drop-cons}
use Rattle.answers.specs.declared.Refusal.TheVariants.{Mismatch}
use Rattle.lifetimes.specs.declared.def_lifetime.DefLifetime.{DefLifetime}
use Rattle.answers.specs.Lists.{range, numbered}
use Rattle.lifetimes.specs.Numbers.{def_lifetime}
use Rattle.answers.specs.Refusals.{Outcome, unless}
use Rattle.lifetimes.specs.Linked.{word_at, linked_word, linked_pair, pairs_with_places}

-- a word that the library's `get` found and copied is that at the place
word_got : (words : List ℕ) (j : ℕ) (o : Option (Bor ℕ)) → is_some o ≡ ltb j (length words)
    → unwrap_or (option_map (λ (x : Bor ℕ). x.now) o) 0 ≡ get_or words j 0 → option_copied o ≡ word_at words j
word_got words j None e v = rw (← e)
word_got words j (Some x) e v = rw (← e, v)

module _ (words : List ℕ) (count : ℕ) where
  module _ (same : length words ≡ count) where
    pub word_there : (j : ℕ) → j < count → linked_word words count (def_lifetime j) ≡ Ok (Some (get_or words j 0))
    unfolding linked_word unless
    word_there j h = rw (eq-eqb (length words) count same, lt-ltb j (length words) (omega arith))

    pub word_past : (j : ℕ) → count ≤ j → linked_word words count (def_lifetime j) ≡ Ok None
    unfolding linked_word unless
    word_past j h = rw (eq-eqb (length words) count same, le-ltb j (length words) (omega arith))

    pub word_found : (j : ℕ) (o : Option (Bor ℕ)) → is_some o ≡ ltb j (length words)
        → unwrap_or (option_map (λ (x : Bor ℕ). x.now) o) 0 ≡ get_or words j 0
        → Ok (option_copied o) ≡ linked_word words count (def_lifetime j)
    unfolding linked_word unless
    word_found j o e v = rw (word_got words j o e v, eq-eqb (length words) count same)

    pub pair_there : (j : ℕ) → j < count → linked_pair words count j ≡ Ok (Some (get_or words j 0, def_lifetime j))
    unfolding linked_pair unless
    pair_there j h = rw (eq-eqb (length words) count same, lt-ltb j (length words) (omega arith))

    pub pair_past : (j : ℕ) → count ≤ j → linked_pair words count j ≡ Ok None
    unfolding linked_pair unless
    pair_past j h = rw (eq-eqb (length words) count same, le-ltb j (length words) (omega arith))

    -- what a reader answers at a place that is there
    module _ (j : ℕ) (h : j < count) where
      module _ {r : Outcome (Option ℕ)} (e : r ≡ linked_word words count (def_lifetime j)) where
        word_is : r ≡ Ok (Some (get_or words j 0))
        word_is = e ∙ word_there j h

        pub word_told : {word : ℕ} → r ≡ Ok (Some word) → word ≡ get_or words j 0
        word_told q = let z = sym q ∙ word_is in cc z

        -- it is nothing else
        pub word_only : {B : Type 0} → ((word : ℕ) → r ≡ Ok (Some word) → ⊥) → B
        word_only other = absurd (other (get_or words j 0) word_is)

      module _ {r : Outcome (Option (ℕ × DefLifetime))} (e : r ≡ linked_pair words count j) where
        pair_is : r ≡ Ok (Some (get_or words j 0, def_lifetime j))
        pair_is = e ∙ pair_there j h

        pub pair_told : {word : ℕ} {def : DefLifetime} → r ≡ Ok (Some (word, def))
            → (word ≡ get_or words j 0) × (def ≡ def_lifetime j)
        pair_told {word} {def} q =
            let z : ◌≡◌ {A = ℕ × DefLifetime} (word, def) (get_or words j 0, def_lifetime j) = let z = sym q ∙ pair_is in cc z in
            (ap (λ (p : ℕ × DefLifetime). p.0) z, ap (λ (p : ℕ × DefLifetime). p.1) z)

        pub pair_only : {B : Type 0} → ((word : ℕ) (def : DefLifetime) → r ≡ Ok (Some (word, def)) → ⊥) → B
        pair_only other = absurd (other (get_or words j 0) (def_lifetime j) pair_is)

    -- the pairs at n places from j on, to the last
    pairs_from_lem : (j n : ℕ) → j + n ≡ count → map (linked_pair words count) (range j n) ≡ pairs_with_places j (drop j words)
    unfolding range numbered
    pairs_from_lem j zero h = rw (drop_of_length-le words {i = j} (omega arith))
    pairs_from_lem j (suc n) h = rw (drop-cons words j 0 (omega arith), pair_there j (omega arith), pairs_from_lem (suc j) n (omega arith))

    pub pairs_there : map (linked_pair words count) (range 0 count) ≡ pairs_with_places 0 words
    pairs_there = pairs_from_lem 0 count (omega arith)

  module _ (other : length words ≡ count → ⊥) where
    pub word_unlike : (j : ℕ) → linked_word words count (def_lifetime j) ≡ Err Mismatch
    unfolding linked_word unless
    word_unlike j = rw (ne_eqb (length words) count other)

    pub pair_unlike : (j : ℕ) → linked_pair words count j ≡ Err Mismatch
    unfolding linked_pair unless
    pair_unlike j = rw (ne_eqb (length words) count other)
