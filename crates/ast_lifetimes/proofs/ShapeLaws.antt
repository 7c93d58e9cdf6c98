-- The shape of the records `names` and `bounds`, test by test, and what the test of all
-- names says.
use Rattle.std.specs.Prelude.{Ok, Err, IsTrue, EachIndex}
use Prim.Native.Nat.{ℕ, zero, suc, ◌-◌, ◌/◌, ◌%◌, ◌≤◌, ◌<◌}
use mathlib.Core.Bool.{Bool, true, false, and-eq-true_iff}
use mathlib.Core.Path.{◌≡◌, refl, sym}
use mathlib.Core.Logic.{◌↔◌}
use mathlib.Core.List.{List, [], ◌∷◌}
use native.Mathlib.Omega.{arith}
use borrow.Author.Tests.{le-leb, lt-leb, leb-true, eq-eqb, ne_eqb}
use lib.Dec.{eqb, leb}
use lib.ListN.{length, get_or}
use Rattle.std.specs.List.{between}
use Rattle.std.proofs.lemmas.Slice.{between_to_end}
use Rattle.answers.specs.declared.Refusal.TheVariants.{Malformed}
use Rattle.records.specs.Reading.{shape_verdict}
use Rattle.answers.specs.Lists.{all}
use Rattle.ast_lifetimes.specs.Shapes.{is_name, names_in_shape, bounds_in_shape}

-- ---- `all_names`

-- two tests that say the same are equal
pub same_test : (p q : Bool) → (p ≡ true) ↔ (q ≡ true) → p ≡ q
same_test true q h = sym (h.0 refl)
same_test false true h = h.1 refl
same_test false false h = refl

names_each : (words : List ℕ) → all is_name words ≡ true → EachIndex words (λ i. 2 ≤ get_or words i 0)
unfolding all
names_each [] e i h = absurd (omega arith)
names_each (w ∷ words) e zero h = leb-true 2 w ((and-eq-true_iff (is_name w) (all is_name words)).0 e).0
names_each (w ∷ words) e (suc i) h = names_each words ((and-eq-true_iff (is_name w) (all is_name words)).0 e).1 i (omega arith)

each_name : (words : List ℕ) → EachIndex words (λ i. 2 ≤ get_or words i 0) → all is_name words ≡ true
unfolding all
each_name [] e = refl
each_name (w ∷ words) e = rw (le-leb 2 w (e 0 (omega arith))) (each_name words (λ i h. e (suc i) (omega arith)))

-- what passes the library's test at each place
pub all_names_lem : (words : List ℕ) {t : Bool} → IsTrue t ↔ EachIndex words (λ i. 2 ≤ get_or words i 0) → t ≡ all is_name words
all_names_lem words {t} each = same_test t (all is_name words) (λ e. each_name words (each.0 e), λ e. each.1 (names_each words e))

-- ---- `names_shape`

pub names_empty : (words : List ℕ) → length words ≡ 0 → Err Malformed ≡ shape_verdict (names_in_shape words)
unfolding names_in_shape
names_empty [] h = refl
names_empty (w ∷ words) h = absurd (omega arith)

pub names_many : (words : List ℕ) → 1024 < length words → Err Malformed ≡ shape_verdict (names_in_shape words)
unfolding names_in_shape
names_many [] h = refl
names_many (w ∷ words) h = rw (lt-leb (length (w ∷ words)) 1024 h)

pub names_over : (words : List ℕ) → length words ≤ 1024 → length words - 1 < get_or words 0 0
    → Err Malformed ≡ shape_verdict (names_in_shape words)
unfolding names_in_shape
names_over [] few h = refl
names_over (w ∷ words) few h = rw (le-leb (length (w ∷ words)) 1024 few, lt-leb w (length words) (omega arith))

-- the other tests passed, the names decide
pub names_decide : (words : List ℕ) {t : Bool} → (length words ≡ 0 → ⊥) → length words ≤ 1024
    → get_or words 0 0 ≤ length words - 1 → all is_name (between 1 (length words) words) ≡ t
    → shape_verdict t ≡ shape_verdict (names_in_shape words)
unfolding names_in_shape
names_decide [] some few h e = absurd (some refl)
names_decide (w ∷ words) some few h e =
    let others = rw (between_to_end (w ∷ words) 1 (length (w ∷ words)) (omega arith)) at e in
    rw (le-leb (length (w ∷ words)) 1024 few, le-leb w (length words) (omega arith), others)

-- ---- `bounds_shape`

pub bounds_empty : (words : List ℕ) → length words ≡ 0 → Err Malformed ≡ shape_verdict (bounds_in_shape words)
unfolding bounds_in_shape
bounds_empty [] h = refl
bounds_empty (w ∷ words) h = absurd (omega arith)

pub bounds_many : (words : List ℕ) → 1024 < length words → Err Malformed ≡ shape_verdict (bounds_in_shape words)
unfolding bounds_in_shape
bounds_many [] h = refl
bounds_many (w ∷ words) h = rw (lt-leb (length (w ∷ words)) 1024 h)

pub bounds_half : (words : List ℕ) → length words ≤ 1024 → (length words - 1) % 2 ≡ 1
    → Err Malformed ≡ shape_verdict (bounds_in_shape words)
unfolding bounds_in_shape
bounds_half [] few h = refl
bounds_half (w ∷ words) few h = rw (le-leb (length (w ∷ words)) 1024 few, ne_eqb (length words % 2) 0 (λ e. omega arith))

-- few words and whole pairs: how many are the impl's decides
module _ (w : ℕ) (words : List ℕ) (few : length (w ∷ words) ≤ 1024) (pairs : (length (w ∷ words) - 1) % 2 ≡ 1 → ⊥) where
  whole : eqb (length words % 2) 0 ≡ true
  whole = eq-eqb (length words % 2) 0 (omega arith)

  bounds_pairs : bounds_in_shape (w ∷ words) ≡ leb w (length words / 2)
  unfolding bounds_in_shape
  bounds_pairs = rw (le-leb (length (w ∷ words)) 1024 few, whole)

pub bounds_over : (words : List ℕ) → length words ≤ 1024 → ((length words - 1) % 2 ≡ 1 → ⊥) → (length words - 1) / 2 < get_or words 0 0
    → Err Malformed ≡ shape_verdict (bounds_in_shape words)
unfolding bounds_in_shape
bounds_over [] few pairs h = refl
bounds_over (w ∷ words) few pairs h = rw (bounds_pairs w words few pairs, lt-leb w (length words / 2) (omega arith))

pub bounds_given : (words : List ℕ) → (length words ≡ 0 → ⊥) → length words ≤ 1024 → ((length words - 1) % 2 ≡ 1 → ⊥)
    → get_or words 0 0 ≤ (length words - 1) / 2
    → Ok (tt {0}) ≡ shape_verdict (bounds_in_shape words)
bounds_given [] some few pairs h = absurd (some refl)
bounds_given (w ∷ words) some few pairs h = rw (bounds_pairs w words few pairs, le-leb w (length words / 2) (omega arith))
