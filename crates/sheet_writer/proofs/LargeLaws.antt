-- Words above 65535: the test of one record and of ten, and what it says of the words.
use Prim.Native.Nat.{ℕ}
use mathlib.Core.Bool.{Bool, true, false, ◌||◌, or-false}
use mathlib.Core.Logic.{◌↔◌}
use mathlib.Core.Path.{◌≡◌, refl, sym, ◌∙◌}
use mathlib.Core.List.{Memᴰ}
use native.Mathlib.Omega.{arith}
use borrow.Author.Tests.{ltb-true, ltb-false}
use lib.Dec.{ltb}
use Rattle.answers.specs.Lists.{any}
use Rattle.answers.proofs.ListLaws.{any_has, any_flatten}
use Rattle.sheet.specs.Text.{Records, lists, words_of, most_word, WordsUpTo}
use Rattle.sheet_writer.specs.Writing.{has_large}

-- one of ten
one_of_ten : (a b c d e f g h i j : Bool)
    → (((((((((a || b) || c) || d) || e) || f) || g) || h) || i) || j)
    ≡ (a || (b || (c || (d || (e || (f || (g || (h || (i || (j || false))))))))))
one_of_ten true b c d e f g h i j = refl
one_of_ten false true c d e f g h i j = refl
one_of_ten false false true d e f g h i j = refl
one_of_ten false false false true e f g h i j = refl
one_of_ten false false false false true f g h i j = refl
one_of_ten false false false false false true g h i j = refl
one_of_ten false false false false false false true h i j = refl
one_of_ten false false false false false false false true i j = refl
one_of_ten false false false false false false false false true j = refl
one_of_ten false false false false false false false false false j = sym (or-false j)

pub ten_large : (r : Records) {a b c d e f g h i j : Bool}
    → a ≡ has_large r.names → b ≡ has_large r.bounds → c ≡ has_large r.types → d ≡ has_large r.self
    → e ≡ has_large r.steps → f ≡ has_large r.returns → g ≡ has_large r.structs → h ≡ has_large r.params
    → i ≡ has_large r.output → j ≡ has_large r.force
    → (((((((((a || b) || c) || d) || e) || f) || g) || h) || i) || j) ≡ has_large (words_of r)
unfolding any
ten_large r ea eb ec ed ee ef eg eh ei ej =
    rw (ea, eb, ec, ed, ee, ef, eg, eh, ei, ej)
    (one_of_ten (has_large r.names) (has_large r.bounds) (has_large r.types) (has_large r.self)
    (has_large r.steps) (has_large r.returns) (has_large r.structs) (has_large r.params) (has_large r.output)
    (has_large r.force))
    ∙ sym (any_flatten (ltb most_word) (lists r))

-- no word is above the limit exactly if there is no large one
pub none_large : (r : Records) → (has_large (words_of r) ≡ false) ↔ WordsUpTo most_word r
none_large r = (
  λ e word m. ltb-false most_word word (small e word m (ltb most_word word) refl),
  λ h. few h (has_large (words_of r)) refl,
)
  where
    small : has_large (words_of r) ≡ false → (word : ℕ) → Memᴰ word (words_of r) → (t : Bool) → ltb most_word word ≡ t
        → ltb most_word word ≡ false
    small e word m true q =
        let found = (any_has (ltb most_word) (words_of r)).1 (word, m, q) in
        let z : ◌≡◌ {A = ℕ} 0 1 = cc in absurd (omega arith)
    small e word m false q = q

    few : WordsUpTo most_word r → (t : Bool) → has_large (words_of r) ≡ t → has_large (words_of r) ≡ false
    few h true q =
        let found = (any_has (ltb most_word) (words_of r)).0 q in
        absurd (omega (arith, h found.0 found.1, ltb-true most_word found.0 found.2))
    few h false q = q
