-- Pairs of names: the words that are left, two by two, and the checks of some pairs and of more after them.
use Prim.Native.Nat.{ℕ, suc, ◌+◌, ◌<◌}
use mathlib.Core.Path.{◌≡◌, refl}
use mathlib.Core.List.{List, [], ◌∷◌, ◌++◌}
use native.Mathlib.Nat.{add-zero}
use native.Mathlib.Omega.{arith}
use lib.ListN.{length, get_or}
use Rattle.ast_lifetimes.specs.Shapes.{Pair, pair, pairs_of}
use Rattle.ast_lifetimes.specs.Env.{all_pair_checks}

pub all_pair_checks_append : (names : List ℕ) (pushed : ℕ) (l m : List Pair)
    → all_pair_checks names pushed (l ++ m) ≡ all_pair_checks names pushed l ++ all_pair_checks names (pushed + length l) m
unfolding all_pair_checks
all_pair_checks_append names pushed [] m = rw add-zero
all_pair_checks_append names pushed (p ∷ l) m =
    let e : suc pushed + length l ≡ pushed + suc (length l) = omega arith in
    rw (all_pair_checks_append names (suc pushed) l m, e)

pub pairs_first : (two rest words : List ℕ) → words ≡ two ++ rest → length two ≡ 2
    → pairs_of words ≡ pair (get_or two 0 0) (get_or two 1 0) ∷ pairs_of rest
unfolding pairs_of
pairs_first [] rest words e h = absurd (omega arith)
pairs_first (l ∷ []) rest words e h = absurd (omega arith)
pairs_first (l ∷ s ∷ []) rest words e h = rw e
pairs_first (l ∷ s ∷ x ∷ two) rest words e h = absurd (omega arith)

pub pairs_none : (words : List ℕ) → length words < 2 → pairs_of words ≡ []
unfolding pairs_of
pairs_none [] h = refl
pairs_none (l ∷ []) h = refl
pairs_none (l ∷ s ∷ words) h = absurd (omega arith)
