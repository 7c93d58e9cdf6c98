-- What a path implies: the code's test by sets is the definition's by lists, and the loop of `extend_path`.
use Rattle.std.specs.Prelude.{Option, Some, None}
use Prim.Native.Nat.{ℕ, suc, ◌+◌, ◌≤◌, ◌<◌}
use mathlib.Core.Bool.{Bool, true, false, cond, ◌&&◌, not, true≢false}
use mathlib.Core.Path.{◌≡◌, refl, sym, subst, ◌∙◌}
use mathlib.Core.Logic.{◌↔◌}
use mathlib.Core.List.{List, [], ◌∷◌, map, Memᴰ}
use mathlib.Core.List.Memᴰ
use native.Mathlib.Numerals.{add-one}
use borrow.Author.Tests.{eqb-true, eq-eqb, ltb-true, le-leb}
use lib.Dec.{eqb}
use lib.ListN.{length, get_or, drop, drop_of_length-le}
use lib.Seq.{drop-cons}
use Rattle.lifetimes.specs.declared.bounds.Bound.{Bound}
use Rattle.answers.specs.Lists.{any, filter}
use Rattle.answers.proofs.ListLaws.{any_has}
use Rattle.lifetimes.specs.Sets.{empty, member}
use Rattle.lifetimes.specs.Walk.{FirstFirst, traversal}
use Rattle.lifetimes.proofs.SetLaws.{member_empty}
use Rattle.lifetimes.proofs.ReachLaws.{listed_toward}
use Rattle.ast_lifetimes.specs.Shapes.{is_name, pair}
use Rattle.ast_lifetimes.specs.Env.{place, is_declared, id_of, reach_of, among, path_pairs}
use Rattle.ast_lifetimes.specs.Inner.{OutliveSets, outlived_by, is_implied}
use Rattle.ast_lifetimes.proofs.ShapeLaws.{same_test}
use Rattle.ast_lifetimes.proofs.NamesLaws.{number_some, number_none}

-- a number that is equal to some entry of a list is in it
in_list : (x : ℕ) (l : List ℕ) → (any (eqb x) l ≡ true) ↔ Memᴰ x l
in_list x l = (
  λ h. let found = (any_has (eqb x) l).0 h in subst (λ (y : ℕ). Memᴰ y l) (sym (eqb-true x _ found.2)) found.1,
  λ m. (any_has (eqb x) l).1 (x, m, eq-eqb x x refl),
)

module _ (names : List ℕ) (bs : List Bound) (reach : List ℕ) (reaches : OutliveSets bs (length names) reach) (r : ℕ) where
  -- the set that is taken has the members of `longer_than` the reference
  taken_has : (x : ℕ) → member (outlived_by names reach r) x ≡ any (eqb x) (reach_of true names bs r)
  taken_has x = go (is_declared names r) refl
    where
      go : (t : Bool) → is_declared names r ≡ t
          → member (cond t (get_or reach (place names r) 0) empty) x
          ≡ any (eqb x) (cond t (traversal FirstFirst true bs (place names r)) [])
      go true e = same_test _ _ (
        λ h. (in_list x (traversal FirstFirst true bs (place names r))).1
            ((listed_toward FirstFirst true bs (place names r) x).1
            ((reaches (place names r) (ltb-true (place names r) (length names) e) x).0 h)),
        λ h. (reaches (place names r) (ltb-true (place names r) (length names) e) x).1
            ((listed_toward FirstFirst true bs (place names r) x).0
            ((in_list x (traversal FirstFirst true bs (place names r))).0 h)),
      )
      go false e = none x (in_list x [])
        where
          none : (y : ℕ) → (any (eqb y) [] ≡ true) ↔ Memᴰ y [] → member empty y ≡ any (eqb y) []
          none y h = same_test _ _ (λ k. absurd (true≢false (sym k ∙ member_empty y)), λ k. absurd (Memᴰ.not-nil (h.0 k)))

  pub implied_test : (word : ℕ) → is_implied names (outlived_by names reach r) word ≡ (is_name word && not (among names bs r word))
  implied_test word = rw (taken_has (place names word))

-- the answers of `is_implied`
module _ (names : List ℕ) (taken word : ℕ) {r : Option ℕ} (e : r ≡ id_of names word) (name : 2 ≤ word) where
  pub implied_known : {at : ℕ} → r ≡ Some at → not (member taken at) ≡ is_implied names taken word
  implied_known h = let k = number_some names word (sym e ∙ h) in rw (le-leb 2 word name, k.0, k.1)

  pub implied_unknown : r ≡ None → true ≡ is_implied names taken word
  implied_unknown h = rw (le-leb 2 word name, number_none names word (sym e ∙ h))

-- the answers of `outlived`
module _ (names sets : List ℕ) (word : ℕ) {r : Option ℕ} (e : r ≡ id_of names word) where
  pub outlived_known : {at : ℕ} → r ≡ Some at → get_or sets at 0 ≡ outlived_by names sets word
  outlived_known h = let k = number_some names word (sym e ∙ h) in rw (k.0, k.1)

  pub outlived_unknown : r ≡ None → empty ≡ outlived_by names sets word
  outlived_unknown h = rw (number_none names word (sym e ∙ h))

-- what is left of a path's pairs
module _ (names : List ℕ) (bs : List Bound) (r : ℕ) (lifetimes : List ℕ) (i : ℕ) (inside : i < length lifetimes) where
  pub path_next : path_pairs names bs r (drop i lifetimes)
      ≡ cond (is_name (get_or lifetimes i 0) && not (among names bs r (get_or lifetimes i 0)))
      (pair (get_or lifetimes i 0) r ∷ path_pairs names bs r (drop (i + 1) lifetimes))
      (path_pairs names bs r (drop (i + 1) lifetimes))
  unfolding filter
  path_next =
      rw (drop-cons lifetimes i 0 inside, add-one i)
      (go (is_name (get_or lifetimes i 0) && not (among names bs r (get_or lifetimes i 0))))
    where
      go : (t : Bool)
          → map (λ word. pair word r)
          (cond t
          (get_or lifetimes i 0 ∷ filter (λ word. is_name word && not (among names bs r word)) (drop (suc i) lifetimes))
          (filter (λ word. is_name word && not (among names bs r word)) (drop (suc i) lifetimes)))
          ≡ cond t (pair (get_or lifetimes i 0) r ∷ path_pairs names bs r (drop (suc i) lifetimes))
          (path_pairs names bs r (drop (suc i) lifetimes))
      go true = refl
      go false = refl

pub path_end : (names : List ℕ) (bs : List Bound) (r : ℕ) (lifetimes : List ℕ) (i : ℕ) → length lifetimes ≤ i
    → path_pairs names bs r (drop i lifetimes) ≡ []
unfolding filter
path_end names bs r lifetimes i h = rw (drop_of_length-le lifetimes {i = i} h)
