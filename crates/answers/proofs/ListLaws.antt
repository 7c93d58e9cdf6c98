-- Laws of specs/Lists.antt: numbers in a row; some entry, all entries; the entries that pass a test, and how many do.
use Prim.Native.Nat.{ℕ, zero, suc, ◌+◌, ◌≤◌, ◌<◌}
use mathlib.Core.Bool.{Bool, true, false, cond, ◌&&◌, ◌||◌, true≢false, and-eq-true_iff}
use mathlib.Core.Logic.{◌↔◌, ⊎_elim, ∥∥₁_elim, ∥∥₁_map}
use mathlib.Core.Path.{◌≡◌, refl, sym, ap, ◌∙◌}
use mathlib.Core.List.Memᴰ
use mathlib.Core.List.{List, [], ◌∷◌, ◌++◌, map, Memᴰ}
use mathlib.Core.List.{flatten, Pairwise}
use native.Mathlib.Decide.{ℕ_discrete}
use native.Mathlib.Bridge.{le_prop}
use native.Mathlib.Omega.{arith}
use lib.ListN.{length, get_or}
use Rattle.answers.specs.Lists.{range, any, all, filter, count}

-- ---- numbers in a row

pub length_range : (x n : ℕ) → length (range x n) ≡ n
unfolding range
length_range x zero = refl
length_range x (suc n) = ap suc (length_range (suc x) n)

pub get_d_range : (x n i d : ℕ) → i < n → get_or (range x n) i d ≡ x + i
unfolding range
get_d_range x zero i d h = absurd (omega arith)
get_d_range x (suc n) zero d h = omega arith
get_d_range x (suc n) (suc i) d h = let r = get_d_range (suc x) n i d (omega arith) in omega arith

-- what stands in the row: the numbers from x up to, not including, x + n
pub range_has : (x n y : ℕ) → Memᴰ y (range x n) ↔ ((x ≤ y) × (y < x + n))
unfolding range
range_has x zero y = (λ m. absurd (Memᴰ.not-nil m), λ h. absurd (omega arith))
range_has x (suc n) y =
    let rest = range_has (suc x) n y in (
      λ m. ⊎_elim (λ (e : y ≡ x). (omega arith, omega arith)) (λ k. let r = rest.0 k in (omega arith, omega arith))
          (Memᴰ.cases_cons m),
      λ h. elim (ℕ_discrete y x) [ yes e ↦ Memᴰ.head e | no a ↦ Memᴰ.tail (rest.1 (omega arith, omega arith)) ],
    )

-- one more at the end
pub range_snoc : (x n : ℕ) → range x (suc n) ≡ range x n ++ ((x + n) ∷ [])
unfolding range
range_snoc x zero = let e : x ≡ x + 0 = omega arith in ap (λ (k : ℕ). k ∷ []) e
range_snoc x (suc n) =
    let e : suc x + n ≡ x + suc n = omega arith in
    ap (λ (l : List ℕ). x ∷ l) (range_snoc (suc x) n ∙ ap (λ (k : ℕ). range (suc x) n ++ (k ∷ [])) e)

-- each is less than those after it
pub range_pairwise : (x n : ℕ) → Pairwise ◌<◌ (range x n)
unfolding range
range_pairwise x zero = Pairwise.nil
range_pairwise x (suc n) =
    Pairwise.cons (λ y m. ∥∥₁_elim m le_prop (λ d. ((range_has (suc x) n y).0 d).0)) (range_pairwise (suc x) n)

-- ---- what is in two lists one after the other, and in the images of a list

module _ {A : Type 0} {y : A} where
  pub in_left : (l m : List A) → Memᴰ y l → Memᴰ y (l ++ m)
  in_left [] m k = absurd (Memᴰ.not-nil k)
  in_left (x ∷ l) m k = ⊎_elim (λ e. Memᴰ.head e) (λ h. Memᴰ.tail (in_left l m h)) (Memᴰ.cases_cons k)

  pub in_right : (l m : List A) → Memᴰ y m → Memᴰ y (l ++ m)
  in_right [] m k = k
  in_right (x ∷ l) m k = Memᴰ.tail (in_right l m k)

module _ {A B : Type 0} (f : A → B) where
  pub in_map : (l : List A) (a : A) → Memᴰ a l → Memᴰ (f a) (map f l)
  in_map [] a m = absurd (Memᴰ.not-nil m)
  in_map (x ∷ l) a m = ⊎_elim (λ e. Memᴰ.head (ap f e)) (λ k. Memᴰ.tail (in_map l a k)) (Memᴰ.cases_cons m)

  pub map_in : (l : List A) (b : B) → Memᴰ b (map f l) → (a : A) × Memᴰ a l × (b ≡ f a)
  map_in [] b m = absurd (Memᴰ.not-nil m)
  map_in (x ∷ l) b m =
      ⊎_elim (λ e. (x, Memᴰ.head refl, e)) (λ k. let r = map_in l b k in (r.0, Memᴰ.tail r.1, r.2))
      (Memᴰ.cases_cons m)

-- ---- some entry, all entries

module _ {A : Type 0} (test : A → Bool) where
  pub any_has : (l : List A) → (any test l ≡ true) ↔ ((x : A) × Memᴰ x l × (test x ≡ true))
  unfolding any
  any_has [] = (λ h. absurd (true≢false (sym h)), λ s. absurd (Memᴰ.not-nil s.1))
  any_has (y ∷ l) = go (test y) refl (any_has l)
    where
      go : (t : Bool) → test y ≡ t → (any test l ≡ true) ↔ ((x : A) × Memᴰ x l × (test x ≡ true))
          → (t || any test l ≡ true) ↔ ((x : A) × Memᴰ x (y ∷ l) × (test x ≡ true))
      go true e rest = (λ h. (y, Memᴰ.head refl, e), λ s. refl)
      go false e rest = (
        λ h. let s = rest.0 h in (s.0, Memᴰ.tail s.1, s.2),
        λ s. rest.1 (
          s.0,
          ⊎_elim (λ q. absurd (true≢false (sym s.2 ∙ ap test q ∙ e))) (λ k. k) (Memᴰ.cases_cons s.1),
          s.2,
        ),
      )

  pub any_append : (l m : List A) → any test (l ++ m) ≡ any test l || any test m
  unfolding any
  any_append [] m = refl
  any_append (x ∷ l) m = go (test x) (any_append l m)
    where
      go : (t : Bool) → any test (l ++ m) ≡ any test l || any test m
          → t || any test (l ++ m) ≡ (t || any test l) || any test m
      go true r = refl
      go false r = r

  -- in lists one after another
  pub any_flatten : (ls : List (List A)) → any test (flatten ls) ≡ any (any test) ls
  unfolding any flatten
  any_flatten [] = refl
  any_flatten (l ∷ ls) = any_append l (flatten ls) ∙ ap (λ (b : Bool). any test l || b) (any_flatten ls)

  pub all_has : (l : List A) → all test l ≡ true → (x : A) → Memᴰ x l → test x ≡ true
  unfolding all
  all_has [] h x m = absurd (Memᴰ.not-nil m)
  all_has (y ∷ l) h x m =
      let both = (and-eq-true_iff (test y) (all test l)).0 h in
      ⊎_elim (λ e. ap test e ∙ both.0) (all_has l both.1 x) (Memᴰ.cases_cons m)

  pub has_all : (l : List A) → ((x : A) → Memᴰ x l → test x ≡ true) → all test l ≡ true
  unfolding all
  has_all [] h = refl
  has_all (y ∷ l) h = rw (h y (Memᴰ.head refl)) (has_all l (λ x m. h x (Memᴰ.tail m)))

  pub not_all : (l : List A) → all test l ≡ false → (x : A) × Memᴰ x l × (test x ≡ false)
  unfolding all
  not_all [] h = absurd (true≢false h)
  not_all (y ∷ l) h = go (test y) refl (not_all l) h
    where
      go : (t : Bool) → test y ≡ t → (all test l ≡ false → (x : A) × Memᴰ x l × (test x ≡ false))
          → t && all test l ≡ false → (x : A) × Memᴰ x (y ∷ l) × (test x ≡ false)
      go true e rest h = let s = rest h in (s.0, Memᴰ.tail s.1, s.2)
      go false e rest h = (y, Memᴰ.head refl, e)

  pub all_append : (l m : List A) → all test (l ++ m) ≡ all test l && all test m
  unfolding all
  all_append [] m = refl
  all_append (x ∷ l) m = go (test x) (all_append l m)
    where
      go : (t : Bool) → all test (l ++ m) ≡ all test l && all test m
          → t && all test (l ++ m) ≡ (t && all test l) && all test m
      go true r = r
      go false r = refl

  -- ---- the entries that pass a test

  pub filter_has : (l : List A) (y : A) → Memᴰ y (filter test l) ↔ (Memᴰ y l × (test y ≡ true))
  unfolding filter
  filter_has [] y = (λ m. absurd (Memᴰ.not-nil m), λ h. absurd (Memᴰ.not-nil h.0))
  filter_has (x ∷ l) y = go (test x) refl (filter_has l y)
    where
      go : (t : Bool) → test x ≡ t → Memᴰ y (filter test l) ↔ (Memᴰ y l × (test y ≡ true))
          → Memᴰ y (cond t (x ∷ filter test l) (filter test l)) ↔ (Memᴰ y (x ∷ l) × (test y ≡ true))
      go true e rest = (
        λ m. ⊎_elim (λ q. (Memᴰ.head q, ap test q ∙ e)) (λ k. let r = rest.0 k in (Memᴰ.tail r.0, r.1))
            (Memᴰ.cases_cons m),
        λ h. ⊎_elim (λ q. Memᴰ.head q) (λ k. Memᴰ.tail (rest.1 (k, h.1))) (Memᴰ.cases_cons h.0),
      )
      go false e rest = (
        λ m. let r = rest.0 m in (Memᴰ.tail r.0, r.1),
        λ h. ⊎_elim (λ q. absurd (true≢false (sym h.1 ∙ ap test q ∙ e))) (λ k. rest.1 (k, h.1))
            (Memᴰ.cases_cons h.0),
      )

  pub filter_append : (l m : List A) → filter test (l ++ m) ≡ filter test l ++ filter test m
  unfolding filter
  filter_append [] m = refl
  filter_append (x ∷ l) m = go (test x) (filter_append l m)
    where
      go : (t : Bool) → filter test (l ++ m) ≡ filter test l ++ filter test m
          → cond t (x ∷ filter test (l ++ m)) (filter test (l ++ m))
          ≡ cond t (x ∷ filter test l) (filter test l) ++ filter test m
      go true r = ap (λ (k : List A). x ∷ k) r
      go false r = r

  -- none passes
  pub filter_none : (l : List A) → ((x : A) → Memᴰ x l → test x ≡ false) → filter test l ≡ []
  unfolding filter
  filter_none [] h = refl
  filter_none (x ∷ l) h = rw (h x (Memᴰ.head refl)) (filter_none l (λ y m. h y (Memᴰ.tail m)))

  -- they stand in the order that they had
  pub filter_pairwise : {R : A → A → Type 0} {l : List A} → Pairwise R l → Pairwise R (filter test l)
  unfolding filter
  filter_pairwise Pairwise.nil = Pairwise.nil
  filter_pairwise {R} (Pairwise.cons {a = x} {l = l} h p) = go (test x) (filter_pairwise p)
    where
      go : (t : Bool) → Pairwise R (filter test l) → Pairwise R (cond t (x ∷ filter test l) (filter test l))
      go true r = Pairwise.cons (λ y m. h y (∥∥₁_map m (λ d. ((filter_has l y).0 d).0))) r
      go false r = r

  -- ---- how many pass

  pub length_filter : (l : List A) → length (filter test l) ≡ count test l
  unfolding filter count
  length_filter [] = refl
  length_filter (x ∷ l) = go (test x) (length_filter l)
    where
      go : (t : Bool) → length (filter test l) ≡ count test l
          → length (cond t (x ∷ filter test l) (filter test l)) ≡ cond t (suc (count test l)) (count test l)
      go true r = ap suc r
      go false r = r

  pub count_few : (l : List A) → count test l ≤ length l
  unfolding count
  count_few [] = omega arith
  count_few (x ∷ l) = go (test x) (count_few l)
    where
      go : (t : Bool) → count test l ≤ length l → cond t (suc (count test l)) (count test l) ≤ suc (length l)
      go true r = omega arith
      go false r = omega arith

  pub filter_few : (l : List A) → length (filter test l) ≤ length l
  filter_few l = rw (length_filter l) (count_few l)

  pub count_append : (l m : List A) → count test (l ++ m) ≡ count test l + count test m
  unfolding count
  count_append [] m = omega arith
  count_append (x ∷ l) m = go (test x) (count_append l m)
    where
      go : (t : Bool) → count test (l ++ m) ≡ count test l + count test m
          → cond t (suc (count test (l ++ m))) (count test (l ++ m)) ≡ cond t (suc (count test l)) (count test l) + count test m
      go true r = omega arith
      go false r = r

-- two tests that agree on the entries
pub filter_agree : {A : Type 0} (f g : A → Bool) (l : List A) → ((x : A) → Memᴰ x l → f x ≡ g x) → filter f l ≡ filter g l
unfolding filter
filter_agree f g [] h = refl
filter_agree f g (x ∷ l) h =
    rw (h x (Memᴰ.head refl), filter_agree f g l (λ y m. h y (Memᴰ.tail m)))
