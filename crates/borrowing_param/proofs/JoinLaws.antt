-- Lists joined from parts, their rearrangements, and the words of edges. In order: members and joins; rearrangements;
-- storing one list behind another; edges and their words; the edges of one lifetime.
use Rattle.std.specs.Prelude.{Some, None}
use Prim.Native.Nat.{ℕ, zero, suc, ◌+◌, ◌*◌, ◌/◌, ◌≤◌, ◌<◌}
use mathlib.Core.Path.{◌≡◌, refl, sym, ap, subst, ◌∙◌}
use mathlib.Core.Logic.{⊎_elim, ite}
use mathlib.Core.List.Memᴰ
use mathlib.Core.List.{List, [], ◌∷◌, ◌++◌, flat_map, filter-append, append_assoc, append-nil, Memᴰ}
use mathlib.Core.List.{Permᴰ}
use mathlib.Core.List.Permᴰ
use native.Mathlib.Decide.{ℕ_discrete}
use native.Mathlib.Nat.{add-zero, div-add-mod', mod-lt}
use native.Mathlib.Omega.{arith}
use borrow.Author.Tests.{le-ltb, lt-ltb}
use lib.ListN.{length, get_or, drop, set}
use lib.Seq.{sets, get_or-drop, drop-drop}
use Rattle.borrowing_param.specs.declared.visitor.LifetimeEdge.{LifetimeEdge}
use Rattle.borrowing_param.specs.Edges.{edge, width, edge_words, edge_at, edges_in, edge_in, edges_of}

-- ---- members and joins

module _ {A B : Type 0} (f : A → List B) where
  pub join_cons : (x : A) (l : List A) → flat_map f (x ∷ l) ≡ f x ++ flat_map f l
  unfolding flat_map
  join_cons x l = refl

  pub join_append : (l m : List A) → flat_map f (l ++ m) ≡ flat_map f l ++ flat_map f m
  unfolding flat_map
  join_append [] m = refl
  join_append (x ∷ l) m = rw (join_append l m, append_assoc)

  -- what is in a join is in one of its parts
  pub record PartOf (l : List A) (b : B) : Type 0 where
    pub part : A
    pub listed : Memᴰ part l
    pub holds : Memᴰ b (f part)

  pub join_part : (l : List A) (b : B) → Memᴰ b (flat_map f l) → PartOf l b
  unfolding flat_map
  join_part [] b m = absurd (Memᴰ.not-nil m)
  join_part (x ∷ l) b m =
      ⊎_elim
      (λ h. record { part = x; listed = Memᴰ.head refl; holds = h })
      (λ h. let r = join_part l b h in record { part = r.part; listed = Memᴰ.tail r.listed; holds = r.holds })
      (Memᴰ.append_cases (f x) m)

-- ---- rearrangements

pub perm_length : {A : Type 0} {l m : List A} → Permᴰ l m → length l ≡ length m
perm_length Permᴰ.nil = refl
perm_length (Permᴰ.cons e p) = ap suc (perm_length p)
perm_length (Permᴰ.swap e f) = refl
perm_length (Permᴰ.trans p q) = perm_length p ∙ perm_length q

pub perm_member : {A : Type 0} {l m : List A} → Permᴰ l m → (x : A) → Memᴰ x l → Memᴰ x m
perm_member Permᴰ.nil x h = h
perm_member (Permᴰ.cons e p) x h =
    ⊎_elim (λ g. Memᴰ.head (g ∙ e)) (λ k. Memᴰ.tail (perm_member p x k)) (Memᴰ.cases_cons h)
perm_member (Permᴰ.swap e f) x h =
    ⊎_elim (λ g. Memᴰ.tail (Memᴰ.head (g ∙ e)))
    (λ k. ⊎_elim (λ g. Memᴰ.head (g ∙ f)) (λ i. Memᴰ.tail (Memᴰ.tail i)) (Memᴰ.cases_cons k))
    (Memᴰ.cases_cons h)
perm_member (Permᴰ.trans p q) x h = perm_member q x (perm_member p x h)

pub join_perm : {A B : Type 0} (f : A → List B) {l m : List A} → Permᴰ l m → Permᴰ (flat_map f l) (flat_map f m)
unfolding flat_map
join_perm f Permᴰ.nil = Permᴰ.nil
join_perm f (Permᴰ.cons {b = b} e p) = rw e (Permᴰ.append_left (f b) (join_perm f p))
join_perm {B = B} f (Permᴰ.swap {a' = a} {b' = b} {l = l} e g) = rw (e, g) (both (f b) (f a) (flat_map f l))
  where
    both : (x y z : List B) → Permᴰ (x ++ (y ++ z)) (y ++ (x ++ z))
    both x y z = rw (← append_assoc x y z, ← append_assoc y x z) (Permᴰ.append_right z (Permᴰ.append_comm x y))
join_perm f (Permᴰ.trans p q) = Permᴰ.trans (join_perm f p) (join_perm f q)

-- ---- storing one list behind another

pub sets_behind : (l : List ℕ) (i : ℕ) (x y : List ℕ) → sets l i (x ++ y) ≡ sets (sets l i x) (i + length x) y
sets_behind l i [] y = rw (add-zero i)
sets_behind l i (w ∷ x) y =
    let e : i + suc (length x) ≡ suc i + length x = omega arith in
    rw e (sets_behind (set l i w) (suc i) x y)

-- ---- edges and their words

pub words_many : (es : List LifetimeEdge) → length (flat_map edge_words es) ≡ width * length es
unfolding flat_map
words_many [] = refl
words_many (e ∷ es) = omega (arith, words_many es)

pub words_read : (es : List LifetimeEdge) (rest : List ℕ) → edges_in (length es) (flat_map edge_words es ++ rest) ≡ es
unfolding flat_map edges_in
words_read [] rest = refl
words_read (e ∷ es) rest = rw (words_read es rest)

-- ---- an edge by its place

module _ (words : List ℕ) (place : ℕ) where
  pub edge_absent : length words / 5 ≤ place → None ≡ edge_in words place
  edge_absent h = rw (le-ltb place (length words / 5) h)

  pub edge_there : place < length words / 5
      → Some (edge (get_or words (5 * place) 0) (get_or words (5 * place + 1) 0) (get_or words (5 * place + 2) 0)
      (get_or words (5 * place + 3) 0) (get_or words (5 * place + 4) 0))
      ≡ edge_in words place
  edge_there h =
      let at = get_or-drop (5 * place) words in
      rw (lt-ltb place (length words / 5) h, at 0 0, at 1 0, at 2 0, at 3 0, at 4 0, add-zero (5 * place))

edges_at : (n k : ℕ) (words : List ℕ) (other : LifetimeEdge) → k < n
    → get_or (edges_in n words) k other ≡ edge_at (drop (width * k) words)
unfolding edges_in
edges_at zero k words other h = absurd (omega arith)
edges_at (suc n) zero words other h = refl
edges_at (suc n) (suc k) words other h =
    let next : width + width * k ≡ width * suc k = omega arith in
    edges_at n k (drop width words) other (omega arith) ∙ ap edge_at (drop-drop (width * k) width words) ∙ rw next

pub edge_by_place : (words : List ℕ) (n k : ℕ) (other : LifetimeEdge) → width * n ≤ length words → k < n
    → edge_in words k ≡ Some (get_or (edges_in n words) k other)
edge_by_place words n k other h l =
    let inside : k < length words / 5 = omega (arith, div-add-mod' (length words) 5, mod-lt (length words) {m = 5} (omega arith)) in
    rw (lt-ltb k (length words / 5) inside, edges_at n k words other l)

-- ---- the edges of one lifetime

abbrev Used : ℕ → List LifetimeEdge → Type 0
Used used es = (e : LifetimeEdge) → Memᴰ e es → e.used ≡ used

pub of_append : (used : ℕ) (es fs : List LifetimeEdge) → edges_of used (es ++ fs) ≡ edges_of used es ++ edges_of used fs
of_append used es fs = filter-append (λ (e : LifetimeEdge). ℕ_discrete e.used used) es fs

of_own : (used : ℕ) (es : List LifetimeEdge) → Used used es → edges_of used es ≡ es
of_own used [] h = refl
of_own used (e ∷ es) h = go (ℕ_discrete e.used used) (of_own used es (λ x m. h x (Memᴰ.tail m)))
  where
    go : (d : Dec (e.used ≡ used)) → edges_of used es ≡ es
        → ite {C = List LifetimeEdge} d (e ∷ edges_of used es) (edges_of used es) ≡ e ∷ es
    go (yes g) r = rw r
    go (no g) r = absurd (g (h e (Memᴰ.head refl)))

of_none : (used : ℕ) (es : List LifetimeEdge) → ((e : LifetimeEdge) → Memᴰ e es → e.used ≡ used → ⊥) → edges_of used es ≡ []
of_none used [] h = refl
of_none used (e ∷ es) h = go (ℕ_discrete e.used used) (of_none used es (λ x m. h x (Memᴰ.tail m)))
  where
    go : (d : Dec (e.used ≡ used)) → edges_of used es ≡ []
        → ite {C = List LifetimeEdge} d (e ∷ edges_of used es) (edges_of used es) ≡ []
    go (yes g) r = absurd (h e (Memᴰ.head refl) g)
    go (no g) r = r

-- each lifetime of a list stands in it once
unfoldable pub Once : List ℕ → Type 0
Once [] = Unit {0}
Once (x ∷ l) = (Memᴰ x l → ⊥) × Once l

-- where each part holds edges of its own lifetime, a lifetime's edges are those of its part
module _ (part : ℕ → List LifetimeEdge) (own : (used : ℕ) → Used used (part used)) (used : ℕ) where
  pub of_others : (l : List ℕ) → (Memᴰ used l → ⊥) → edges_of used (flat_map part l) ≡ []
  of_others l h =
      of_none used (flat_map part l)
      (λ e m g. let r = join_part part l e m in h
      (subst (λ (x : ℕ). Memᴰ x l) (sym (own r.part e r.holds) ∙ g) r.listed))

  pub of_part : (l : List ℕ) → Once l → Memᴰ used l → edges_of used (flat_map part l) ≡ part used
  unfolding flat_map Once
  of_part [] o m = absurd (Memᴰ.not-nil m)
  of_part (x ∷ l) o m = of_append used (part x) (flat_map part l) ∙ go (ℕ_discrete x used) (of_part l o.1)
    where
      go : Dec (x ≡ used) → (Memᴰ used l → edges_of used (flat_map part l) ≡ part used)
          → edges_of used (part x) ++ edges_of used (flat_map part l) ≡ part used
      go (yes e) r =
          rw (
            of_others l (λ k. o.0 (subst (λ (y : ℕ). Memᴰ y l) (sym e) k)),
            append-nil (edges_of used (part x)),
            e,
          ) (of_own used (part used) (own used))
      go (no n) r =
          rw (of_none used (part x) (λ e k g. n (sym (own x e k) ∙ g)))
          (⊎_elim (λ e. absurd (n (sym e))) r (Memᴰ.cases_cons m))
