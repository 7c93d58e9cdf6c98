-- What a traversal lists, for both directions and both orders: what is toward its start, that is, what outlives it or
-- what it outlives; what the numberings say; and the lists of an environment.
use Prim.Native.Nat.{ℕ, ◌≤◌, ◌<◌}
use mathlib.Core.Bool.{Bool, true, true≢false}
use mathlib.Core.Path.{◌≡◌, refl, sym, subst, ◌∙◌}
use mathlib.Core.Logic.{inl, inr, ⊎_elim, ◌↔◌}
use mathlib.Core.List.Memᴰ
use mathlib.Core.List.{List, [], ◌∷◌, Memᴰ}
use mathlib.Core.List.{Nodup}
use native.Mathlib.Decide.{ℕ_discrete}
use native.Mathlib.Omega.{arith}
use lib.ListN.{length}
use Rattle.lifetimes.specs.declared.bounds.Bound.{Bound}
use Rattle.lifetimes.specs.declared.env.LifetimeEnv.{LifetimeEnv}
use Rattle.answers.specs.Refusals.{NoneDue}
use Rattle.lifetimes.specs.Sets.{empty, insert}
use Rattle.lifetimes.specs.Env.{bounds_of, env_checks}
use Rattle.lifetimes.specs.Walk.{near, far, neighbours, Order, LastFirst, push, walk, traversal}
use Rattle.lifetimes.specs.Index.{linked_in}
use Rattle.lifetimes.specs.Reach.{reach_list}
use Rattle.lifetimes.specs.Theorems.{ListsTheReach}
use Rattle.lifetimes.specs.Outlives.{Outlives, Toward, ForcedIn}
use Rattle.lifetimes.proofs.SetLaws.{member_empty}
use Rattle.lifetimes.proofs.EnvLaws.{valid, near_declared, far_declared}
use Rattle.lifetimes.proofs.NeighbourLaws.{neighbours_none, push_nil}
use Rattle.lifetimes.proofs.WalkLaws.{Walks, walks, walks_same, walk_nil, walk_new, Met, walks_only, walks_all}
use Rattle.lifetimes.proofs.WalkLaws.{walks_closed, walks_once, walks_linked, unseen_empty, walks_few}
use Rattle.lifetimes.proofs.OutlivesLaws.{least, toward_itself, toward_through, toward_bound, toward_hands_on}

module _ (o : Order) (d : Bool) (bs : List Bound) (k : ℕ) where
  traverses : Walks o d bs (k ∷ []) empty (traversal o d bs k)
  unfolding traversal
  traverses = walks o d bs (k ∷ []) empty

  met : (y : ℕ) → Met o d bs empty (traversal o d bs k) y → Memᴰ y (traversal o d bs k)
  met y (inl i) = i
  met y (inr h) = absurd (true≢false (sym h ∙ member_empty y))

  pub has_start : Memᴰ k (traversal o d bs k)
  has_start = met k (walks_all o d bs traverses k (Memᴰ.head refl))

  pub closed : (b : Bound) → Memᴰ b bs → Memᴰ (near d b) (traversal o d bs k) → Memᴰ (far d b) (traversal o d bs k)
  closed b i j = met (far d b) (walks_closed o d bs traverses b i j)

  -- what the start has and bounds hand on, all that is listed has
  pub traversal_only : (P : ℕ → Type 0) → ((b : Bound) → Memᴰ b bs → P (near d b) → P (far d b)) → P k → (y : ℕ)
      → Memᴰ y (traversal o d bs k) → P y
  traversal_only P on h = walks_only o d bs P on traverses (λ y i. subst P (sym (Memᴰ.eq_of_singleton i)) h)

  pub listed_toward : (y : ℕ) → Memᴰ y (traversal o d bs k) ↔ Toward d bs k y
  listed_toward y = (
    traversal_only (Toward d bs k) (λ b i h. toward_through d bs k (near d b) (far d b) h (toward_bound d bs b i))
        (toward_itself d bs k) y,
    λ h. toward_hands_on d bs (λ z. Memᴰ z (traversal o d bs k)) closed k y h has_start,
  )

  pub traversal_once : Nodup (traversal o d bs k)
  traversal_once = walks_once o d bs traverses

  pub traversal_first : traversal o d bs k ≡ k ∷ walk o d bs (push o (neighbours d bs k) []) (insert empty k)
  unfolding traversal
  traversal_first = walk_new o d bs k [] empty (member_empty k)

  -- a lifetime that no bound leads away from is alone
  pub traversal_alone : ((b : Bound) → Memᴰ b bs → near d b ≡ k → ⊥) → traversal o d bs k ≡ k ∷ []
  traversal_alone h = traversal_first ∙ rw (neighbours_none d bs k h, push_nil o [], walk_nil o d bs (insert empty k))

  pub traversal_few : (n : ℕ) → ((b : Bound) → Memᴰ b bs → far d b < n) → k < n → length (traversal o d bs k) ≤ n
  traversal_few n within h =
      rw unseen_empty at (walks_few o d bs n within traverses (λ y i. subst (λ (z : ℕ). z < n) (sym (Memᴰ.eq_of_singleton i)) h))

-- the AST's order over the bounds is the HIR's over the bounds reversed
pub traversal_linked : (o : Order) (d : Bool) (bs : List Bound) (k : ℕ) → traversal LastFirst d (linked_in o bs) k ≡ traversal o d bs k
traversal_linked o d bs k =
    walks_same LastFirst d (linked_in o bs) (traverses LastFirst d (linked_in o bs) k)
    (walks_linked o d bs (traverses o d bs k))

listed? : (y : ℕ) (l : List ℕ) → Dec (Memᴰ y l)
listed? y [] = no Memᴰ.not-nil
listed? y (x ∷ l) = go (ℕ_discrete y x) (listed? y l)
  where
    go : Dec (y ≡ x) → Dec (Memᴰ y l) → Dec (Memᴰ y (x ∷ l))
    go (yes e) r = yes (Memᴰ.head e)
    go (no n) (yes k) = yes (Memᴰ.tail k)
    go (no n) (no k) = no (λ m. ⊎_elim n k (Memᴰ.cases_cons m))

-- Forced above, in any ordered numbers with two that differ: outlives forces it, and the numbering that is high on what
-- outlives a and low elsewhere tells the rest apart
module _ (N : Type 0) (below : N → N → Type 0) (same : (x : N) → below x x) (on : (x y z : N) → below x y → below y z → below x z)
    (low high : N) (low-high : below low high) (apart : below high low → ⊥) where
  pub outlives_forces : (bs : List Bound) {b a : ℕ} → Outlives bs b a → ForcedIn N below bs b a
  outlives_forces bs h v r = least bs (λ y x. below (v x) (v y)) (λ x. same (v x)) (λ x y z p q. on (v z) (v y) (v x) q p) r h

  weight : {P : Type 0} → Dec P → N
  weight (yes h) = high
  weight (no h) = low

  weight_more : {P Q : Type 0} → (P → Q) → (p : Dec P) (q : Dec Q) → below (weight p) (weight q)
  unfolding weight
  weight_more f (yes h) (yes k) = same high
  weight_more f (yes h) (no k) = absurd (k (f h))
  weight_more f (no h) (yes k) = low-high
  weight_more f (no h) (no k) = same low

  weight_told : {P Q : Type 0} → P → (p : Dec P) (q : Dec Q) → below (weight p) (weight q) → Q
  unfolding weight
  weight_told h p (yes k) l = k
  weight_told h (yes i) (no k) l = absurd (apart l)
  weight_told h (no n) (no k) l = absurd (n h)

  pub forced_outlives : (bs : List Bound) (a b : ℕ) → ForcedIn N below bs b a → Outlives bs b a
  forced_outlives bs a b h =
      (listed_toward LastFirst true bs a b).0
      (weight_told (has_start LastFirst true bs a) (listed? _ _) (listed? _ _)
      (h v (λ c i. weight_more (closed LastFirst true bs a c i) (listed? _ _) (listed? _ _))))
    where
      v : ℕ → N
      v z = weight (listed? z (traversal LastFirst true bs a))

-- ---- in an environment on which no refusal is due

module _ (d : Bool) (e : LifetimeEnv) (none : NoneDue (env_checks e)) (k : ℕ) (inside : k < e.count) where
  leads_inside : (b : Bound) → Memᴰ b (bounds_of e) → far d b < e.count
  leads_inside b i = omega (arith, far_declared d (valid e none) b i, (valid e none).declares)

  pub traversal_lists : (o : Order) → ListsTheReach d e k (traversal o d (bounds_of e) k)
  traversal_lists o = record {
    members =
        λ b. (
          λ i. (
            traversal_only o d (bounds_of e) k (λ b. b < e.count) (λ b i h. leads_inside b i) inside b i,
            (listed_toward o d (bounds_of e) k b).0 i,
          ),
          λ t. (listed_toward o d (bounds_of e) k b).1 t.1,
        );
    first = (_, traversal_first o d (bounds_of e) k);
    once = traversal_once o d (bounds_of e) k;
    elided = λ past. traversal_alone o d (bounds_of e) k (λ b i q. omega (arith, near_declared d (valid e none) b i));
  }

  -- a list has no more lifetimes than there are, and no other
  pub reach_few : length (reach_list d e k) ≤ e.count
  unfolding reach_list
  reach_few = traversal_few LastFirst d (bounds_of e) k e.count leads_inside inside

  pub reach_inside : (y : ℕ) → Memᴰ y (reach_list d e k) → y < e.count
  unfolding reach_list
  reach_inside y i = (((traversal_lists LastFirst).members y).0 i).0
