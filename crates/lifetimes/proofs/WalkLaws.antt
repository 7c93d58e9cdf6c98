-- Laws of the walk, for both directions and both orders. In order: a walk as a relation with one rule for each step,
-- which the definition meets and which has one result; the plain equations of `walk`; what is pending is bounded; what
-- a walk lists: only what is reached, all that is reached, nothing twice, at most as many as there are. Not here: the
-- traversal from a lifetime (ReachLaws).
use Prim.Native.Nat.{ℕ, zero, suc, ◌+◌, ◌≤◌, ◌<◌}
use mathlib.Core.Bool.{Bool, true, false, cond, true≢false}
use mathlib.Core.Path.{◌≡◌, refl, sym, ap, subst, ◌∙◌}
use mathlib.Core.HLevel.{⊥_prop}
use mathlib.Core.Logic.{◌⊎◌, inl, inr, ⊎_elim, ∥∥₁_elim}
use mathlib.Core.List.Memᴰ
use mathlib.Core.List.{List, [], ◌∷◌, Memᴰ}
use mathlib.Core.List.{Nodup, Nodup-nil, Nodup-cons}
use native.Mathlib.Decide.{ℕ_discrete}
use native.Mathlib.Omega.{arith}
use lib.ListN.{length}
use Rattle.lifetimes.specs.declared.bounds.Bound.{Bound}
use Rattle.lifetimes.specs.Sets.{empty, member, insert}
use Rattle.lifetimes.specs.Walk.{near, far, neighbours, Order, LastFirst, push, unpushed, walk_for, walk, Pending}
use Rattle.lifetimes.specs.Walk.{at_start, passed_over, listed}
use Rattle.lifetimes.specs.Index.{linked_in}
use Rattle.lifetimes.proofs.SetLaws.{member_empty, member_insert_same, member_insert_other, member_insert_true}
use Rattle.lifetimes.proofs.SetLaws.{member_insert_false}
use Rattle.lifetimes.proofs.NeighbourLaws.{neighbours_has, neighbours_only, push_in, push_old, push_new}
use Rattle.lifetimes.proofs.NeighbourLaws.{unpushed_all, push_unpushed}
use Rattle.lifetimes.proofs.ReverseLaws.{push_linked}

-- the walk from what is pending and seen, and what it lists
pub data Walks (o : Order) (d : Bool) (bs : List Bound) : List ℕ → ℕ → List ℕ → Type 0 where
  ends : {s : ℕ} → Walks o d bs [] s []
  passes : {x : ℕ} {p : List ℕ} {s : ℕ} {l : List ℕ} → member s x ≡ true → Walks o d bs p s l → Walks o d bs (x ∷ p) s l
  lists : {x : ℕ} {p : List ℕ} {s : ℕ} {l : List ℕ} → member s x ≡ false
      → Walks o d bs (push o (neighbours d bs x) p) (insert s x) l → Walks o d bs (x ∷ p) s (x ∷ l)

module _ (o : Order) (d : Bool) (bs : List Bound) where
  walks_for : (f : ℕ) (p : List ℕ) (s : ℕ) → length p + unpushed d bs s ≤ f → Walks o d bs p s (walk_for f o d bs p s)
  unfolding walk_for
  walks_for zero [] s h = ends
  walks_for zero (x ∷ p) s h = absurd (omega arith)
  walks_for (suc f) [] s h = ends
  walks_for (suc f) (x ∷ p) s h =
      go (member s x) refl (walks_for f p s (omega arith))
      (λ e. walks_for f (push o (neighbours d bs x) p) (insert s x) (omega (arith, push_unpushed o d bs p s x e)))
    where
      go : (t : Bool) → member s x ≡ t → Walks o d bs p s (walk_for f o d bs p s)
          → (member s x ≡ false
          → Walks o d bs (push o (neighbours d bs x) p) (insert s x)
          (walk_for f o d bs (push o (neighbours d bs x) p) (insert s x)))
          → Walks o d bs (x ∷ p) s (cond t (walk_for f o d bs p s) (x ∷ walk_for f o d bs (push o (neighbours d bs x) p) (insert s x)))
      go true e a b = passes e a
      go false e a b = lists e (b e)

  pub walks : (p : List ℕ) (s : ℕ) → Walks o d bs p s (walk o d bs p s)
  unfolding walk
  walks p s = walks_for (length p + unpushed d bs s) p s (omega arith)

  pub walks_same : {p : List ℕ} {s : ℕ} {l m : List ℕ} → Walks o d bs p s l → Walks o d bs p s m → l ≡ m
  walks_same ends ends = refl
  walks_same (passes h w) (passes k v) = walks_same w v
  walks_same (passes h w) (lists k v) = absurd (true≢false (sym h ∙ k))
  walks_same (lists h w) (passes k v) = absurd (true≢false (sym k ∙ h))
  walks_same (lists {x} h w) (lists k v) = ap (λ (l : List ℕ). x ∷ l) (walks_same w v)

  -- the plain equations
  pub walk_nil : (s : ℕ) → walk o d bs [] s ≡ []
  walk_nil s = walks_same (walks [] s) ends

  pub walk_seen : (x : ℕ) (p : List ℕ) (s : ℕ) → member s x ≡ true → walk o d bs (x ∷ p) s ≡ walk o d bs p s
  walk_seen x p s h = walks_same (walks (x ∷ p) s) (passes h (walks p s))

  pub walk_new : (x : ℕ) (p : List ℕ) (s : ℕ) → member s x ≡ false
      → walk o d bs (x ∷ p) s ≡ x ∷ walk o d bs (push o (neighbours d bs x) p) (insert s x)
  walk_new x p s h = walks_same (walks (x ∷ p) s) (lists h (walks (push o (neighbours d bs x) p) (insert s x)))

  -- what is pending and what can still be pushed are at most the start and every bound
  pending_left : {k : ℕ} {p : List ℕ} {s : ℕ} → Pending o d bs k p s → length p + unpushed d bs s ≤ length bs + 1
  pending_left at_start = omega (arith, unpushed_all d bs empty)
  pending_left (passed_over h r) = omega (arith, pending_left r)
  pending_left (listed {x} {pending} {seen} h r) = omega (arith, pending_left r, push_unpushed o d bs pending seen x h)

  pub pending_few : {k : ℕ} {p : List ℕ} {s : ℕ} → Pending o d bs k p s → length p ≤ length bs + 1
  pending_few r = omega (arith, pending_left r)

  -- what is listed has what is pending has, if a bound hands it on
  pub walks_only : (P : ℕ → Type 0) → ((b : Bound) → Memᴰ b bs → P (near d b) → P (far d b))
      → {p : List ℕ} {s : ℕ} {l : List ℕ} → Walks o d bs p s l
      → ((y : ℕ) → Memᴰ y p → P y) → (y : ℕ) → Memᴰ y l → P y
  walks_only P on ends h y k = absurd (Memᴰ.not-nil k)
  walks_only P on (passes e w) h y k = walks_only P on w (λ z i. h z (Memᴰ.tail i)) y k
  walks_only P on (lists {x} {p} e w) h y k =
      ⊎_elim (λ g. subst P (sym g) head) (walks_only P on w next y) (Memᴰ.cases_cons k)
    where
      head : P x
      head = h x (Memᴰ.head refl)

      next : (z : ℕ) → Memᴰ z (push o (neighbours d bs x) p) → P z
      next z i =
          ⊎_elim
          (λ j. let b = neighbours_only d bs x z j in subst P b.to
          (on b.bound b.among (subst P (sym b.from) head))) (λ j. h z (Memᴰ.tail j))
          (push_in o (neighbours d bs x) p i)

  -- listed, or seen before
  abbrev pub Met : ℕ → List ℕ → ℕ → Type 0
  Met s l y = Memᴰ y l ⊎ (member s y ≡ true)

  met_later : (s x : ℕ) (l : List ℕ) (y : ℕ) → Met (insert s x) l y → Met s (x ∷ l) y
  met_later s x l y (inl k) = inl (Memᴰ.tail k)
  met_later s x l y (inr h) = ⊎_elim (λ e. inl (Memᴰ.head (sym e))) (λ k. inr k) (member_insert_true s x y h)

  -- each pending lifetime is met, and so is the far side of each bound whose near side is listed
  pub walks_all : {p : List ℕ} {s : ℕ} {l : List ℕ} → Walks o d bs p s l → (y : ℕ) → Memᴰ y p → Met s l y
  walks_all ends y k = absurd (Memᴰ.not-nil k)
  walks_all (passes {x} {p} {s} e w) y k = ⊎_elim (λ g. inr (ap (member s) g ∙ e)) (walks_all w y) (Memᴰ.cases_cons k)
  walks_all (lists {x} {p} {s} {l} e w) y k =
      ⊎_elim (λ g. inl (Memᴰ.head g)) (λ i. met_later s x l y (walks_all w y (push_old o (neighbours d bs x) p i)))
      (Memᴰ.cases_cons k)

  pub walks_closed : {p : List ℕ} {s : ℕ} {l : List ℕ} → Walks o d bs p s l → (b : Bound) → Memᴰ b bs
      → Memᴰ (near d b) l → Met s l (far d b)
  walks_closed ends b i k = absurd (Memᴰ.not-nil k)
  walks_closed (passes e w) b i k = walks_closed w b i k
  walks_closed (lists {x} {p} {s} {l} e w) b i k =
      ⊎_elim
      (λ g. met_later s x l (far d b)
      (walks_all w (far d b)
      (push_new o (neighbours d bs x) p
      (subst (λ (z : ℕ). Memᴰ (far d b) (neighbours d bs z)) g (neighbours_has d bs b i)))))
      (λ j. met_later s x l (far d b) (walks_closed w b i j))
      (Memᴰ.cases_cons k)

  -- nothing that was seen before is listed, and nothing twice
  pub walks_fresh : {p : List ℕ} {s : ℕ} {l : List ℕ} → Walks o d bs p s l → (y : ℕ) → Memᴰ y l → member s y ≡ false
  walks_fresh ends y k = absurd (Memᴰ.not-nil k)
  walks_fresh (passes e w) y k = walks_fresh w y k
  walks_fresh (lists {x} {p} {s} e w) y k =
      ⊎_elim (λ g. ap (member s) g ∙ e) (λ i. (member_insert_false s x y (walks_fresh w y i)).1)
      (Memᴰ.cases_cons k)

  pub walks_once : {p : List ℕ} {s : ℕ} {l : List ℕ} → Walks o d bs p s l → Nodup l
  walks_once ends = Nodup-nil
  walks_once (passes e w) = walks_once w
  walks_once (lists {x} {p} {s} e w) =
      Nodup-cons.1
      (λ k. ∥∥₁_elim k ⊥_prop (λ i. (member_insert_false s x x (walks_fresh w x i)).0 refl), walks_once w)

-- a walk in either order is a walk in the HIR's over the bounds in the order in which they are linked
pub walks_linked : (o : Order) (d : Bool) (bs : List Bound) {p : List ℕ} {s : ℕ} {l : List ℕ} → Walks o d bs p s l
    → Walks LastFirst d (linked_in o bs) p s l
walks_linked o d bs ends = ends
walks_linked o d bs (passes h w) = passes h (walks_linked o d bs w)
walks_linked o d bs (lists {x} {p} h w) = lists h (rw (← push_linked o d bs x p) at (walks_linked o d bs w))

-- how many of the numbers below n are not in the set
unfoldable pub unseen : ℕ → ℕ → ℕ
unseen s zero = 0
unseen s (suc n) = cond (member s n) (unseen s n) (suc (unseen s n))

pub unseen_empty : (n : ℕ) → unseen empty n ≡ n
unfolding unseen
unseen_empty zero = refl
unseen_empty (suc n) = rw (member_empty n) (ap suc (unseen_empty n))

unseen_same : (s x n : ℕ) → n ≤ x → unseen (insert s x) n ≡ unseen s n
unfolding unseen
unseen_same s x zero h = refl
unseen_same s x (suc n) h = rw (member_insert_other s x n (λ e. omega arith), unseen_same s x n (omega arith))

pub unseen_insert : (s x n : ℕ) → x < n → member s x ≡ false → unseen (insert s x) n + 1 ≡ unseen s n
unfolding unseen
unseen_insert s x zero h m = absurd (omega arith)
unseen_insert s x (suc n) h m = go (ℕ_discrete x n) (unseen_insert s x n)
  where
    both : (t : Bool) → unseen (insert s x) n + 1 ≡ unseen s n
        → cond t (unseen (insert s x) n) (suc (unseen (insert s x) n)) + 1 ≡ cond t (unseen s n) (suc (unseen s n))
    both true r = r
    both false r = omega arith

    go : Dec (x ≡ n) → (x < n → member s x ≡ false → unseen (insert s x) n + 1 ≡ unseen s n)
        → cond (member (insert s x) n) (unseen (insert s x) n) (suc (unseen (insert s x) n)) + 1
        ≡ cond (member s n) (unseen s n) (suc (unseen s n))
    go (yes e) r = rw (← e, member_insert_same s x, m, unseen_same s x x (omega arith)) (omega arith)
    go (no g) r = rw (member_insert_other s x n g) (both (member s n) (r (omega arith) m))

-- where all that is pending and all that bounds lead to is below n, at most as many are listed as there are unseen
-- below n
module _ (o : Order) (d : Bool) (bs : List Bound) (n : ℕ) (within : (b : Bound) → Memᴰ b bs → far d b < n) where
  pub walks_few : {p : List ℕ} {s : ℕ} {l : List ℕ} → Walks o d bs p s l → ((y : ℕ) → Memᴰ y p → y < n) → length l ≤ unseen s n
  walks_few ends h = omega arith
  walks_few (passes e w) h = walks_few w (λ y k. h y (Memᴰ.tail k))
  walks_few (lists {x} {p} {s} {l} e w) h =
      omega (
        arith,
        unseen_insert s x n (h x (Memᴰ.head refl)) e,
        walks_few w
            (λ y k. ⊎_elim
            (λ i. let b = neighbours_only d bs x y i in subst (λ (z : ℕ). z < n) b.to (within b.bound b.among))
            (λ i. h y (Memᴰ.tail i)) (push_in o (neighbours d bs x) p k)),
      )
