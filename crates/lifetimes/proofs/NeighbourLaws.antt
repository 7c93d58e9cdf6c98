-- Laws of the lists that bounds make, for both directions and both orders. In order: `neighbours` (its members, and
-- which it lacks), `push` (members and length), `unpushed` (what is left to push). Not here: the walk (WalkLaws), what
-- outlives what (OutlivesLaws).
use Prim.Native.Nat.{ℕ, suc, ◌+◌, ◌≤◌}
use mathlib.Core.Bool.{Bool, true, false, cond, not}
use mathlib.Core.Path.{◌≡◌, refl, sym}
use mathlib.Core.Logic.{◌⊎◌, inl, inr, ⊎_elim}
use mathlib.Core.List.Memᴰ
use mathlib.Core.List.{List, [], ◌∷◌, map, reverse_aux, Memᴰ}
use native.Mathlib.Omega.{arith}
use borrow.Author.Tests.{eq-eqb, ne_eqb, eqb-true, eqb-false}
use lib.Dec.{eqb}
use lib.ListN.{length, length-append, length-reverse_aux}
use Rattle.answers.specs.Lists.{filter, count}
use Rattle.answers.proofs.ListLaws.{in_left, in_right, in_map, map_in, filter_has, filter_none, count_few}
use Rattle.lifetimes.specs.declared.bounds.Bound.{Bound}
use Rattle.lifetimes.specs.Sets.{member, insert}
use Rattle.lifetimes.specs.Walk.{near, far, neighbours, Order, LastFirst, FirstFirst, push, unpushed}
use Rattle.lifetimes.proofs.SetLaws.{member_insert_same, member_insert_other}

-- by one bound more at the front
pub neighbours_cons : (d : Bool) (b : Bound) (bs : List Bound) (x : ℕ)
    → neighbours d (b ∷ bs) x ≡ cond (eqb (near d b) x) (far d b ∷ neighbours d bs x) (neighbours d bs x)
unfolding neighbours filter
neighbours_cons d b bs x = go (eqb (near d b) x)
  where
    go : (t : Bool)
        → map (far d) (cond t (b ∷ filter (λ c. eqb (near d c) x) bs) (filter (λ c. eqb (near d c) x) bs))
        ≡ cond t (far d b ∷ neighbours d bs x) (neighbours d bs x)
    go true = refl
    go false = refl

-- the far side of a bound is in the list of its near side, and the list has nothing else
pub neighbours_has : (d : Bool) (bs : List Bound) (b : Bound) → Memᴰ b bs → Memᴰ (far d b) (neighbours d bs (near d b))
unfolding neighbours
neighbours_has d bs b m = in_map (far d) _ b ((filter_has _ bs b).1 (m, eq-eqb (near d b) (near d b) refl))

-- the bound by which y is in the list of x
pub record Between (d : Bool) (bs : List Bound) (x y : ℕ) : Type 0 where
  pub bound : Bound
  pub among : Memᴰ bound bs
  pub from : near d bound ≡ x
  pub to : far d bound ≡ y

pub neighbours_only : (d : Bool) (bs : List Bound) (x y : ℕ) → Memᴰ y (neighbours d bs x) → Between d bs x y
unfolding neighbours
neighbours_only d bs x y m =
    let image = map_in (far d) _ y m in
    let passed = (filter_has (λ b. eqb (near d b) x) bs image.0).0 image.1 in
    record { bound = image.0; among = passed.0; from = eqb-true _ x passed.1; to = sym image.2 }

-- a lifetime that is no bound's near side has no neighbours
pub neighbours_none : (d : Bool) (bs : List Bound) (x : ℕ) → ((b : Bound) → Memᴰ b bs → near d b ≡ x → ⊥)
    → neighbours d bs x ≡ []
unfolding neighbours
neighbours_none d bs x h = rw (filter_none (λ b. eqb (near d b) x) bs (λ b m. ne_eqb (near d b) x (h b m)))

-- members of what is pending after a push
pub reversed_in : {A : Type 0} {y : A} (l p : List A) → Memᴰ y (reverse_aux l p) → Memᴰ y l ⊎ Memᴰ y p
reversed_in [] p m = inr m
reversed_in (x ∷ l) p m =
    ⊎_elim (λ h. inl (Memᴰ.tail h))
    (λ h. ⊎_elim (λ e. inl (Memᴰ.head e)) (λ k. inr k) (Memᴰ.cases_cons h)) (reversed_in l (x ∷ p) m)

reversed_old : {y : ℕ} (l p : List ℕ) → Memᴰ y p → Memᴰ y (reverse_aux l p)
reversed_old [] p m = m
reversed_old (x ∷ l) p m = reversed_old l (x ∷ p) (Memᴰ.tail m)

reversed_new : {y : ℕ} (l p : List ℕ) → Memᴰ y l → Memᴰ y (reverse_aux l p)
reversed_new [] p m = absurd (Memᴰ.not-nil m)
reversed_new (x ∷ l) p m = ⊎_elim (λ e. reversed_old l (x ∷ p) (Memᴰ.head e)) (reversed_new l (x ∷ p)) (Memᴰ.cases_cons m)

pub push_in : (o : Order) {y : ℕ} (l p : List ℕ) → Memᴰ y (push o l p) → Memᴰ y l ⊎ Memᴰ y p
push_in LastFirst l p m = reversed_in l p m
push_in FirstFirst l p m = Memᴰ.append_cases l m

pub push_old : (o : Order) {y : ℕ} (l p : List ℕ) → Memᴰ y p → Memᴰ y (push o l p)
push_old LastFirst l p m = reversed_old l p m
push_old FirstFirst l p m = in_right l p m

pub push_new : (o : Order) {y : ℕ} (l p : List ℕ) → Memᴰ y l → Memᴰ y (push o l p)
push_new LastFirst l p m = reversed_new l p m
push_new FirstFirst l p m = in_left l p m

pub push_nil : (o : Order) (p : List ℕ) → push o [] p ≡ p
push_nil LastFirst p = refl
push_nil FirstFirst p = refl

pub length_push : (o : Order) (l p : List ℕ) → length (push o l p) ≡ length l + length p
length_push LastFirst l p = length-reverse_aux l p
length_push FirstFirst l p = length-append l p

-- what is left to push: at most every bound; to see a lifetime is to push its list
pub unpushed_all : (d : Bool) (bs : List Bound) (s : ℕ) → unpushed d bs s ≤ length bs
unfolding unpushed
unpushed_all d bs s = count_few _ bs

pub unpushed_insert : (d : Bool) (bs : List Bound) (s x : ℕ) → member s x ≡ false
    → unpushed d bs (insert s x) + length (neighbours d bs x) ≡ unpushed d bs s
unfolding unpushed neighbours count filter
unpushed_insert d [] s x h = refl
unpushed_insert d (b ∷ bs) s x h = rw (neighbours_cons d b bs x) (go (eqb (near d b) x) refl (unpushed_insert d bs s x h))
  where
    left : ℕ
    left = unpushed d bs (insert s x)

    go : (t : Bool) → eqb (near d b) x ≡ t → left + length (neighbours d bs x) ≡ unpushed d bs s
        → cond (not (member (insert s x) (near d b))) (suc left) left
        + length (cond t (far d b ∷ neighbours d bs x) (neighbours d bs x))
        ≡ cond (not (member s (near d b))) (suc (unpushed d bs s)) (unpushed d bs s)
    go true e r = rw (eqb-true (near d b) x e, member_insert_same s x, h) (omega arith)
    go false e r = rw (member_insert_other s x (near d b) (λ q. eqb-false (near d b) x e (sym q))) (same (member s (near d b)))
      where
        same : (t : Bool) → cond (not t) (suc left) left + length (neighbours d bs x)
            ≡ cond (not t) (suc (unpushed d bs s)) (unpushed d bs s)
        same true = r
        same false = omega arith

-- so an entry that is listed leaves one less to take
pub push_unpushed : (o : Order) (d : Bool) (bs : List Bound) (p : List ℕ) (s x : ℕ) → member s x ≡ false
    → length (push o (neighbours d bs x) p) + unpushed d bs (insert s x) ≡ length p + unpushed d bs s
push_unpushed o d bs p s x h = rw (length_push o (neighbours d bs x) p) (omega (arith, unpushed_insert d bs s x h))
