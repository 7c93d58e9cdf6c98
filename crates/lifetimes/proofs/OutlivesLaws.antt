-- Laws of outlives. In order: it is the least such relation; monotone in the bounds; with one bound added.
-- Toward: along a bound, transitive, and by what bounds hand on.
use Prim.Native.Nat.{ℕ}
use mathlib.Core.Bool.{Bool, true, false}
use mathlib.Core.Path.{refl}
use mathlib.Core.Logic.{◌⊎◌, inl, inr, ⊎_elim, ◌↔◌}
use mathlib.Core.List.Memᴰ
use mathlib.Core.List.{List, [], ◌∷◌, ◌++◌, Memᴰ}
use Rattle.answers.proofs.ListLaws.{in_left, in_right}
use Rattle.lifetimes.specs.declared.bounds.Bound.{Bound}
use Rattle.lifetimes.specs.Walk.{near, far}
use Rattle.lifetimes.specs.Outlives.{Outlives, itself, by_bound, through, Toward}

-- every reflexive, transitive relation that has the bounds holds where outlives does
pub least : (bs : List Bound) (R : ℕ → ℕ → Type 0) → ((x : ℕ) → R x x) → ((x y z : ℕ) → R x y → R y z → R x z)
    → ((b : Bound) → Memᴰ b bs → R b.longer b.shorter) → {x y : ℕ} → Outlives bs x y → R x y
least bs R r t h (itself {x}) = r x
least bs R r t h (by_bound {b} k) = h b k
least bs R r t h (through {x} {y} {z} p q) = t x y z (least bs R r t h p) (least bs R r t h q)

-- more bounds, more reach
pub outlives_more : (bs cs : List Bound) → ((b : Bound) → Memᴰ b bs → Memᴰ b cs) → {x y : ℕ} → Outlives bs x y
    → Outlives cs x y
outlives_more bs cs sub = least bs (Outlives cs) (λ x. itself) (λ x y z p q. through p q) (λ b k. by_bound (sub b k))

-- one bound added: what outlived still does; else it goes once over the new bound
module _ (bs : List Bound) (b : Bound) where
  Added : ℕ → ℕ → Type 0
  Added x y = Outlives bs x y ⊎ (Outlives bs b.shorter y × Outlives bs x b.longer)

  added_trans : (x y z : ℕ) → Added x y → Added y z → Added x z
  unfolding Added
  added_trans x y z (inl p) (inl q) = inl (through p q)
  added_trans x y z (inl p) (inr q) = inr (q.0, through p q.1)
  added_trans x y z (inr p) (inl q) = inr (through p.0 q, p.1)
  added_trans x y z (inr p) (inr q) = inr (q.0, p.1)

  added_bound : (a : Bound) → Memᴰ a (bs ++ (b ∷ [])) → Added a.longer a.shorter
  unfolding Added
  added_bound a m =
      ⊎_elim (λ k. inl (by_bound k)) (λ k. let e = Memᴰ.eq_of_singleton k in inr (rw e itself, rw e itself))
      (Memᴰ.append_cases bs m)

  pub outlives_added : (x y : ℕ) → Outlives (bs ++ (b ∷ [])) x y
      ↔ (Outlives bs x y ⊎ (Outlives bs b.shorter y × Outlives bs x b.longer))
  unfolding Added
  outlives_added x y = (least (bs ++ (b ∷ [])) Added (λ z. inl itself) added_trans added_bound, back)
    where
      old : {u v : ℕ} → Outlives bs u v → Outlives (bs ++ (b ∷ [])) u v
      old = outlives_more bs (bs ++ (b ∷ [])) (λ a. in_left bs (b ∷ []))

      back : Outlives bs x y ⊎ (Outlives bs b.shorter y × Outlives bs x b.longer) → Outlives (bs ++ (b ∷ [])) x y
      back (inl h) = old h
      back (inr h) = through (old h.1) (through (by_bound (in_right bs (b ∷ []) (Memᴰ.head refl))) (old h.0))

-- the direction
pub toward_itself : (d : Bool) (bs : List Bound) (x : ℕ) → Toward d bs x x
toward_itself true bs x = itself
toward_itself false bs x = itself

pub toward_through : (d : Bool) (bs : List Bound) (x y z : ℕ) → Toward d bs x y → Toward d bs y z → Toward d bs x z
toward_through true bs x y z p q = through q p
toward_through false bs x y z p q = through p q

pub toward_bound : (d : Bool) (bs : List Bound) (b : Bound) → Memᴰ b bs → Toward d bs (near d b) (far d b)
toward_bound true bs b k = by_bound k
toward_bound false bs b k = by_bound k

-- what each bound hands on from its near side to its far side is handed on all the way
pub toward_hands_on : (d : Bool) (bs : List Bound) (P : ℕ → Type 0)
    → ((b : Bound) → Memᴰ b bs → P (near d b) → P (far d b)) → (x y : ℕ) → Toward d bs x y → P x → P y
toward_hands_on true bs P on x y h = least bs (λ u v. P v → P u) (λ u k. k) (λ u v w p q k. p (q k)) on h
toward_hands_on false bs P on x y h = least bs (λ u v. P u → P v) (λ u k. k) (λ u v w p q k. q (p k)) on h
