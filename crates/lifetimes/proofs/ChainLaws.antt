-- Laws of the index's chains: a chain is its first far side and the chain of the bound before; the chain of a
-- lifetime's last bound is what a traversal pushes of it.
use Prim.Native.Nat.{ℕ, zero, suc, ◌≤◌, ◌<◌}
use mathlib.Core.Bool.{Bool, true, false, cond}
use mathlib.Core.Path.{◌≡◌, refl}
use mathlib.Core.List.{List, [], ◌∷◌, ◌++◌, reverse_aux, Memᴰ}
use native.Mathlib.Nat.{le_refl}
use native.Mathlib.Omega.{arith}
use borrow.Author.Tests.{eq-eqb, eqb-true}
use lib.Dec.{eqb}
use lib.ListN.{length, get_or, drop, set, drop_of_length-le}
use lib.Seq.{drop-cons, get_or-set_other}
use Rattle.lifetimes.specs.Bounds.{above}
use Rattle.answers.specs.Lists.{filter}
use Rattle.lifetimes.specs.Walk.{neighbours}
use Rattle.lifetimes.proofs.NeighbourLaws.{neighbours_cons}
use Rattle.lifetimes.specs.Index.{Graph, near_at, far_at, last_of, back, chain, chains}

pub at_mem : {A : Type 0} (l : List A) (j : ℕ) (d : A) → j < length l → Memᴰ (get_or l j d) l
at_mem [] j d h = absurd (omega arith)
at_mem (a ∷ l) zero d h = Memᴰ.head refl
at_mem (a ∷ l) (suc j) d h = Memᴰ.tail (at_mem l j d (omega arith))

pub last_le : (g : Graph) (i x : ℕ) → last_of g i x ≤ i
unfolding last_of
last_le g zero x = le_refl 0
last_le g (suc i) x = go (eqb (near_at g i) x) (last_le g i x)
  where
    go : (t : Bool) → last_of g i x ≤ i → cond t (suc i) (last_of g i x) ≤ suc i
    go true h = le_refl _
    go false h = omega arith

pub back_chain : (g : Graph) (i x : ℕ) → back g i x ≡ chain g (last_of g i x)
unfolding last_of back chain
back_chain g zero x = refl
back_chain g (suc i) x = go (eqb (near_at g i) x) refl (back_chain g i x)
  where
    go : (t : Bool) → eqb (near_at g i) x ≡ t → back g i x ≡ chain g (last_of g i x)
        → cond t (far_at g i ∷ back g i x) (back g i x) ≡ chain g (cond t (suc i) (last_of g i x))
    go true e r = rw (eqb-true (near_at g i) x e, eq-eqb x x refl)
    go false e r = r

pub chain_more : (g : Graph) (j : ℕ) → chain g (suc j) ≡ far_at g j ∷ chain g (last_of g j (near_at g j))
unfolding back chain
chain_more g j = rw (eq-eqb (near_at g j) (near_at g j) refl, back_chain g j (near_at g j))

-- the bounds that are left, pushed on what the first i give, are all bounds pushed
back_pushed : (g : Graph) (x : ℕ) (q : List ℕ) (i : ℕ) → i ≤ length g.bounds
    → reverse_aux (neighbours g.longer (drop i g.bounds) x) (back g i x ++ q)
    ≡ reverse_aux (neighbours g.longer g.bounds x) q
unfolding back
back_pushed g x q zero h = refl
back_pushed g x q (suc i) h =
    go (eqb (near_at g i) x) refl
    (rw (drop-cons g.bounds i (above 0 0) (omega arith), neighbours_cons) at (back_pushed g x q i (omega arith)))
  where
    go : (t : Bool) → eqb (near_at g i) x ≡ t
        → reverse_aux
        (cond (eqb (near_at g i) x) (far_at g i ∷ neighbours g.longer (drop (suc i) g.bounds) x)
        (neighbours g.longer (drop (suc i) g.bounds) x)) (back g i x ++ q)
        ≡ reverse_aux (neighbours g.longer g.bounds x) q
        → reverse_aux (neighbours g.longer (drop (suc i) g.bounds) x)
        (cond t (far_at g i ∷ back g i x) (back g i x) ++ q) ≡ reverse_aux (neighbours g.longer g.bounds x) q
    go true e r = rw e at r
    go false e r = rw e at r

pub last_pushed : (g : Graph) (x : ℕ) (q : List ℕ)
    → chain g (last_of g (length g.bounds) x) ++ q ≡ reverse_aux (neighbours g.longer g.bounds x) q
unfolding neighbours filter
last_pushed g x q =
    let none : drop (length g.bounds) g.bounds ≡ [] = drop_of_length-le g.bounds {i = length g.bounds} (le_refl _) in
    rw (← back_chain g (length g.bounds) x) (rw none at (back_pushed g x q (length g.bounds) (le_refl _)))

-- the stack's chains after a store above them
pub chains_kept : (g : Graph) (stack : List ℕ) (n k x : ℕ) → n ≤ k → chains g (set stack k x) n ≡ chains g stack n
unfolding chains
chains_kept g stack zero k x h = refl
chains_kept g stack (suc n) k x h = rw (get_or-set_other stack k n x 0 (omega arith), chains_kept g stack n k x (omega arith))
