-- Bounds in the order in which they are linked: reversed for the AST's order. Their members, places and neighbours.
-- Not here: that a walk over them is the walk in the other order (WalkLaws).
use Prim.Native.Nat.{ℕ, zero, suc, ◌+◌, ◌-◌, ◌<◌}
use mathlib.Core.Bool.{Bool, true, false, cond}
use mathlib.Core.Path.{◌≡◌, refl, ◌∙◌}
use mathlib.Core.Logic.{⊎_elim}
use mathlib.Core.List.Memᴰ
use mathlib.Core.List.{List, [], ◌∷◌, reverse, reverse_aux, reverse_aux-eq, reverse-reverse, Memᴰ}
use native.Mathlib.Omega.{arith}
use lib.Dec.{eqb}
use lib.ListN.{length, get_or, length-reverse}
use lib.Seq.{get_or-take}
use Rattle.answers.specs.Lists.{filter}
use Rattle.lifetimes.specs.declared.bounds.Bound.{Bound}
use Rattle.lifetimes.specs.declared.bounds.Bounds.{Bounds}
use Rattle.lifetimes.specs.Bounds.{above, list_of}
use Rattle.lifetimes.specs.Walk.{near, far, neighbours, Order, LastFirst, FirstFirst, order_of, push}
use Rattle.lifetimes.specs.Index.{linked_in, Fine}
use Rattle.lifetimes.proofs.NeighbourLaws.{neighbours_cons, reversed_in}

-- the places of a list that is reversed in front of another: past it the other, before that the list backwards
module _ {A : Type 0} where
  past_reversed : (l r : List A) (d : A) (j i : ℕ) → i ≡ j + length l → get_or (reverse_aux l r) i d ≡ get_or r j d
  past_reversed [] r d j i e = let same : i ≡ j = omega arith in rw same
  past_reversed (x ∷ l) r d j i e = past_reversed l (x ∷ r) d (suc j) i (omega arith)

  at_reversed : (l r : List A) (d : A) (i j : ℕ) → i + j + 1 ≡ length l → get_or (reverse_aux l r) i d ≡ get_or l j d
  at_reversed [] r d i j e = absurd (omega arith)
  at_reversed (x ∷ l) r d i zero e = past_reversed l (x ∷ r) d 0 i (omega arith)
  at_reversed (x ∷ l) r d i (suc j) e = at_reversed l (x ∷ r) d i j (omega arith)

  pub get_d_reverse : (l : List A) (i : ℕ) (d : A) → i < length l → get_or (reverse l) i d ≡ get_or l (length l - 1 - i) d
  get_d_reverse l i d h = at_reversed l [] d i (length l - 1 - i) (omega arith)

  pub in_reverse : {a : A} (l : List A) → Memᴰ a (reverse l) → Memᴰ a l
  in_reverse l m = ⊎_elim (λ k. k) (λ k. absurd (Memᴰ.not-nil k)) (reversed_in l [] m)

-- the same bounds, as many
pub linked_in_lem : (o : Order) {b : Bound} (bs : List Bound) → Memᴰ b (linked_in o bs) → Memᴰ b bs
linked_in_lem LastFirst bs m = m
linked_in_lem FirstFirst bs m = in_reverse bs m

pub linked_length : (o : Order) (bs : List Bound) → length (linked_in o bs) ≡ length bs
linked_length LastFirst bs = refl
linked_length FirstFirst bs = length-reverse bs

pub linked_fine : (o : Order) {bs : List Bound} → Fine bs → Fine (linked_in o bs)
linked_fine o {bs} fine = record { few = rw (linked_length o bs) fine.few; small = λ b m. fine.small b (linked_in_lem o bs m) }

-- `place` is inside, and the bound there is the i-th linked
pub place_below : (ast : Bool) (n i at : ℕ) → i < n → at ≡ cond ast (n - 1 - i) i → at < n
place_below true n i at h is = omega arith
place_below false n i at h is = omega arith

pub linked_at : (ast : Bool) (b : Bounds) (i at : ℕ) → length (list_of b) ≡ b.pushed → i < b.pushed
    → at ≡ cond ast (b.pushed - 1 - i) i
    → get_or (linked_in (order_of ast) (list_of b)) i (above 0 0) ≡ get_or b.list at (above 0 0)
linked_at false b i at all h is = rw is (get_or-take b.pushed b.list i (above 0 0) h)
linked_at true b i at all h is =
    rw (is, get_d_reverse (list_of b) i (above 0 0) (omega arith), all)
    (get_or-take b.pushed b.list (b.pushed - 1 - i) (above 0 0) (omega arith))

-- a lifetime's list is reversed with the bounds, and a list that is reversed twice is pushed in its own order
neighbours_reversed : (d : Bool) (bs cs : List Bound) (x : ℕ)
    → neighbours d (reverse_aux bs cs) x ≡ reverse_aux (neighbours d bs x) (neighbours d cs x)
unfolding neighbours filter
neighbours_reversed d [] cs x = refl
neighbours_reversed d (b ∷ bs) cs x =
    neighbours_reversed d bs (b ∷ cs) x ∙ rw (neighbours_cons d b cs x, neighbours_cons d b bs x) (go (eqb (near d b) x))
  where
    go : (t : Bool) → reverse_aux (neighbours d bs x) (cond t (far d b ∷ neighbours d cs x) (neighbours d cs x))
        ≡ reverse_aux (cond t (far d b ∷ neighbours d bs x) (neighbours d bs x)) (neighbours d cs x)
    go true = refl
    go false = refl

pub push_linked : (o : Order) (d : Bool) (bs : List Bound) (x : ℕ) (p : List ℕ)
    → push LastFirst (neighbours d (linked_in o bs) x) p ≡ push o (neighbours d bs x) p
unfolding neighbours filter
push_linked LastFirst d bs x p = refl
push_linked FirstFirst d bs x p =
    rw (neighbours_reversed d bs [] x, reverse_aux-eq (reverse (neighbours d bs x)) p, reverse-reverse (neighbours d bs x))
