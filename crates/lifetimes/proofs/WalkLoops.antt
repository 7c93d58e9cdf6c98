-- The loop of `walk`: the items so far, and then what the walk lists from here on, are what it lists from the start; as
-- many are seen as are listed.
use Rattle.std.specs.Prelude.{Some, None}
use Prim.Native.Nat.{ℕ, ◌+◌, ◌≤◌, ◌<◌}
use mathlib.Core.Bool.{Bool, true, false, cond}
use mathlib.Core.Path.{◌≡◌, refl, sym, ap, subst, ◌∙◌}
use mathlib.Core.Logic.{⊎_elim}
use mathlib.Core.List.Memᴰ
use mathlib.Core.List.{List, [], ◌∷◌, ◌++◌, reverse_aux, append_assoc, append-nil, Memᴰ}
use native.Mathlib.Decide.{ℕ_discrete}
use native.Mathlib.Omega.{arith}
use native.Mathlib.Numerals.{add-one}
use lib.ListN.{length, get_or, take, set}
use lib.Seq.{take-suc-set, get_or-set_same, get_or-set_other}
use Rattle.lifetimes.specs.declared.bounds.Bound.{Bound}
use Rattle.lifetimes.specs.declared.index.Index.{Index}
use Rattle.lifetimes.specs.declared.lifetime.Lifetime.{Lifetime}
use Rattle.lifetimes.specs.declared.walk.Stepped.{Stepped}
use Rattle.lifetimes.specs.Sets.{empty, member, insert, insert_all, set_of}
use Rattle.lifetimes.specs.Walk.{neighbours, LastFirst, walk, traversal}
use Rattle.lifetimes.specs.Index.{Graph, last_of, chain, chains, pending, skip, Indexed, Ready, Steps, Within}
use Rattle.lifetimes.specs.Index.{Chained, Complete, Limits}
use Rattle.lifetimes.proofs.SetLaws.{member_empty, insert_all_append}
use Rattle.lifetimes.proofs.NeighbourLaws.{neighbours_only, push_in}
use Rattle.lifetimes.proofs.WalkLaws.{walks, walk_nil, walk_seen, walk_new, unseen, unseen_empty, unseen_insert}
use Rattle.lifetimes.proofs.WalkLaws.{walks_few}
use Rattle.lifetimes.proofs.ChainLaws.{last_le, last_pushed, chains_kept}

-- `skip` leaves a part of what is pending, whose first entry was not seen, and the walk goes on from it
skip_in : (s : ℕ) (p : List ℕ) (y : ℕ) → Memᴰ y (skip s p) → Memᴰ y p
unfolding skip
skip_in s [] y m = m
skip_in s (x ∷ p) y m = go (member s x) (skip_in s p y) m
  where
    go : (t : Bool) → (Memᴰ y (skip s p) → Memᴰ y p) → Memᴰ y (cond t (skip s p) (x ∷ p)) → Memᴰ y (x ∷ p)
    go true h m = Memᴰ.tail (h m)
    go false h m = m

skip_head : (s : ℕ) (p : List ℕ) (x : ℕ) (q : List ℕ) → skip s p ≡ x ∷ q → member s x ≡ false
unfolding skip
skip_head s [] x q e = cc
skip_head s (z ∷ p) x q e = go (member s z) refl (skip_head s p x q) e
  where
    go : (t : Bool) → member s z ≡ t → (skip s p ≡ x ∷ q → member s x ≡ false) → cond t (skip s p) (z ∷ p) ≡ x ∷ q
        → member s x ≡ false
    go true h r e = r e
    go false h r e = cc

skip_walk : (d : Bool) (bs : List Bound) (s : ℕ) (p : List ℕ) → walk LastFirst d bs (skip s p) s ≡ walk LastFirst d bs p s
unfolding skip
skip_walk d bs s [] = refl
skip_walk d bs s (x ∷ p) = go (member s x) refl (skip_walk d bs s p)
  where
    go : (t : Bool) → member s x ≡ t → walk LastFirst d bs (skip s p) s ≡ walk LastFirst d bs p s
        → walk LastFirst d bs (cond t (skip s p) (x ∷ p)) s ≡ walk LastFirst d bs (x ∷ p) s
    go true h r = r ∙ sym (walk_seen LastFirst d bs x p s h)
    go false h r = refl

-- a step of the walk, by what `skip` leaves
skip_end : (d : Bool) (bs : List Bound) (s : ℕ) (p : List ℕ) → skip s p ≡ [] → walk LastFirst d bs p s ≡ []
skip_end d bs s p e = sym (skip_walk d bs s p) ∙ rw e (walk_nil LastFirst d bs s)

skip_step : (d : Bool) (bs : List Bound) (s : ℕ) (p : List ℕ) (x : ℕ) (q : List ℕ) → skip s p ≡ x ∷ q
    → walk LastFirst d bs p s ≡ x ∷ walk LastFirst d bs (reverse_aux (neighbours d bs x) q) (insert s x)
skip_step d bs s p x q e = sym (skip_walk d bs s p) ∙ rw e (walk_new LastFirst d bs x q s (skip_head s p x q e))

no_items : (l : List ℕ) → length l ≤ 0 → l ≡ []
no_items [] h = refl
no_items (x ∷ l) h = absurd (omega arith)

-- A traversal under way, whatever holds what is pending
pub record Going (g : Graph) (limit start : ℕ) (items : List ℕ) (n : ℕ) (p : List ℕ) (seen : ℕ) : Type 0 where
  pub rest : take n items ++ walk LastFirst g.longer g.bounds p seen ≡ traversal LastFirst g.longer g.bounds start
  pub small : (y : ℕ) → Memᴰ y p → y < limit
  pub count : unseen seen limit + n ≡ limit
  pub marked : seen ≡ set_of (take n items)

going_start : (g : Graph) (limit start : ℕ) (items : List ℕ) → start < limit → Going g limit start items 0 (start ∷ []) empty
unfolding traversal insert_all
going_start g limit start items h = record {
  rest = refl;
  small = λ y k. subst (λ (z : ℕ). z < limit) (sym (Memᴰ.eq_of_singleton k)) h;
  count = omega (arith, unseen_empty limit);
  marked = refl;
}

module _ {g : Graph} {limit start : ℕ} (within : Within g limit) {items : List ℕ} {n : ℕ} {p : List ℕ} {seen : ℕ}
    (go : Going g limit start items n p seen) where
  going_done : walk LastFirst g.longer g.bounds p seen ≡ [] → Complete g start items (record { count = n; seen = seen })
  going_done none =
      let all : take n items ≡ traversal LastFirst g.longer g.bounds start =
      sym (append-nil (take n items)) ∙ (rw none at go.rest) in
      record { items = all; seen = go.marked ∙ ap set_of all }

  -- nothing is unseen of what is pending
  pub going_end : skip seen p ≡ [] → Complete g start items (record { count = n; seen = seen })
  going_end e = going_done (skip_end g.longer g.bounds seen p e)

  -- as many are listed as there are
  pub going_full : limit ≤ n → Complete g start items (record { count = n; seen = seen })
  going_full h =
      going_done
      (no_items
      _ (omega (
        arith,
        go.count,
        walks_few LastFirst g.longer g.bounds limit within (walks LastFirst g.longer g.bounds p seen)
            go.small,
      )))

  module _ {x : ℕ} {q : List ℕ} (e : skip seen p ≡ x ∷ q) where
    going_small : x < limit
    going_small = go.small x (skip_in seen p x (rw e (Memᴰ.head refl)))

    going_more : n < length items
        → Going g limit start (set items n x) (n + 1) (reverse_aux (neighbours g.longer g.bounds x) q)
        (insert seen x)
    unfolding insert_all
    going_more h =
        let one : take (n + 1) (set items n x) ≡ take n items ++ (x ∷ []) = rw add-one (take-suc-set items n x h) in
        record {
          rest = rw (one, append_assoc) (rw (skip_step g.longer g.bounds seen p x q e) at go.rest);
          small = λ y k. ⊎_elim
              (λ i. let b = neighbours_only g.longer g.bounds x y i in subst (λ (z : ℕ). z < limit) b.to
              (within b.bound b.among)) (λ i. go.small y (skip_in seen p y (rw e (Memᴰ.tail i))))
              (push_in LastFirst (neighbours g.longer g.bounds x) q k);
          count = omega (arith, go.count, unseen_insert seen x limit going_small (skip_head seen p x q e));
          marked = rw (one, insert_all_append empty (take n items) (x ∷ [])) (ap (λ (s : ℕ). insert s x) go.marked);
        }

-- The stack after a step
pub record Stacked (g : Graph) (stack : List ℕ) (depth : ℕ) (q : List ℕ) : Type 0 where
  pub is : chains g stack depth ≡ q
  pub held : (k : ℕ) → k < depth → get_or stack k 0 ≤ length g.bounds

module _ {g : Graph} (stack : List ℕ) (depth v : ℕ) (few : v ≤ length g.bounds) (held : (k : ℕ) → k < depth
    → get_or stack k 0 ≤ length g.bounds) where
  pub stacked_push : depth < length stack → Stacked g (set stack depth v) (depth + 1) (pending g stack v depth)
  unfolding chains
  stacked_push h = record {
    is = rw (add-one depth, get_or-set_same stack depth v 0 h, chains_kept g stack depth depth v (omega arith));
    held = λ k i. elim (ℕ_discrete k depth) [
      | yes e ↦ rw (e, get_or-set_same stack depth v 0 h) few
      | no e ↦ rw (get_or-set_other stack depth k v 0 e) (held k (omega arith))
    ];
  }

  pub stacked_same : v ≡ 0 → Stacked g stack depth (pending g stack v depth)
  unfolding chain
  stacked_same z = record { is = rw z; held = held }

pub record Walking (g : Graph) (limit start : ℕ) (items stack : List ℕ) (n seen depth at : ℕ) : Type 0 where
  pub going : Going g limit start items n (pending g stack at depth) seen
  pub ready : Ready g stack at depth
  pub deep : depth < n

module _ {g : Graph} {ix : Index} (linked : Indexed g ix) {limit start : ℕ}
    (within : Within g limit) (few : limit ≤ 64) where
  -- the pending entries are those of the new lifetime's chain, and those that the stack holds
  entered : (x : ℕ) → x < limit → (stack : List ℕ) (depth : ℕ) → {items : List ℕ} {n seen : ℕ} {q : List ℕ}
      → Stacked g stack depth q → depth < n → n ≤ limit
      → Going g limit start items n (reverse_aux (neighbours g.longer g.bounds x) q) seen
      → Walking g limit start items stack n seen depth (get_or ix.last x 0)
  entered x small stack depth {n = n} {q} st deep m go =
      let at : get_or ix.last x 0 ≡ last_of g (length g.bounds) x = linked.last x (omega arith) in
      record {
        going = rw (at, st.is, last_pushed g x q) go;
        ready = record { here = rw at (last_le g (length g.bounds) x); deep = omega arith; held = st.held };
        deep = deep;
      }

  pub walking_start : (items stack : List ℕ) → length items ≡ 64 → start < limit
      → Walking g limit start (set items 0 start) stack 1 (insert empty start) 0 (get_or ix.last start 0)
  unfolding skip chains
  walking_start items stack full h =
      entered start h stack 0 (record { is = refl; held = λ k i. absurd (omega arith) }) (omega arith) (omega arith)
      (going_more within (going_start g limit start items h) (fresh start) (omega (arith, full)))
    where
      fresh : (x : ℕ) → skip 0 (x ∷ []) ≡ x ∷ []
      fresh x = rw (member_empty x)

  module _ {items stack : List ℕ} {n seen depth at : ℕ} (inv : Walking g limit start items stack n seen depth at)
      {r : Stepped} (steps : Steps g stack seen at depth r) where
    pub walking_end : r.next ≡ None → Complete g start items (record { count = n; seen = seen })
    walking_end h = going_end within inv.going (rw h at steps.skips)

    module _ {l : Lifetime} (h : r.next ≡ Some l) where
      found : skip seen (pending g stack at depth) ≡ l.0 ∷ pending g stack r.at r.depth
      found = rw h at steps.skips

      pub walking_small : l.0 < limit
      walking_small = going_small within inv.going found

      pub walking_more : n < limit → length items ≡ 64 → {stack' : List ℕ} {depth' : ℕ} → depth' ≤ r.depth + 1
          → Stacked g stack' depth' (pending g stack r.at r.depth)
          → Walking g limit start (set items n l.0) stack' (n + 1) (insert seen l.0) depth' (get_or ix.last l.0 0)
      walking_more m full {stack'} {depth'} d st =
          entered l.0 walking_small stack' depth' st (omega (arith, inv.deep, steps.deep)) (omega arith)
          (going_more within inv.going found (omega arith))

      pub walking_held : (k : ℕ) → k < r.depth → get_or stack k 0 ≤ length g.bounds
      walking_held k i = inv.ready.held k (omega (arith, steps.deep))

-- A turn of `walk`: what it keeps, and what its step yields, are of every graph that the index is of; there is one
module _ {ix : Index} {limit start : ℕ} (limits : Limits ix start limit) where
  within : {g : Graph} → Indexed g ix → Within g limit
  within k b m = omega (arith, k.within b m, limits)

  few : {g : Graph} → Indexed g ix → limit ≤ 64
  few k = omega (arith, k.counted, limits)

  pub turn_first : (items stack : List ℕ) → length items ≡ 64 → {seen : ℕ} → seen ≡ insert empty start
      → (g : Graph) → Indexed g ix → Walking g limit start (set items 0 start) stack 1 seen 0 (get_or ix.last start 0)
  turn_first items stack full marked g k = rw marked (walking_start k (within k) (few k) items stack full limits.0)

  module _ (walkable : (g : Graph) × Indexed g ix) {items stack : List ℕ} {n seen depth at : ℕ}
      (inv : (g : Graph) → Indexed g ix → Walking g limit start items stack n seen depth at) where
    -- as many are listed as there can be
    pub turn_full : n ≡ limit → (g : Graph) → Indexed g ix → Complete g start items (record { count = limit; seen = seen })
    turn_full e g k = rw (← e) (going_full (within k) (inv g k).going (omega arith))

    module _ {r : Stepped} (steps : (g : Graph) → Chained g ix → Ready g stack at depth → Steps g stack seen at depth r) where
      step : {g : Graph} → Indexed g ix → Steps g stack seen at depth r
      step {g} k = steps g k.chained (inv g k).ready

      deep : n < limit → r.depth < 64
      deep h = let (g, k) = walkable in omega (arith, few k, (inv g k).deep, (step k).deep)

      pub turn_small : {l : Lifetime} → r.next ≡ Some l → l.0 < 64
      turn_small h = let (g, k) = walkable in omega (arith, few k, walking_small k (within k) (few k) (inv g k) (step k) h)

      -- nothing is unseen of what is pending
      pub turn_end : r.next ≡ None → (g : Graph) → Indexed g ix → Complete g start items (record { count = n; seen = seen })
      turn_end h g k = walking_end k (within k) (few k) (inv g k) (step k) h

      -- what the next turn has: the new lifetime stands among the items, and the rest of its bound's chain is stacked, or
      -- has ended
      module _ {l : Lifetime} (found : r.next ≡ Some l) (m : n < limit) (full : length items ≡ 64) {y seen' : ℕ}
          (marked : seen' ≡ insert seen y) (is : y ≡ l.0) where
        after : {stack' : List ℕ} {depth' : ℕ} → depth' ≤ r.depth + 1
            → ((g : Graph) → Indexed g ix → Stacked g stack' depth' (pending g stack r.at r.depth))
            → (g : Graph) → Indexed g ix
            → Walking g limit start (set items n y) stack' (n + 1) seen' depth' (get_or ix.last y 0)
        after d st g k =
            rw (marked, is) (walking_more k (within k) (few k) (inv g k) (step k) found m full d (st g k))

        held : {g : Graph} → Indexed g ix → (j : ℕ) → j < r.depth → get_or stack j 0 ≤ length g.bounds
        held {g} k = walking_held k (within k) (few k) (inv g k) (step k) found

        pub turn_pushed : length stack ≡ 64 → (g : Graph) → Indexed g ix
            → Walking g limit start (set items n y) (set stack r.depth r.at) (n + 1) seen' (r.depth + 1) (get_or ix.last y 0)
        turn_pushed size = after (omega arith) (λ g k.
            stacked_push stack r.depth r.at (step k).here (held k) (omega (arith, size, deep m)))

        pub turn_ended : r.at ≡ 0 → (g : Graph) → Indexed g ix
            → Walking g limit start (set items n y) stack (n + 1) seen' r.depth (get_or ix.last y 0)
        turn_ended z = after (omega arith) (λ g k. stacked_same stack r.depth r.at (step k).here (held k) z)
