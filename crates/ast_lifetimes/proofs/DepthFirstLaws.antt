-- Depth first by plain recursion is the walk that takes the first of a pushed list first: what is listed, with anything
-- pending behind it, is a walk; and something is listed.
use Prim.Native.Nat.{ℕ, zero, suc, ◌+◌, ◌≤◌}
use mathlib.Core.Bool.{Bool, true, false}
use mathlib.Core.Path.{◌≡◌, refl, sym, ◌∙◌}
use mathlib.Core.List.{List, [], ◌∷◌, ◌++◌, append-nil, append_assoc}
use native.Mathlib.Omega.{arith}
use lib.ListN.{length}
use Rattle.lifetimes.specs.declared.bounds.Bound.{Bound}
use Rattle.lifetimes.specs.Sets.{empty, member, insert}
use Rattle.lifetimes.specs.Walk.{neighbours, FirstFirst, unpushed, traversal}
use Rattle.lifetimes.proofs.NeighbourLaws.{push_unpushed}
use Rattle.lifetimes.proofs.WalkLaws.{Walks, ends, walks, walks_same}
use Rattle.lifetimes.proofs.WalkLaws as walking
use Rattle.ast_lifetimes.specs.DepthFirst.{ListsDepthFirst, none, passes, lists}

module _ (d : Bool) (bs : List Bound) where
  -- with anything pending behind it
  listed_walks : {s t : ℕ} {l m p n : List ℕ} → ListsDepthFirst d bs s l m t → Walks FirstFirst d bs p t n
      → Walks FirstFirst d bs (l ++ p) s (m ++ n)
  listed_walks none w = w
  listed_walks (passes h f) w = walking.passes h (listed_walks f w)
  listed_walks {p = p} {n = n} (lists {others = others} {l} {m} h f g) w =
      walking.lists {p = others ++ p} {l = (l ++ m) ++ n} h (rw (append_assoc l m n) (listed_walks f (listed_walks g w)))

  -- what can still be pushed is not more afterwards
  fewer : (s x : ℕ) → member s x ≡ false → length (neighbours d bs x) + unpushed d bs (insert s x) ≡ unpushed d bs s
  fewer s x h = omega (arith, rw (append-nil (neighbours d bs x)) at (push_unpushed FirstFirst d bs [] s x h))

  listed_fewer : {s t : ℕ} {l m : List ℕ} → ListsDepthFirst d bs s l m t → unpushed d bs t ≤ unpushed d bs s
  listed_fewer none = omega arith
  listed_fewer (passes h f) = listed_fewer f
  listed_fewer (lists {seen} {x} h f g) = omega (arith, listed_fewer f, listed_fewer g, fewer seen x h)

  -- something is listed
  pub record Found (s : ℕ) (l : List ℕ) : Type 0 where
    pub list : List ℕ
    pub seen : ℕ
    pub finds : ListsDepthFirst d bs s l list seen

  find : (fuel s : ℕ) (l : List ℕ) → length l + unpushed d bs s ≤ fuel → Found s l
  find zero s [] h = record { list = []; seen = s; finds = none }
  find zero s (x ∷ l) h = absurd (omega arith)
  find (suc fuel) s [] h = record { list = []; seen = s; finds = none }
  find (suc fuel) s (x ∷ l) h =
      go (member s x) refl (find fuel s l (omega arith))
      (λ e. find fuel (insert s x) (neighbours d bs x) (omega (arith, fewer s x e)))
      (λ e f. find fuel f.seen l (omega (arith, fewer s x e, listed_fewer f.finds)))
    where
      go : (t : Bool) → member s x ≡ t → Found s l → (member s x ≡ false → Found (insert s x) (neighbours d bs x))
          → (member s x ≡ false → (f : Found (insert s x) (neighbours d bs x)) → Found f.seen l)
          → Found s (x ∷ l)
      go true e f g h = record { list = f.list; seen = f.seen; finds = passes e f.finds }
      go false e f g h = let a = g e in let b = h e a in
          record { list = x ∷ (a.list ++ b.list); seen = b.seen; finds = lists e a.finds b.finds }

  pub found_only : {k s : ℕ} {l : List ℕ} → ListsDepthFirst d bs empty (k ∷ []) l s → l ≡ traversal FirstFirst d bs k
  unfolding traversal
  found_only {k} {s} {l} f =
      sym (append-nil l) ∙ walks_same FirstFirst d bs (listed_walks f ends) (walks FirstFirst d bs (k ∷ []) empty)

  pub found : (k : ℕ) → (seen : ℕ) × ListsDepthFirst d bs empty (k ∷ []) (traversal FirstFirst d bs k) seen
  found k =
      let f = find (1 + unpushed d bs empty) empty (k ∷ []) (omega arith) in
      (f.seen, rw (found_only f.finds) at f.finds)
