-- The main theorems, proved: for each statement of specs/Theorems.antt a term of exactly its type.
use Prim.Native.Nat.{ℕ, ◌≤◌}
use mathlib.Core.Path.{refl}
use native.Mathlib.Nat.{le_refl, le_trans}
use native.Mathlib.Omega.{arith}
use lib.IntN.{ℤ, pos}
use lib.Signed.{◌≤ℤ◌, ≤ℤ_refl}
use Rattle.answers.specs.Lists.{all, filter, count}
use Rattle.answers.specs.Refusals.{unless}
use Rattle.lifetimes.specs.Sets.{member, insert}
use Rattle.lifetimes.specs.Bounds.{bounds_from}
use Rattle.lifetimes.specs.Env.{env_of}
use Rattle.lifetimes.specs.Walk.{LastFirst, neighbours, unpushed, walk_for, walk, traversal, FirstFirst}
use Rattle.lifetimes.specs.Reach.{reach_list, reach_set, depth_first, list_from}
use Rattle.lifetimes.specs.Theorems.{TraversalOrder, ReachIsOutlives, OutlivesIsForced}
use Rattle.lifetimes.specs.Theorems.{LinkedByPlace, ExamplesHold}
use Rattle.lifetimes.proofs.SetLaws.{set_of_has}
use Rattle.lifetimes.proofs.LinkedLaws.{word_there, word_past, pairs_there, pair_past, word_unlike, pair_unlike}
use Rattle.lifetimes.proofs.IntegerLaws.{≤ℤ-trans, zero_one, not_one_zero}
use Rattle.lifetimes.proofs.WalkLaws.{walk_nil, walk_seen, walk_new, pending_few}
use Rattle.lifetimes.proofs.ReachLaws.{outlives_forces, forced_outlives, traversal_lists}

pub traversal_order : TraversalOrder
unfolding traversal
traversal_order o d bs = record {
  starts = λ k. refl;
  ends = walk_nil o d bs;
  passes_over = walk_seen o d bs;
  lists = walk_new o d bs;
  few_pending = λ k p s r. pending_few o d bs r;
}

pub reach_is_outlives : ReachIsOutlives
unfolding reach_set reach_list depth_first
reach_is_outlives d e none k h = record {
  list = traversal_lists d e none k h LastFirst;
  set = set_of_has (reach_list d e k);
  depth_first_lem = traversal_lists d e none k h FirstFirst;
}

pub outlives_is_forced : OutlivesIsForced
outlives_is_forced bs a b = (
  (
    outlives_forces ℕ ◌≤◌ le_refl (λ x y z p q. le_trans p q) 0 1 (omega arith) (λ h. omega arith) bs,
    forced_outlives ℕ ◌≤◌ le_refl (λ x y z p q. le_trans p q) 0 1 (omega arith) (λ h. omega arith) bs a b,
  ),
  (
    outlives_forces ℤ ◌≤ℤ◌ ≤ℤ_refl ≤ℤ-trans (pos 0) (pos 1) zero_one not_one_zero bs,
    forced_outlives ℤ ◌≤ℤ◌ ≤ℤ_refl ≤ℤ-trans (pos 0) (pos 1) zero_one not_one_zero bs a b,
  ),
)

pub linked_by_place : LinkedByPlace
linked_by_place words count = (
  λ same. record {
    word = word_there words count same;
    no_word = word_past words count same;
    pairs = pairs_there words count same;
    no_pair = pair_past words count same;
  },
  λ other j. (word_unlike words count other j, pair_unlike words count other j),
)

pub examples_hold : ExamplesHold
unfolding list_from reach_list depth_first unless all filter count env_of bounds_from traversal walk walk_for unpushed neighbours member insert
examples_hold = (refl, (refl, (refl, (refl, (refl, tt)))))
