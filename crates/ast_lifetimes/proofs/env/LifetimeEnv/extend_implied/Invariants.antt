-- `extend_implied` meets its contract: each turn reads what stands in front of the types that are left.
use Prim.Native.Nat.{◌-◌}
use lib.ListN.{length}
use Rattle.ast_lifetimes.specs.Entries.{all_paths, fold, step}
use Rattle.ast_lifetimes.specs.Inner.{so_far_of}
use Rattle.ast_lifetimes.proofs.ImpliedLaws.{Implying}
use Rattle.ast_lifetimes.proofs.env.LifetimeEnv.extend_implied.Given as goal

abbrev pub invariant-words : goal.invariant-words
invariant-words l = Implying (fold step (so_far_of l.initial.self) (all_paths l.types)) l.types l.self l.reach.sets
    l.behind l.at

abbrev pub decreases-words : goal.decreases-words
decreases-words l = length l.types - l.at
