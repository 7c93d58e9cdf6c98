-- `extend_bounds` meets its contract: each pair is one step of the run.
use mathlib.Core.Path.{◌≡◌}
use Rattle.ast_lifetimes.specs.Shapes.{pairs_of}
use Rattle.ast_lifetimes.specs.Entries.{fold, push_pair}
use Rattle.ast_lifetimes.specs.Inner.{so_far_of}
use Rattle.ast_lifetimes.proofs.StandsLaws.{Folding}
use Rattle.ast_lifetimes.proofs.env.LifetimeEnv.extend_bounds.Given as goal

abbrev pub invariant-loop-pair : goal.invariant-loop-pair
invariant-loop-pair l = (l.pair-iterator.size ≡ 2)
    × Folding push_pair (fold push_pair (so_far_of l.initial.self) (pairs_of l.words)) (pairs_of l.pair-iterator.rest.now) l.self
