-- `walk` meets its contract: each turn lists the next unseen lifetime.
use mathlib.Core.Path.{◌≡◌}
use lib.ListN.{length}
use Rattle.lifetimes.specs.Index.{Graph, Indexed}
use Rattle.lifetimes.proofs.WalkLoops.{Walking}
use Rattle.lifetimes.proofs.index.Index.walk.Given as goal

abbrev pub invariant-loop-count : goal.invariant-loop-count
invariant-loop-count l = (length l.stack ≡ 64)
    × ((g : Graph) → Indexed g l.self → Walking g l.limit l.start l.items l.stack l.count l.seen l.depth l.at)
