-- `advance` meets its contract: each turn passes over an entry that was seen, or takes the stack's last chain.
use Prim.Native.Nat.{◌+◌, ◌*◌}
use Rattle.lifetimes.specs.Index.{Graph, Chained, Ready}
use Rattle.lifetimes.proofs.AdvanceLoops.{Skipping}
use Rattle.lifetimes.proofs.index.Index.advance.Given as goal

abbrev pub invariant-pending : goal.invariant-pending
invariant-pending l = (g : Graph) → Chained g l.self
    → Ready g l.stack l.from l.deep → Skipping g l.stack l.seen l.from l.deep l.at l.depth

abbrev pub decreases-pending : goal.decreases-pending
decreases-pending l = 257 * l.depth + l.at
