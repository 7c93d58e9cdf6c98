-- `measure` meets its contract: each turn walks from one lifetime more.
use Prim.Native.Nat.{◌*◌, ◌≤◌}
use Rattle.lifetimes.specs.Index.{Graph, Indexed}
use Rattle.lifetimes.proofs.ReachLoops.{Measuring}
use Rattle.lifetimes.proofs.index.Index.measure.Given as goal

abbrev pub invariant-loop-x : goal.invariant-loop-x
invariant-loop-x l = (l.total ≤ 64 * l.x)
    × ((g : Graph) → Indexed g l.self → Measuring g l.self.count l.initial.reach l.reach l.x l.total)
