-- `lay` meets its contract: each turn walks from one lifetime more and lays its list behind the others.
use Rattle.lifetimes.specs.Index.{Graph, Indexed}
use Rattle.lifetimes.proofs.ReachLoops.{Laying}
use Rattle.lifetimes.proofs.index.Index.lay.Given as goal

abbrev pub invariant-loop-x : goal.invariant-loop-x
invariant-loop-x l = (g : Graph) → Indexed g l.self
    → Laying g l.self.count l.initial.words l.initial.ends l.initial.reach l.words l.ends l.reach l.x l.at
