-- `store_struct` meets its contract. The loop's invariant is `Storing` of proofs/EdgesLoops.antt, over the edges that are
-- left.
use Rattle.borrowing_param.specs.Brings.{struct_edges}
use mathlib.Core.List.{map}
use Rattle.lifetimes.specs.LoweredWords.{from_word}
use Rattle.borrowing_param.specs.Visit.{draws_in}
use Rattle.borrowing_param.proofs.EdgesLoops.{Storing}
use Rattle.borrowing_param.proofs.EdgesLoops.{left_edges}
use Rattle.borrowing_param.proofs.edges.Param.store_struct.Given as goal

abbrev pub invariant-loop-def : goal.invariant-loop-def
invariant-loop-def l = Storing (struct_edges (draws_in l.set) l.used l.self.number l.option 0 (map from_word l.self.path.now))
    (left_edges (draws_in l.set) l.used l.self.number l.option l.self.path.now l.def) l.at l.initial.pairs l.initial.edges l.next l.pairs l.edges
