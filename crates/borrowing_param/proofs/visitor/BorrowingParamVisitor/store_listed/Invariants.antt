-- `store_listed` meets its contract. The loop's invariant is `Storing` of proofs/EdgesLoops.antt, over the edges that are
-- left.
use Rattle.borrowing_param.specs.BorrowMap.{listed_edges}
use Rattle.borrowing_param.specs.Inner.{SetBelow}
use Rattle.borrowing_param.specs.InnerMap.{param_types, visitor_in}
use Rattle.borrowing_param.proofs.EdgesLoops.{Storing}
use Rattle.borrowing_param.proofs.ListedLaws.{left_listed}
use Rattle.borrowing_param.proofs.visitor.BorrowingParamVisitor.store_listed.Given as goal

abbrev pub invariant-loop-l : goal.invariant-loop-l
invariant-loop-l l = SetBelow l.self.used l.limit × Storing (listed_edges (visitor_in l.self.used l.self.draws) (param_types l.params))
    (left_listed l.self.used l.self.draws (param_types l.params) l.l) 0 l.initial.pairs l.initial.edges l.next l.pairs l.edges
