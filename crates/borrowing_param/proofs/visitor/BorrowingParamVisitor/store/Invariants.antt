-- `store` meets its contract. The loop's invariant is `Storing` of proofs/EdgesLoops.antt, over the edges that are left.
use Rattle.borrowing_param.specs.Inner.{typed, SetBelow, all_in}
use Rattle.borrowing_param.proofs.EdgesLoops.{Storing}
use Rattle.borrowing_param.proofs.EdgesLoops.{left_all}
use Rattle.borrowing_param.proofs.visitor.BorrowingParamVisitor.store.Given as goal

abbrev pub invariant-loop-l : goal.invariant-loop-l
invariant-loop-l l = SetBelow l.self.used l.limit
    × Storing (all_in l.self.used l.self.draws (typed l.param.parts l.param.path.now) l.param.number)
    (left_all l.self.used l.self.draws (typed l.param.parts l.param.path.now) l.param.number l.l)
    l.at l.initial.pairs l.initial.edges l.next l.pairs l.edges
