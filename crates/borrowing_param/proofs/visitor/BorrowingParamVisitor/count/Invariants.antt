-- `count` meets its contract. The loop's invariant is `CountingAll` of proofs/EdgesLoops.antt.
use Rattle.borrowing_param.specs.Inner.{typed, SetBelow}
use Rattle.borrowing_param.proofs.EdgesLoops.{CountingAll}
use Rattle.borrowing_param.proofs.visitor.BorrowingParamVisitor.count.Given as goal

abbrev pub invariant-loop-l : goal.invariant-loop-l
invariant-loop-l l = SetBelow l.self.used l.limit × CountingAll l.self.used l.self.draws (typed l.param.parts l.param.path.now) l.n l.l
