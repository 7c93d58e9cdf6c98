-- `from_sets` meets its contract. The loop's invariant is `Keeping` of proofs/NewLaws.antt.
use Rattle.borrowing_param.specs.Inner.{SetBelow}
use Rattle.borrowing_param.proofs.NewLaws.{Keeping}
use Rattle.borrowing_param.proofs.visitor.BorrowingParamVisitor.from_sets.Given as goal

abbrev pub invariant-loop-l : goal.invariant-loop-l
invariant-loop-l l = SetBelow l.used l.limit × Keeping l.used l.sets l.draws l.l
