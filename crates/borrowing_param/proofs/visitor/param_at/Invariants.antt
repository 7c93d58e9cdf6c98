-- `param_at` meets its contract. The loop's invariant is `Finding` of proofs/VisitorLaws.antt.
use Rattle.borrowing_param.proofs.VisitorLaws.{Finding}
use Rattle.borrowing_param.proofs.visitor.param_at.Given as goal

abbrev pub invariant-loop-passed : goal.invariant-loop-passed
invariant-loop-passed l = Finding l.params l.param l.at l._passed
