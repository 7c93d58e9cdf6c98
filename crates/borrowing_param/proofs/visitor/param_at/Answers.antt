-- `param_at` meets its contract. The loop's invariant is `Finding` of proofs/VisitorLaws.antt.
use Rattle.borrowing_param.proofs.VisitorLaws.{finding_start, finding_end, finding_missing, finding_more}
use borrow.Author.Rules.{rules}
use Rattle.borrowing_param.proofs.visitor.param_at.Goals as goal

pub loop-passed-init : goal.loop-passed-init
loop-passed-init c = search (finding_start, rules)

pub returns-in_err-at : goal.returns-in_err-at
returns-in_err-at c = rw c.from_residual.ensures
    (finding_missing c.loop-passed.invariant c.loop-passed-test.true c.type_at.ensures.answer c.in_err-at.was)

pub loop-passed-preserved : goal.loop-passed-preserved
loop-passed-preserved c = finding_more c.loop-passed.invariant c.loop-passed-test.true c.type_at.ensures.answer
    c.in_ok-at.was

pub returns : goal.returns
returns c = search (finding_end, rules)
