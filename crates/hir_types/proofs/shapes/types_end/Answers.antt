-- `types_end` meets its contract. The loop's invariant is `Ending` of proofs/EndLaws.antt.
use borrow.Author.Rules.{rules}
use Rattle.hir_types.proofs.EndLaws.{ending_missing, ending_more, ending_end}
use Rattle.hir_types.proofs.shapes.types_end.Goals as goal

pub returns-in_err-at : goal.returns-in_err-at
returns-in_err-at c = rw c.from_residual.ensures (ending_missing c.loop-i.invariant c.loop-i-test.true c.in_err-at.ensures)

pub loop-i-preserved : goal.loop-i-preserved
loop-i-preserved c = ending_more c.loop-i.invariant c.loop-i-test.true c.in_ok-at.ensures

pub returns : goal.returns
returns c = search (ending_end, rules)
