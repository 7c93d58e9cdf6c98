-- `ascend` meets its contract: each turn looks at one end more.
use Rattle.sheet_writer.proofs.LaidLaws.{ascending_not, ascending_more, ascending_end}
use Rattle.sheet_writer.proofs.laid.ascend.Goals as goal

pub returns-then-end-from : goal.returns-then-end-from
returns-then-end-from c = ascending_not c.loop-end.invariant c.loop-end-test.true c.if-end-from.true

pub loop-end-preserved : goal.loop-end-preserved
loop-end-preserved c = ascending_more c.loop-end.invariant c.loop-end-test.true c.if-end-from.false

pub returns : goal.returns
returns c = ascending_end c.loop-end.invariant c.loop-end-test.false
