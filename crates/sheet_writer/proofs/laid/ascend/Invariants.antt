-- `ascend` meets its contract: each turn looks at one end more.
use Rattle.sheet_writer.proofs.LaidLaws.{Ascending}
use Rattle.sheet_writer.proofs.laid.ascend.Given as goal

abbrev pub invariant-loop-end : goal.invariant-loop-end
invariant-loop-end l = Ascending l.count l.ends l.from l.end-index
