-- `put_blanks` meets its contract: each turn stores one blank more, as long as there is room.
use lib.ListN.{replicate}
use Rattle.answers.proofs.Copying.{Copying}
use Rattle.text.specs.Decimal.{space}
use Rattle.text.proofs.print.put_blanks.Given as goal

abbrev pub invariant-loop-i : goal.invariant-loop-i
invariant-loop-i l = Copying (replicate l.count space) l.n l.at l.initial.out l.out l.i
