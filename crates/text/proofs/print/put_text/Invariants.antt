-- `put_text` meets its contract: each turn stores one byte more, as long as there is room.
use Rattle.answers.proofs.Copying.{Copying}
use Rattle.text.proofs.print.put_text.Given as goal

abbrev pub invariant-loop-i : goal.invariant-loop-i
invariant-loop-i l = Copying l.text l.n l.at l.initial.out l.out l.i
