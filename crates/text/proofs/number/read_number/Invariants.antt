-- `read_number` meets its contract: each test is one of the definition's, and each turn of the loop takes one digit
-- more.
use Rattle.text.proofs.NumberLaws.{Numbering}
use Rattle.text.proofs.number.read_number.Given as goal

abbrev pub invariant-loop-at : goal.invariant-loop-at
invariant-loop-at l = Numbering l.limit l.bytes l.from l.value l.at
