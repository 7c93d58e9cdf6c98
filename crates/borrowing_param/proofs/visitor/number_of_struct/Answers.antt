-- `number_of_struct` meets its contract.
use borrow.Author.Tests.{eq-eqb, ne_eqb}
use Rattle.borrowing_param.proofs.visitor.number_of_struct.Goals as goal

pub returns-then-brought-eq0 : goal.returns-then-brought-eq0
returns-then-brought-eq0 c = rw (eq-eqb _ _ c.if-brought-eq0.true)

pub returns : goal.returns
returns c = rw (ne_eqb _ _ c.if-brought-eq0.false)
