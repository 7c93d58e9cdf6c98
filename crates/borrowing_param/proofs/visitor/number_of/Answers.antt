-- `number_of` meets its contract: its three answers are laws of proofs/VisitorLaws.antt.
use Rattle.borrowing_param.proofs.VisitorLaws.{number_plain, number_struct, number_facts}
use borrow.Author.Rules.{rules}
use Rattle.borrowing_param.proofs.visitor.number_of.Goals as goal

pub returns-then-code-eq-PLAIN : goal.returns-then-code-eq-PLAIN
returns-then-code-eq-PLAIN c = search (number_plain, rules)

pub returns-then-code-eq-STRUCT : goal.returns-then-code-eq-STRUCT
returns-then-code-eq-STRUCT c = search (number_struct, rules)

pub returns : goal.returns
returns c = search (number_facts, rules)
