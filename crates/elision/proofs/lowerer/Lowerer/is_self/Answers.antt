-- `is_self` meets its contract: each way out is one law of proofs/LowererLaws.antt.
use Rattle.elision.proofs.OutcomeLaws.{passed_on}
use Rattle.elision.proofs.LowererLaws.{self_long, self_kept, type_refused, type_given}
use borrow.Author.Rules.{rules}
use Rattle.elision.proofs.lowerer.Lowerer.is_self.Goals as goal

pub returns-then-words-gt-MAX_LIST : goal.returns-then-words-gt-MAX_LIST
returns-then-words-gt-MAX_LIST c = search (self_long, rules)

pub returns-then-self : goal.returns-then-self
returns-then-self c = search (self_kept, rules)

pub returns-in_err-done : goal.returns-in_err-done
returns-in_err-done c = record { answer = passed_on c.from_residual.ensures.1 (search (type_refused, rules)) }

pub returns : goal.returns
returns c = search (type_given, rules)
