-- `put` meets its contract: past the end the byte goes nowhere.
use borrow.Author.Rules.{rules}
use Rattle.text.proofs.PrintLaws.{byte_inside, byte_outside}
use Rattle.text.proofs.print.put.Goals as goal

pub returns-then-at-out : goal.returns-then-at-out
returns-then-at-out c = search (byte_inside, rules)

pub returns : goal.returns
returns c = search (byte_outside, rules)
