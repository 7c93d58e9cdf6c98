-- `put_digits` meets its contract: one digit, or the last one behind the others.
use borrow.Author.Rules.{rules}
use Rattle.text.proofs.PrintLaws.{digit_prints, digits_print}
use Rattle.text.proofs.print.+put_digits.Goals as goal

pub returns-then-number-lt10 : goal.returns-then-number-lt10
returns-then-number-lt10 t c = search (digit_prints, rules)

pub returns : goal.returns
returns t c = search (digits_print, rules)
