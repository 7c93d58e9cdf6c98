-- `put_number` meets its contract: one digit, two digits, or more.
use borrow.Author.Rules.{rules}
use Rattle.text.proofs.PrintLaws.{printed, digit_prints, two_print}
use Rattle.text.proofs.print.put_number.Goals as goal

pub returns-then-number-lt10 : goal.returns-then-number-lt10
returns-then-number-lt10 c = let it = printed (digit_prints _ c.if-number-lt10.true c.put.ensures) in
    record { answer = it.0; stored = it.1 }

pub returns-then-number-lt100 : goal.returns-then-number-lt100
returns-then-number-lt100 c = let it = printed
    (two_print _ c.if-number-lt10.false c.if-number-lt100.true (search rules) c.put-next.ensures
    c.put-then-number-lt100.ensures) in
    record { answer = it.0; stored = it.1 }

pub returns : goal.returns
returns c = let it = printed c.put_digits.ensures in
    record { answer = it.0; stored = it.1 }
