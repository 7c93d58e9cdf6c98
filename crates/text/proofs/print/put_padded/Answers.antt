-- `put_padded` meets its contract: as many blanks as the digits leave, then the digits.
use native.Mathlib.Omega.{arith}
use borrow.Author.Rules.{rules}
use Rattle.text.proofs.PrintLaws.{prints, printed, digits_measured, padded_prints}
use Rattle.text.proofs.print.put_padded.Goals as goal

pub returns : goal.returns
returns c = let it = printed
    (padded_prints c.args.width c.put_number-count.result c.saturating_sub.result c.args.number (search rules)
    (digits_measured c.args.number (omega (arith, c.ranges.number)) (prints (
      c.put_number-count.ensures.answer,
      c.put_number-count.ensures.stored,
    )))
    c.saturating_sub.ensures c.put_blanks-next.ensures (prints (c.put_number.ensures.answer, c.put_number.ensures.stored))) in
    record { answer = it.0; stored = it.1 }
