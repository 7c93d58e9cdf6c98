-- `put_line` meets its contract: a line's end, or the first number and what follows it.
use mathlib.Core.Path.{sym, ◌∙◌}
use borrow.Author.Rules.{rules}
use borrow.Author.Tests.{eqb-true, eqb-false}
use Rattle.text.proofs.PrintLaws.{prints, printed, line_end, line_prints}
use Rattle.text.proofs.print.put_line.Goals as goal

pub returns-then-is_empty : goal.returns-then-is_empty
returns-then-is_empty c =
    let it = printed (line_end c.args.words.now (eqb-true _ _ (sym c.is_empty.ensures ∙ c.if-is_empty.true)) c.put.ensures) in
    record { answer = it.0; stored = it.1 }

pub returns : goal.returns
returns c = let it = printed
    (line_prints c.args.words.now (eqb-false _ _ (sym c.is_empty.ensures ∙ c.if-is_empty.false)) (search rules) (prints (
      c.put_number-next.ensures.answer,
      c.put_number-next.ensures.stored,
    ))
    (prints (c.put_following.ensures.answer, c.put_following.ensures.stored))) in
    record { answer = it.0; stored = it.1 }
