-- `put_headed` meets its contract: the heading, then the line.
use Rattle.text.proofs.PrintLaws.{prints, prints_more}
use borrow.Author.Rules.{rules}
use Rattle.listing.proofs.sections.put_headed.Goals as goal

pub returns : goal.returns
returns c = prints_more {s = c.args.heading.now} (search rules) (prints (
  c.put_text-next.ensures.answer,
  c.put_text-next.ensures.stored,
))
    (prints (c.put_line.ensures.answer, c.put_line.ensures.stored))
