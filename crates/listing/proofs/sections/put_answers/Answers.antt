-- `put_answers` meets its contract: the heading, then a line for each parameter.
use Rattle.listing.specs.Listing.{answer_heading}
use Rattle.text.proofs.PrintLaws.{prints, prints_more}
use borrow.Author.Rules.{rules}
use Rattle.listing.proofs.sections.put_answers.Goals as goal

pub returns : goal.returns
returns c = prints_more {s = answer_heading} (search rules) (prints (
  c.put_text-next.ensures.answer,
  c.put_text-next.ensures.stored,
))
    c.put_each_answer.ensures
