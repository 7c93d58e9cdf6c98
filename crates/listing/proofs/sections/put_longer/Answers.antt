-- `put_longer` meets its contract: the heading, then a line for each lifetime.
use Rattle.listing.specs.Listing.{longer_heading}
use Rattle.text.proofs.PrintLaws.{prints, prints_more}
use borrow.Author.Rules.{rules}
use Rattle.listing.proofs.sections.put_longer.Goals as goal

pub returns : goal.returns
returns c = prints_more {s = longer_heading} (search rules) (prints (
  c.put_text-next.ensures.answer,
  c.put_text-next.ensures.stored,
))
    c.put_numbered.ensures
