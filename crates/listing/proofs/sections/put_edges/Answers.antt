-- `put_edges` meets its contract: the heading, then a line for each edge.
use Rattle.listing.specs.Listing.{edge_heading}
use Rattle.text.proofs.PrintLaws.{prints, prints_more}
use borrow.Author.Rules.{rules}
use Rattle.listing.proofs.sections.put_edges.Goals as goal

pub returns : goal.returns
returns c = prints_more {s = edge_heading} (search rules) (prints (
  c.put_text-next.ensures.answer,
  c.put_text-next.ensures.stored,
))
    c.put_each_edge.ensures
