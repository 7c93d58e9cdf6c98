-- `put_each_answer` meets its contract: each turn prints one parameter.
use borrow.Author.Rules.{rules}
use Rattle.listing.proofs.SectionsLaws.{answering_end, answering_more}
use Rattle.text.proofs.PrintLaws.{prints}
use Rattle.listing.proofs.sections.put_each_answer.Goals as goal

pub loop-param-preserved : goal.loop-param-preserved
loop-param-preserved c = answering_more c.loop-param.invariant c.loop-param-test.true (prints
    (c.put_line-next.ensures.answer, c.put_line-next.ensures.stored))

pub returns : goal.returns
returns c = search (answering_end, rules)
