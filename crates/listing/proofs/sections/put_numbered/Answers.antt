-- `put_numbered` meets its contract: each turn prints one numbered list.
use native.Mathlib.Omega.{arith}
use borrow.Author.Rules.{rules}
use Rattle.listing.proofs.SectionsLaws.{numbering_start, numbering_end, numbering_inside, numbering_more}
use Rattle.text.proofs.PrintLaws.{prints}
use Rattle.listing.proofs.sections.put_numbered.Goals as goal

pub loop-number-init : goal.loop-number-init
loop-number-init c = search (numbering_start, rules)

pub offset_bounds-words-from : goal.offset_bounds-words-from
offset_bounds-words-from c =
    let p = numbering_inside c.loop-number.invariant c.loop-number-test.true in
    omega (arith, p.0, p.1, c.ranges)

pub slice_bounds-put_following-count : goal.slice_bounds-put_following-count
slice_bounds-put_following-count c = (numbering_inside c.loop-number.invariant c.loop-number-test.true).0

pub slice_bounds-put_following-start : goal.slice_bounds-put_following-start
slice_bounds-put_following-start c = (numbering_inside c.loop-number.invariant c.loop-number-test.true).0

pub slice_bounds-put_following-end : goal.slice_bounds-put_following-end
slice_bounds-put_following-end c = (numbering_inside c.loop-number.invariant c.loop-number-test.true).1

pub loop-number-preserved : goal.loop-number-preserved
loop-number-preserved c = numbering_more c.loop-number.invariant c.loop-number-test.true (prints
    (c.put_number-start.ensures.answer, c.put_number-start.ensures.stored))
    (prints (c.put_following-next.ensures.answer, c.put_following-next.ensures.stored))

pub returns : goal.returns
returns c = search (numbering_end, rules)
