-- `store_to` meets its contract. The loop's invariant is `StoringTo` of proofs/ListedLaws.antt; the measure is how many
-- words are to be read.
use native.Mathlib.Omega.{arith}
use Rattle.borrowing_param.proofs.EdgesLaws.{path_few}
use Rattle.borrowing_param.proofs.ListedLaws.{to_start, to_end, to_fits, to_more, to_few}
use Rattle.borrowing_param.proofs.ListedLaws.{passing_missing, passing_next}
use borrow.Author.Rules.{rules}
use Rattle.borrowing_param.proofs.listed.store_to.Goals as goal

pub loop-place-init : goal.loop-place-init
loop-place-init c = search (to_start, rules)

pub returns-in_default : goal.returns-in_default
returns-in_default c = search (passing_missing, rules)

pub store-next-requires : goal.store-next-requires
store-next-requires c = let o = passing_next c.loop-place.invariant.passing c.loop-place-test.true
    c.type_at-found.ensures.answer
    c.in-Some.is in
    record {
      inside = (path_few c.args.params.now c.in-Some.parts.from c.path_words-path.ensures.answer o.few, c.requires.params.1);
      parts_in_bounds = rw c.path_words-path.ensures.answer (to_fits c.loop-place.invariant o);
    }

pub overflow_add-number : goal.overflow_add-number
overflow_add-number c = search (to_few, passing_next, rules)

pub loop-place-smaller : goal.loop-place-smaller
loop-place-smaller c = let o = passing_next c.loop-place.invariant.passing c.loop-place-test.true
    c.type_at-found.ensures.answer
    c.in-Some.is in
    omega (arith, o.past, o.within)

pub loop-place-preserved : goal.loop-place-preserved
loop-place-preserved c = let o = passing_next c.loop-place.invariant.passing c.loop-place-test.true
    c.type_at-found.ensures.answer
    c.in-Some.is in
    to_more c.loop-place.invariant o (rw c.path_words-path.ensures.answer at c.store-next.ensures)

pub returns : goal.returns
returns c = search (to_end, rules)
