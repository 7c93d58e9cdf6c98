-- `count_params` meets its contract. The loop's invariant is `CountingParams` of proofs/ListedLaws.antt; the measure is
-- how many words are to be read.
use native.Mathlib.Omega.{arith}
use Rattle.hir_types.proofs.LocatedLaws.{type_coded}
use Rattle.hir_types.proofs.FoundLaws.{code_told}
use Rattle.borrowing_param.proofs.EdgesLaws.{path_few}
use Rattle.borrowing_param.proofs.ListedLaws.{params_start, params_end, params_more, one_more}
use Rattle.borrowing_param.proofs.ListedLaws.{brought_few, passing_missing, passing_next}
use borrow.Author.Rules.{rules}
use Rattle.borrowing_param.proofs.visitor.BorrowingParamVisitor.count_params.Goals as goal

pub loop-at-init : goal.loop-at-init
loop-at-init c = search (params_start, rules)

pub returns-in_default : goal.returns-in_default
returns-in_default c = search (passing_missing, rules)

pub count-brought-requires : goal.count-brought-requires
count-brought-requires c = let o = passing_next c.loop-at.invariant.passing
    c.loop-at-test.true c.type_at-found.ensures.answer
    c.in-Some.is in
    path_few c.args.params.now c.in-Some.parts.from c.path_words-path.ensures.answer o.few

pub number_of-requires : goal.number_of-requires
number_of-requires c = search (code_told, type_coded, rules)

pub offset_bounds-numbers-counted : goal.offset_bounds-numbers-counted
offset_bounds-numbers-counted c = search (one_more, passing_next, rules)

pub bounds-numbers-counted : goal.bounds-numbers-counted
bounds-numbers-counted c = let o = passing_next c.loop-at.invariant.passing
    c.loop-at-test.true
    c.type_at-found.ensures.answer c.in-Some.is in
    one_more c.loop-at.invariant o

pub overflow_add-counted : goal.overflow_add-counted
overflow_add-counted c = let o = passing_next c.loop-at.invariant.passing
    c.loop-at-test.true
    c.type_at-found.ensures.answer c.in-Some.is in
    omega (
      arith,
      one_more c.loop-at.invariant o,
      c.loop-at.invariant.small,
      brought_few c.loop-at.invariant o
          (rw c.path_words-path.ensures.answer at c.count-brought.ensures),
    )

pub overflow_add-counted-in-loop-at : goal.overflow_add-counted-in-loop-at
overflow_add-counted-in-loop-at c = search (one_more, passing_next, rules)

pub loop-at-smaller : goal.loop-at-smaller
loop-at-smaller c = let o = passing_next c.loop-at.invariant.passing
    c.loop-at-test.true
    c.type_at-found.ensures.answer c.in-Some.is in
    omega (arith, o.past, o.within)

pub loop-at-preserved : goal.loop-at-preserved
loop-at-preserved c = let o = passing_next c.loop-at.invariant.passing
    c.loop-at-test.true
    c.type_at-found.ensures.answer c.in-Some.is in
    params_more c.loop-at.invariant o (rw c.path_words-path.ensures.answer at c.count-brought.ensures)
    c.number_of.ensures

pub returns : goal.returns
returns c = params_end c.loop-at.invariant c.loop-at-test.false
