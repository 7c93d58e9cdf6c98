-- `index_rows` meets its contract. The loop's invariant is `Indexing` of proofs/RowLaws.antt.
use native.Mathlib.Omega.{arith}
use borrow.Author.Rules.{rules}
use Rattle.answers.specs.declared.Refusal.TheVariants.{Mismatch}
use Rattle.hir_types.proofs.QuestionLaws.{handed_on, was_some, was_none}
use Rattle.methods.proofs.RowLaws.{indexing_start, row_here, indexing_full, indexing_stops}
use Rattle.methods.proofs.RowLaws.{indexing_more, indexing_end}
use Rattle.methods.proofs.fits.index_rows.Goals as goal

pub loop-number-init : goal.loop-number-init
loop-number-init c = search (indexing_start, rules)

pub returns-then-number-ge-MAX_ROWS : goal.returns-then-number-ge-MAX_ROWS
returns-then-number-ge-MAX_ROWS c = indexing_full c.loop-number.invariant c.requires.1 c.loop-number-test.true
    c.if-number-ge-MAX_ROWS.true

pub offset_bounds-structs-at : goal.offset_bounds-structs-at
offset_bounds-structs-at c =
    omega (arith, row_here c.loop-number.invariant c.requires.1 c.loop-number-test.true)

pub bounds-structs-at : goal.bounds-structs-at
bounds-structs-at c = omega (arith, row_here c.loop-number.invariant c.requires.1 c.loop-number-test.true)

pub overflow_add-at-in-loop-number : goal.overflow_add-at-in-loop-number
overflow_add-at-in-loop-number c =
    omega (arith, row_here c.loop-number.invariant c.requires.1 c.loop-number-test.true)

pub offset_bounds-structs-at-in-loop-number : goal.offset_bounds-structs-at-in-loop-number
offset_bounds-structs-at-in-loop-number c =
    omega (arith, row_here c.loop-number.invariant c.requires.1 c.loop-number-test.true)

pub bounds-structs-at-in-loop-number : goal.bounds-structs-at-in-loop-number
bounds-structs-at-in-loop-number c =
    omega (arith, row_here c.loop-number.invariant c.requires.1 c.loop-number-test.true)

pub overflow_add-at : goal.overflow_add-at
overflow_add-at c = omega (arith, row_here c.loop-number.invariant c.requires.1 c.loop-number-test.true)

pub types_fit-requires : goal.types_fit-requires
types_fit-requires c = omega (arith, row_here c.loop-number.invariant c.requires.1 c.loop-number-test.true)

pub returns-in_err-at : goal.returns-in_err-at
returns-in_err-at c = let none = was_none c.types_fit.result Mismatch c.in_err-at.ensures.value in
    rw (handed_on c.from_residual.ensures.1, none.1)
    (indexing_stops c.loop-number.invariant c.requires.1 c.loop-number-test.true
    c.if-number-ge-MAX_ROWS.false c.types_fit.ensures none.0)

pub loop-number-preserved : goal.loop-number-preserved
loop-number-preserved c =
    indexing_more c.loop-number.invariant c.requires.1 c.loop-number-test.true c.if-number-ge-MAX_ROWS.false
    c.types_fit.ensures (was_some c.types_fit.result Mismatch c.in_ok-at.ensures.value)

pub returns : goal.returns
returns c = indexing_end c.loop-number.invariant c.requires.1 c.loop-number-test.false
