-- `row_place` meets its contract. The loop's invariant is `Placing` of proofs/FieldsLaws.antt.
use borrow.Author.Rules.{rules}
use native.Mathlib.Omega.{arith}
use Rattle.methods.proofs.FieldsLaws.{placing_start, placing_here, placing_lost, placing_more, placing_end}
use Rattle.methods.proofs.fields.row_place.Goals as goal

pub loop-number-init : goal.loop-number-init
loop-number-init c = search (placing_start, rules)

pub offset_bounds-structs-at : goal.offset_bounds-structs-at
offset_bounds-structs-at c = search (placing_here, rules)

pub bounds-structs-at : goal.bounds-structs-at
bounds-structs-at c = search (placing_here, rules)

pub overflow_add-at-in-loop-number : goal.overflow_add-at-in-loop-number
overflow_add-at-in-loop-number c = omega (arith, placing_here c.loop-number.invariant c.requires.1)

pub overflow_add-at : goal.overflow_add-at
overflow_add-at c = omega (arith, placing_here c.loop-number.invariant c.requires.1)

pub returns-in_err-at : goal.returns-in_err-at
returns-in_err-at c = rw c.from_residual.ensures (placing_lost c.loop-number.invariant c.requires.1 c.in_err-at.ensures)

pub loop-number-preserved : goal.loop-number-preserved
loop-number-preserved c = placing_more c.loop-number.invariant c.requires.1 c.loop-number-test.true c.in_ok-at.ensures

pub returns : goal.returns
returns c = search (placing_end, rules)
