-- `row_place` meets its contract. The loop's invariant is `Placing` of proofs/FieldsLaws.antt.
use Rattle.methods.proofs.FieldsLaws.{Placing}
use Rattle.methods.proofs.fields.row_place.Given as goal

abbrev pub invariant-loop-number : goal.invariant-loop-number
invariant-loop-number l = Placing l.structs l.row l.at l._number
