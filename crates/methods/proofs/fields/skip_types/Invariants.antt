-- `skip_types` meets its contract. The loop's invariant is `Skips` of proofs/FieldsLaws.antt.
use Rattle.methods.proofs.FieldsLaws.{Skips}
use Rattle.methods.proofs.fields.skip_types.Given as goal

abbrev pub invariant-loop-i : goal.invariant-loop-i
invariant-loop-i l = Skips l.words l.from l.count l.at l._i
