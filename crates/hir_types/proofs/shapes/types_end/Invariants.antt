-- `types_end` meets its contract. The loop's invariant is `Ending` of proofs/EndLaws.antt.
use Rattle.hir_types.proofs.EndLaws.{Ending}
use Rattle.hir_types.proofs.shapes.types_end.Given as goal

abbrev pub invariant-loop-i : goal.invariant-loop-i
invariant-loop-i l = Ending l.words l.rows l.count l.from l.at l._i
