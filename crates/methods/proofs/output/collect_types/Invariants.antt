-- `collect_types` meets its contract. The loop's invariant is `Collecting` of proofs/OutputLaws.antt.
use Rattle.methods.proofs.OutputLaws.{Collecting}
use Rattle.methods.proofs.output.collect_types.Given as goal

abbrev pub invariant-loop-i : goal.invariant-loop-i
invariant-loop-i l = Collecting l.words l.types l.count l.at l.used l._i
