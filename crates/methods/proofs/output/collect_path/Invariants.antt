-- `collect_path` meets its contract. The loop's invariant is `Pathing` of proofs/OutputLaws.antt.
use Rattle.methods.proofs.OutputLaws.{Pathing}
use Rattle.methods.proofs.output.collect_path.Given as goal

abbrev pub invariant-loop-word : goal.invariant-loop-word
invariant-loop-word l = Pathing l.path l.count l.before l.used l.word-index
