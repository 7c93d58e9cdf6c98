-- `pairs_of` meets its contract. The loop's invariant is `Pairing` of proofs/FieldsLaws.antt.
use Rattle.methods.proofs.FieldsLaws.{Pairing}
use Rattle.methods.proofs.fields.pairs_of.Given as goal

abbrev pub invariant-loop-i : goal.invariant-loop-i
invariant-loop-i l = Pairing l.path l.declared l.pairs l.n l.i
