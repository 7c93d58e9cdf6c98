-- `index_rows` meets its contract. The loop's invariant is `Indexing` of proofs/RowLaws.antt.
use Rattle.methods.proofs.RowLaws.{Indexing}
use Rattle.methods.proofs.fits.index_rows.Given as goal

abbrev pub invariant-loop-number : goal.invariant-loop-number
invariant-loop-number l = Indexing l.structs l.lifetimes l.at l.number
