-- `types_fit` meets its contract. The loop's invariant is `Fitting` of proofs/FitsLaws.antt.
use Rattle.methods.proofs.FitsLaws.{Fitting}
use Rattle.methods.proofs.fits.types_fit.Given as goal

abbrev pub invariant-loop-i : goal.invariant-loop-i
invariant-loop-i l = Fitting l.words l.from l.count l.lifetimes l.at l._i
