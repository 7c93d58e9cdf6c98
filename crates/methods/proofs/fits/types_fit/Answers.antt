-- `types_fit` meets its contract. The loop's invariant is `Fitting` of proofs/FitsLaws.antt.
use mathlib.Core.Path.{refl}
use borrow.Author.Rules.{rules}
use Rattle.methods.proofs.FitsLaws.{fitting_start, fitting_stops, fitting_more, fitting_end}
use Rattle.methods.proofs.fits.types_fit.Goals as goal

pub loop-i-init : goal.loop-i-init
loop-i-init c = search (fitting_start, rules)

pub returns-in_err-at : goal.returns-in_err-at
returns-in_err-at c = rw c.from_residual.ensures
    (fitting_stops c.loop-i.invariant c.loop-i-test.true c.in_err-at.ensures refl)

pub loop-i-preserved : goal.loop-i-preserved
loop-i-preserved c = fitting_more c.loop-i.invariant c.loop-i-test.true c.in_ok-at.ensures refl

pub returns : goal.returns
returns c = search (fitting_end, rules)
