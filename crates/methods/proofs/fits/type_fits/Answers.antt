-- `type_fits` meets its contract: each way out is one law of proofs/FitsLaws.antt.
use mathlib.Core.Path.{sym}
use Rattle.hir_types.proofs.FoundLaws.{type_found, type_lost}
use Rattle.methods.proofs.FitsLaws.{type_missing, type_unfit, type_fit}
use Rattle.methods.proofs.fits.type_fits.Goals as goal

pub returns-in_err-parts : goal.returns-in_err-parts
returns-in_err-parts c = rw c.from_residual.ensures
    (type_missing _ _ _ (type_lost c.args.words.now c.args.at c.in_err-parts.ensures.answer))

pub returns-then-is_misfit : goal.returns-then-is_misfit
returns-then-is_misfit c = type_unfit _ _ _ (type_found _ _ c.in_ok-parts.ensures.answer) (sym c.if-is_misfit.ensures)

pub returns : goal.returns
returns c = type_fit _ _ _ (type_found _ _ c.in_ok-parts.ensures.answer) (sym c.if-is_misfit.ensures)
