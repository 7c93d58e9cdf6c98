-- `judge_places` meets its contract: the rows, the parameters, the output, each by proofs/MethodLaws.antt.
use Rattle.answers.specs.declared.Refusal.TheVariants.{Mismatch}
use Rattle.hir_types.proofs.QuestionLaws.{handed_on, was_some, was_none}
use Rattle.methods.proofs.MethodLaws.{places_rows, places_params, places_output, places_all}
use Rattle.methods.proofs.fits.judge_places.Goals as goal

pub returns-in_err-index_rows : goal.returns-in_err-index_rows
returns-in_err-index_rows c = rw (handed_on c.from_residual.ensures.1)
    (places_rows c.requires c.in_err-index_rows.ensures)

pub returns-in_err-params_fit : goal.returns-in_err-params_fit
returns-in_err-params_fit c = rw (handed_on c.from_residual-in_err-params_fit.ensures.1)
    (places_params c.requires c.in_ok-index_rows.ensures c.in_err-params_fit.ensures)

pub returns-in_err-ok_or : goal.returns-in_err-ok_or
returns-in_err-ok_or c = let none = was_none c.types_fit.result Mismatch c.in_err-ok_or.ensures.value in
    rw (handed_on c.from_residual-in_err-ok_or.ensures.1, none.1)
    (places_output c.requires c.in_ok-index_rows.ensures c.in_ok-params_fit.ensures c.types_fit.ensures none.0)

pub returns : goal.returns
returns c = places_all c.requires c.in_ok-index_rows.ensures c.in_ok-params_fit.ensures c.types_fit.ensures
    (was_some c.types_fit.result Mismatch c.in_ok-ok_or.ensures.value)
