-- `params_fit` meets its contract: a misfit among the first sixteen comes before a 17th.
use Rattle.answers.specs.declared.Refusal.TheVariants.{Mismatch}
use Rattle.hir_types.proofs.QuestionLaws.{handed_on, was_some, was_none}
use Rattle.methods.proofs.FitsLaws.{params_stop, params_over, params_all}
use Rattle.methods.proofs.fits.params_fit.Goals as goal

pub returns-in_err-ok_or : goal.returns-in_err-ok_or
returns-in_err-ok_or c = let none = was_none c.types_fit.result Mismatch c.in_err-ok_or.ensures.value in
    rw (handed_on c.from_residual.ensures.1, none.1) (params_stop _ _ _ c.min.ensures c.types_fit.ensures none.0)

pub returns-then-count-gt-MAX_PARAMS : goal.returns-then-count-gt-MAX_PARAMS
returns-then-count-gt-MAX_PARAMS c = params_over _ _ _ c.min.ensures c.types_fit.ensures
    (was_some c.types_fit.result Mismatch c.in_ok-ok_or.ensures.value) c.if-count-gt-MAX_PARAMS.true

pub returns : goal.returns
returns c = params_all _ _ _ c.min.ensures c.types_fit.ensures
    (was_some c.types_fit.result Mismatch c.in_ok-ok_or.ensures.value) c.if-count-gt-MAX_PARAMS.false
