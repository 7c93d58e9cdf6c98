-- `check_method` meets its contract: the verdict of what the method uses.
use Rattle.hir_types.proofs.QuestionLaws.{handed_on}
use Rattle.methods.proofs.UsedLaws.{verdict_used}
use Rattle.methods.proofs.method.check_method.Goals as goal

pub returns-in_err-used_method_lifetimes : goal.returns-in_err-used_method_lifetimes
returns-in_err-used_method_lifetimes c = record {
  answer = rw (handed_on c.from_residual.ensures.1)
      (verdict_used _ _ _ _ _ c.in_err-used_method_lifetimes.ensures.answer);
}

pub returns : goal.returns
returns c = record { answer = verdict_used _ _ _ _ _ c.in_ok-used_method_lifetimes.ensures.answer }
