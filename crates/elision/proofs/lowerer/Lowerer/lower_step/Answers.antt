-- `lower_step` of the lowerer meets its contract: each way out is one law of proofs/WordedLaws.antt.
use Rattle.elision.proofs.OutcomeLaws.{refused_is}
use Rattle.elision.proofs.StepLaws.{step_lost, step_found}
use Rattle.elision.proofs.WordedLaws.{worded_none, worded_more, worded_lifetime, worded_generics, worded_self}
use Rattle.elision.proofs.lowerer.Lowerer.lower_step.Goals as goal

pub returns-in_err-step : goal.returns-in_err-step
returns-in_err-step c = let lost = step_lost c.read_step.ensures _ c.ok_or.ensures.value c.in_err-step.was in record {
  answer = rw (refused_is c.from_residual.ensures.1, lost.1) (worded_none _ _ _ _ lost.0);
}

pub returns-then-end-words : goal.returns-then-end-words
returns-then-end-words c =
    let stands = step_found c.read_step.ensures _ c.ok_or.ensures.value c.in_ok-step.was in
    record { answer = worded_more _ _ _ _ stands c.end.ensures c.if-end-words.true }

pub returns-in-Lifetime : goal.returns-in-Lifetime
returns-in-Lifetime c =
    let stands = step_found c.read_step.ensures _ c.ok_or.ensures.value c.in_ok-step.was in
    record {
      answer = worded_lifetime _ _ _ _ stands c.end.ensures c.if-end-words.false
          c.in-Lifetime.is c.lower_lifetime.ensures.answer;
    }

pub returns-in-Generics : goal.returns-in-Generics
returns-in-Generics c =
    let stands = step_found c.read_step.ensures _ c.ok_or.ensures.value c.in_ok-step.was in
    record {
      answer = worded_generics _ _ _ _ stands c.end.ensures c.if-end-words.false
          c.in-Generics.is c.lower_generics.ensures.answer;
    }

pub returns-in-SelfType : goal.returns-in-SelfType
returns-in-SelfType c =
    let stands = step_found c.read_step.ensures _ c.ok_or.ensures.value c.in_ok-step.was in
    record {
      answer = worded_self _ _ _ _ stands c.end.ensures c.if-end-words.false
          c.in-SelfType.is c.is_self.ensures.answer;
    }
