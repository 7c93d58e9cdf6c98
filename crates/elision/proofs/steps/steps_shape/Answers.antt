-- `steps_shape` meets its contract. The loop's invariant is `Shaping` of the crate `records`; the measure is how many
-- words are to be read.
use borrow.Author.Rules.{rules}
use Rattle.records.proofs.ShapeLoops.{shaping_long, shaping_start, shaping_missing, shaping_more, shaping_end}
use Rattle.elision.specs.Steps.{read_step}
use Rattle.elision.proofs.OutcomeLaws.{refused_is}
use Rattle.elision.proofs.StepLaws.{step_lost, step_found, ends_there, missing_end}
use Rattle.elision.proofs.steps.steps_shape.Goals as goal

pub returns-then-steps-gt-MAX_WORDS : goal.returns-then-steps-gt-MAX_WORDS
returns-then-steps-gt-MAX_WORDS c = search (shaping_long, rules)

pub loop-at-init : goal.loop-at-init
loop-at-init c = (0, shaping_start (λ n. read_step) _ c.if-steps-gt-MAX_WORDS.false)

pub returns-in_err-step : goal.returns-in_err-step
returns-in_err-step c = let lost = step_lost c.read_step.ensures _ c.ok_or.ensures.value c.in_err-step.was in record {
  answer = rw (refused_is c.from_residual.ensures.1, lost.1)
      (shaping_missing c.loop-at.invariant.1 c.loop-at-test.true (missing_end lost.0));
}

pub loop-at-preserved : goal.loop-at-preserved
loop-at-preserved c = (
  _,
  shaping_more c.loop-at.invariant.1 c.loop-at-test.true
      (ends_there (step_found c.read_step.ensures _ c.ok_or.ensures.value c.in_ok-step.was) c.end-at.ensures),
)

pub returns : goal.returns
returns c = search (shaping_end, rules)
