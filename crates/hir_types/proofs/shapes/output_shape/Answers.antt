-- `output_shape` meets its contract: in shape as `params` is, and at most two types.
use Rattle.hir_types.proofs.ShapeLaws.{output_torn, output_third, output_few}
use Rattle.hir_types.proofs.QuestionLaws.{handed_on}
use Rattle.hir_types.proofs.shapes.output_shape.Goals as goal

pub returns-in_err-count : goal.returns-in_err-count
returns-in_err-count c = record {
  answer = rw (handed_on c.from_residual.ensures.1) (output_torn _ _ c.in_err-count.ensures.answer);
}

pub returns-then-count-gt2 : goal.returns-then-count-gt2
returns-then-count-gt2 c = record { answer = output_third _ _ c.in_ok-count.ensures.answer c.if-count-gt2.true }

pub returns : goal.returns
returns c = record { answer = output_few _ _ c.in_ok-count.ensures.answer c.if-count-gt2.false }
