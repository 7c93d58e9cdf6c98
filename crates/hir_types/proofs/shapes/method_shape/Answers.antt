-- `method_shape` meets its contract: the first record that is refused decides.
use Rattle.hir_types.proofs.ShapeLaws.{method_structs, method_params, method_output, method_force}
use Rattle.hir_types.proofs.ShapeLaws.{method_whole}
use Rattle.hir_types.proofs.QuestionLaws.{handed_on}
use Rattle.hir_types.proofs.shapes.method_shape.Goals as goal

pub returns-in_err-rows : goal.returns-in_err-rows
returns-in_err-rows c = record {
  answer = rw (handed_on c.from_residual.ensures.1) (method_structs _ _ _ _ c.in_err-rows.ensures.answer);
}

pub returns-in_err-inputs : goal.returns-in_err-inputs
returns-in_err-inputs c = record {
  answer = rw (handed_on c.from_residual-in_err-inputs.ensures.1)
      (method_params _ _ _ _ c.in_ok-rows.ensures.answer c.in_err-inputs.ensures.answer);
}

pub returns-in_err-outputs : goal.returns-in_err-outputs
returns-in_err-outputs c = record {
  answer = rw (handed_on c.from_residual-in_err-outputs.ensures.1)
      (method_output _ _ _ _ c.in_ok-rows.ensures.answer c.in_ok-inputs.ensures.answer c.in_err-outputs.ensures.answer);
}

pub returns-in_err-force_shape : goal.returns-in_err-force_shape
returns-in_err-force_shape c = record {
  answer = rw (handed_on c.from_residual-in_err-force_shape.ensures.1)
      (method_force _ _ _ _ c.in_ok-rows.ensures.answer c.in_ok-inputs.ensures.answer c.in_ok-outputs.ensures.answer
      c.in_err-force_shape.ensures.answer);
}

pub returns : goal.returns
returns c = record {
  answer = method_whole _ _ _ _ c.in_ok-rows.ensures.answer c.in_ok-inputs.ensures.answer
      c.in_ok-outputs.ensures.answer c.in_ok-force_shape.ensures.answer;
}
