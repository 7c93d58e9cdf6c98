-- `check_structs_and_params` meets its contract: each way out is one law of proofs/MethodLaws.antt.
use Rattle.hir_types.proofs.QuestionLaws.{handed_on}
use Rattle.methods.proofs.MethodLaws.{structs_are, alone_structs, alone_params, alone_rows, alone_fits}
use Rattle.methods.proofs.method.check_structs_and_params.Goals as goal

pub returns-in_err-rows : goal.returns-in_err-rows
returns-in_err-rows c = record {
  answer = rw (handed_on c.from_residual.ensures.1) (alone_structs _ _ c.in_err-rows.ensures.answer);
}

pub returns-in_err-inputs : goal.returns-in_err-inputs
returns-in_err-inputs c = record {
  answer = rw (handed_on c.from_residual-in_err-inputs.ensures.1)
      (alone_params _ _ c.in_ok-rows.ensures.answer c.in_err-inputs.ensures.answer);
}

pub index_rows-requires : goal.index_rows-requires
index_rows-requires c =
    structs_are c.args.structs.now c.args.params.now c.in_ok-rows.ensures.answer

pub returns-in_err-index_rows : goal.returns-in_err-index_rows
returns-in_err-index_rows c = record {
  answer = rw (handed_on c.from_residual-in_err-index_rows.ensures.1)
      (alone_rows _ _ c.in_ok-rows.ensures.answer c.in_ok-inputs.ensures.answer c.in_err-index_rows.ensures);
}

pub returns : goal.returns
returns c = record {
  answer = alone_fits _ _ c.in_ok-rows.ensures.answer c.in_ok-inputs.ensures.answer c.in_ok-index_rows.ensures
      c.params_fit.ensures;
}
