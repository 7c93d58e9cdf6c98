-- `borrow_map` meets its contract: each way out is a law of proofs/ListedLaws.antt.
use mathlib.Core.Path.{refl}
use Rattle.borrowing_param.proofs.ListedLaws.{are_params, map_none, map_torn, map_listed}
use Rattle.borrowing_param.proofs.OutcomeLaws.{way_out}
use Rattle.borrowing_param.proofs.visitor.BorrowingParamVisitor.borrow_map.Goals as goal

pub returns-in_err-check_structs_and_params : goal.returns-in_err-check_structs_and_params
returns-in_err-check_structs_and_params c = let s = c.args in record {
  answer = map_torn s.self s.structs.now s.params.now c.check_structs_and_params.ensures.answer
      c.in_err-check_structs_and_params.was (way_out c.from_residual.ensures) refl refl;
}

pub map_params-requires : goal.map_params-requires
map_params-requires c = let s = c.args in
    are_params s.structs.now s.params.now
    (map_none s.self s.structs.now s.params.now c.check_structs_and_params.ensures.answer c.in_ok-check_structs_and_params.was)

pub returns : goal.returns
returns c = let s = c.args in record {
  answer = map_listed s.self s.structs.now s.params.now c.check_structs_and_params.ensures.answer c.in_ok-check_structs_and_params.was
      c.map_params.ensures.counts c.map_params.ensures.answers_filled c.map_params.ensures.edges_filled;
}
