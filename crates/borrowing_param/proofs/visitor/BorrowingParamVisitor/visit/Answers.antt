-- `visit` meets its contract: each way out is a law of proofs/VisitorLaws.antt.
use Rattle.ast_lifetimes.proofs.OptionLaws.{ok_or_missing, ok_or_found}
use Rattle.borrowing_param.proofs.OutcomeLaws.{way_out}
use Rattle.borrowing_param.proofs.VisitorLaws.{parts_there, visit_missing, visit_torn, visit_there}
use Rattle.borrowing_param.proofs.visitor.BorrowingParamVisitor.visit.Goals as goal

pub returns-in_err-parts : goal.returns-in_err-parts
returns-in_err-parts c =
    let none = ok_or_missing _ c.ok_or.ensures.value c.in_err-parts.was in
    rw (way_out c.from_residual.ensures, none.1) (visit_missing _ _ _ _ c.param_at.ensures none.0)

pub returns-in_err-check_structs_and_params : goal.returns-in_err-check_structs_and_params
returns-in_err-check_structs_and_params c =
    let some = ok_or_found _ c.ok_or.ensures.value c.in_ok-parts.was in
    rw (way_out c.from_residual-in_err-check_structs_and_params.ensures)
    (visit_torn _ _ _ _ c.param_at.ensures some c.check_structs_and_params.ensures.answer
    c.in_err-check_structs_and_params.was)

pub visit_parts-requires : goal.visit_parts-requires
visit_parts-requires c = parts_there c.param_at.ensures (ok_or_found _ c.ok_or.ensures.value c.in_ok-parts.was)

pub returns : goal.returns
returns c =
    let some = ok_or_found _ c.ok_or.ensures.value c.in_ok-parts.was in
    visit_there _ _ _ _ c.param_at.ensures some c.check_structs_and_params.ensures.answer
    c.in_ok-check_structs_and_params.was c.visit_parts.ensures
