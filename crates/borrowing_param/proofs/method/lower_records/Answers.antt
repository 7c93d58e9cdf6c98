-- `lower_records` meets its contract: each way out is one law of proofs/MethodLaws.antt.
use mathlib.Core.Path.{◌∙◌}
use Rattle.sheet.specs.Text.{records_in}
use Rattle.borrowing_param.proofs.OutcomeLaws.{way_out}
use Rattle.borrowing_param.proofs.MethodLaws.{names_refused, steps_refused, method_refused, method_given}
use Rattle.borrowing_param.proofs.method.lower_records.Goals as goal

pub returns-in_err-ast : goal.returns-in_err-ast
returns-in_err-ast c = way_out c.from_residual.ensures
    ∙ names_refused (records_in c.args.records) c.requires c.from_method_item.ensures.answer c.in_err-ast.was

pub returns-in_err-lowered : goal.returns-in_err-lowered
returns-in_err-lowered c = way_out c.from_residual-in_err-lowered.ensures
    ∙ steps_refused (records_in c.args.records) c.requires c.from_method_item.ensures.answer c.in_ok-ast.was
    c.measure.ensures.answer c.in_err-lowered.was

pub returns-in_err-check_method : goal.returns-in_err-check_method
returns-in_err-check_method c = way_out c.from_residual-in_err-check_method.ensures
    ∙ method_refused (records_in c.args.records) c.requires c.from_method_item.ensures.answer c.in_ok-ast.was
    c.measure.ensures.answer c.in_ok-lowered.was c.check_method.ensures.answer c.in_err-check_method.was

pub returns : goal.returns
returns c = method_given (records_in c.args.records) c.requires c.from_method_item.ensures.answer c.in_ok-ast.was
    c.measure.ensures.answer c.in_ok-lowered.was c.check_method.ensures.answer c.in_ok-check_method.was
