-- `judge_sheet` meets its contract: each way out is one law of proofs/SheetLaws.antt.
use Rattle.borrowing_param.proofs.OutcomeLaws.{way_out}
use Rattle.borrowing_param.proofs.SheetLaws.{judge_text, judge_lent, judge_refused, judge_given}
use Rattle.borrowing_param.proofs.method.judge_sheet.Goals as goal

pub returns-in_err-text : goal.returns-in_err-text
returns-in_err-text c = judge_text c.args.sheet.now c.args.scratch.now c.requires c.read_sheet.ensures.answer
    c.read_sheet.ensures.stored c.in_err-text.was (way_out c.from_residual.ensures)

pub lower_records-requires : goal.lower_records-requires
lower_records-requires c = judge_lent c.args.sheet.now c.args.scratch.now c.requires
    c.read_sheet.ensures.answer c.read_sheet.ensures.stored c.in_ok-text.was c.laid.ensures.answer

pub returns-in_err-env : goal.returns-in_err-env
returns-in_err-env c = judge_refused c.args.sheet.now c.args.scratch.now c.requires c.read_sheet.ensures.answer
    c.read_sheet.ensures.stored c.in_ok-text.was c.laid.ensures.answer c.lower_records.ensures c.in_err-env.was
    (way_out c.from_residual-in_err-env.ensures)

pub returns : goal.returns
returns c = judge_given c.args.sheet.now c.args.scratch.now c.requires c.read_sheet.ensures.answer
    c.read_sheet.ensures.stored c.in_ok-text.was c.laid.ensures.answer c.lower_records.ensures c.in_ok-env.was
