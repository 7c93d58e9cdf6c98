-- `lower_within` meets its contract: each way out is one law of proofs/SheetLaws.antt.
use Rattle.borrowing_param.proofs.OutcomeLaws.{way_out}
use Rattle.borrowing_param.proofs.SheetLaws.{within_refused, within_short, within_all}
use Rattle.borrowing_param.proofs.method.lower_within.Goals as goal

pub returns-in_err-method : goal.returns-in_err-method
returns-in_err-method c = let it = within_refused c.args.sheet.now c.judge_sheet.ensures c.args.words.now
    c.in_err-method.was (way_out c.from_residual.ensures) in
    record { value = it.0; fills = it.1 }

pub returns-in_err-copy_words : goal.returns-in_err-copy_words
returns-in_err-copy_words c = let it = within_short c.args.sheet.now c.judge_sheet.ensures
    c.args.words.now c.in_ok-method.was
    c.copy_words.ensures.stored c.copy_words.ensures.answer c.in_err-copy_words.was
    (way_out c.from_residual-in_err-copy_words.ensures) in
    record { value = it.0; fills = it.1 }

pub returns : goal.returns
returns c = let it = within_all c.args.sheet.now c.judge_sheet.ensures c.args.words.now c.in_ok-method.was
    c.copy_words.ensures.stored c.copy_words.ensures.answer c.in_ok-copy_words.was in
    record { value = it.0; fills = it.1 }
