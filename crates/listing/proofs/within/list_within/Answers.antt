-- `list_within` meets its contract: each way out is one law of proofs/CallsLaws.antt.
use mathlib.Core.Path.{refl}
use Rattle.std.proofs.lemmas.Result.{err_from_is_err_and}
use Rattle.borrowing_param.proofs.SheetLaws.{judge_lent}
use Rattle.listing.proofs.CallsLaws.{text_refused, text_listed}
use Rattle.listing.proofs.within.list_within.Goals as goal

pub returns-in_err-text : goal.returns-in_err-text
returns-in_err-text c =
    let p = err_from_is_err_and c.from_residual.result c.from_residual.ensures.1 in
    rw (p.1, p.2)
    (text_refused c.args.sheet.now c.args.words.now c.requires.0 c.in_err-text.ensures.answer
    c.read_sheet.ensures.stored refl)

pub list_records-requires : goal.list_records-requires
list_records-requires c = (
  judge_lent c.args.sheet.now c.args.words.now c.requires.0 c.in_ok-text.ensures.answer c.in_ok-text.ensures.stored refl
      c.laid.ensures.answer,
  c.requires.1,
)

pub returns : goal.returns
returns c = text_listed c.args.sheet.now c.args.words.now c.requires.0 c.in_ok-text.ensures.answer
    c.in_ok-text.ensures.stored refl c.laid.ensures.answer _ c.list_records.result c.args.out.now
    c.list_records.new.out c.list_records.ensures
