-- `write_sheet` meets its contract: refused for its records, refused for want of room, or written.
use Rattle.std.proofs.lemmas.Result.{err_from_is_err_and}
use Rattle.sheet.specs.Text.{records_in}
use Rattle.sheet_writer.proofs.WriteLaws.{none_due, write_refused, write_short, write_given}
use Rattle.sheet_writer.proofs.write.write_sheet.Goals as goal

pub returns-in_err-judge : goal.returns-in_err-judge
returns-in_err-judge c =
    let p = err_from_is_err_and c.from_residual.result c.from_residual.ensures.1 in
    let it = write_refused (records_in c.args.records) c.args.out.now c.in_err-judge.ensures in
    record { answer = rw (p.1, p.2) it.0; stored = it.1 }

pub fits-requires : goal.fits-requires
fits-requires c = none_due (records_in c.args.records) c.args.out.now c.in_ok-judge.ensures

pub returns-then-not-fits : goal.returns-then-not-fits
returns-then-not-fits c =
    let it = write_short (records_in c.args.records) c.args.out.now c.in_ok-judge.ensures c.fits.ensures
    c.if-not-fits.true in
    record { answer = it.0; stored = it.1 }

pub returns : goal.returns
returns c =
    let it = write_given (records_in c.args.records) c.args.out.now c.in_ok-judge.ensures c.fits.ensures
    c.if-not-fits.false c.put_sheet.ensures in
    record { answer = it.0; stored = it.1 }
