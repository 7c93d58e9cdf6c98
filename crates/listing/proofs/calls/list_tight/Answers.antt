-- `list_tight` meets its contract: the listing is measured before it is written.
use mathlib.Core.List.{[]}
use Rattle.std.proofs.lemmas.Result.{err_from_is_err_and}
use Rattle.listing.proofs.CallsLaws.{refused_so, too_long, listed_so, measured_enough}
use Rattle.listing.proofs.calls.list_tight.Goals as goal

pub returns-in_err-count : goal.returns-in_err-count
returns-in_err-count c =
    let p = err_from_is_err_and c.from_residual.result c.from_residual.ensures.1 in
    let it = refused_so c.args.sheet.now c.args.out.now c.in_err-count.ensures.0 in
    record { value = rw (p.1, p.2) it.0; fills = it.1 }

pub returns-then-out-count : goal.returns-then-out-count
returns-then-out-count c =
    let it = too_long c.args.sheet.now c.args.out.now [] c.list_sheet.new.out c.in_ok-count.ensures
    c.if-out-count.true in
    record { value = it.0; fills = it.1 }

pub returns : goal.returns
returns c =
    let it = listed_so c.args.sheet.now c.args.out.now c.list_sheet-2.result c.list_sheet-2.new.out
    c.list_sheet-2.ensures
    (measured_enough c.args.sheet.now c.args.out.now [] c.list_sheet.new.out c.in_ok-count.ensures
    c.if-out-count.false) in
    record { value = it.0; fills = it.1 }
