-- `listing` meets its contract: where the slice takes any listing, all of it fits.
use Rattle.listing.proofs.CallsLaws.{listed_so, wide_enough}
use Rattle.listing.proofs.calls.listing.Goals as goal

pub returns : goal.returns
returns c = let it = listed_so c.args.sheet.now c.args.out.now c.list_sheet.result c.list_sheet.new.out
    c.list_sheet.ensures
    (wide_enough c.args.sheet.now c.args.out.now c.if-out-lt-ROOM.false) in
    record { answer = it.0; stored = it.1 }
