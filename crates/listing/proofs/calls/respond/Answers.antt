-- `respond` meets its contract: a listing or a refusal, and both fit.
use mathlib.Core.Path.{◌≡◌}
use lib.ListN.{length}
use Rattle.listing.proofs.CallsLaws.{respond_listed, respond_refused}
use Rattle.listing.specs.Listing.{room_bytes}
use borrow.Author.Rules.{rules}
use Rattle.listing.proofs.calls.respond.Goals as goal

pub returns-in-Ok : goal.returns-in-Ok
returns-in-Ok c =
    let full : length c.args.out.now ≡ room_bytes = search rules in
    let it = respond_listed c.args.sheet.now c.args.out.now c.list_sheet.new.out full c.in-Ok.ensures in
    record { answer = it.0; stored = it.1 }

pub returns-in-Err : goal.returns-in-Err
returns-in-Err c =
    let full : length c.args.out.now ≡ room_bytes = search rules in
    let it = respond_refused c.in-Err.refusal c.number.ensures.answer c.args.sheet.now c.args.out.now
    c.list_sheet.new.out full c.in-Err.ensures c.put_headed.ensures in
    record { answer = it.0; stored = it.1 }
