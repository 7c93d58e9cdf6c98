-- `too_many` meets its contract.
use borrow.Author.Tests.{le-ltb, lt-ltb}
use Rattle.listing.specs.InnerListing.{edges_room}
use Rattle.listing.proofs.within.too_many.Goals as goal

pub returns-then-room-lt-EDGES_ROOM : goal.returns-then-room-lt-EDGES_ROOM
returns-then-room-lt-EDGES_ROOM c = rw (lt-ltb c.args.room edges_room c.if-room-lt-EDGES_ROOM.true)

pub returns : goal.returns
returns c = rw (le-ltb c.args.room edges_room c.if-room-lt-EDGES_ROOM.false)
