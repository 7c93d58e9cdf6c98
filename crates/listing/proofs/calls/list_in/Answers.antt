-- `list_in` meets its contract: what is lent is no wider than ample.
use lib.ListN.{length-replicate}
use Rattle.listing.proofs.calls.list_in.Goals as goal

pub list_within-requires : goal.list_within-requires
list_within-requires g c = simp length-replicate (c.requires.0, c.requires.1.4)
