-- `lower_in` meets its contract: the array has as many words as its type says.
use lib.ListN.{length-replicate}
use Rattle.borrowing_param.proofs.method.lower_in.Goals as goal

pub lower_within-requires : goal.lower_within-requires
lower_within-requires g c = rw length-replicate c.requires.enough
