-- `read_in` meets its contract: the array has as many words as its type says.
use lib.ListN.{length-replicate}
use Rattle.sheet.proofs.sheet.read_in.Goals as goal

pub read_within-requires : goal.read_within-requires
read_within-requires g c = rw length-replicate c.requires.enough
