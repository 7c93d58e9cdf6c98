-- `borrow_in` meets its contract: the array has as many words as its type says.
use lib.ListN.{length-replicate}
use Rattle.borrowing_param.proofs.borrows.borrow_in.Goals as goal

pub borrow_within-requires : goal.borrow_within-requires
borrow_within-requires g c = rw length-replicate c.requires.enough
