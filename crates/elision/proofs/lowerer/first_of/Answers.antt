-- `first_of` meets its contract, by the laws of `Firsts` of proofs/LaidLoops.antt.
use Rattle.elision.proofs.LaidLoops.{firsts_room}
use borrow.Author.Rules.{rules}
use Rattle.elision.proofs.lowerer.first_of.Goals as goal

pub push-requires : goal.push-requires
push-requires c = firsts_room (search rules) c.loop-i.invariant c.min-n.ensures c.loop-i-test.true
