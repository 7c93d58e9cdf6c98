-- The invariant of the loop of `put_words` is `Putting` of proofs/LowererLoops.antt.
use Rattle.elision.proofs.LowererLoops.{Putting}
use Rattle.elision.proofs.put.put_words.Given as goal

abbrev pub invariant-loop-i : goal.invariant-loop-i
invariant-loop-i l = Putting l.names l.standing l.generics l.words l.fn.seen l.at l.initial.out l.out l.here l.i
