-- The invariant of the loop of `lower_words` is `Running` of proofs/LowererLoops.antt.
use Rattle.elision.proofs.LowererLoops.{Running}
use Rattle.elision.proofs.lowerer.lower_words.Given as goal

abbrev pub invariant-loop-i : goal.invariant-loop-i
invariant-loop-i l = Running l.names l.standing l.generics l.words l.fn.seen l.lifetimes l.here l.i
