-- The invariant of the loop of `first_of` is `Firsts` of proofs/LaidLoops.antt.
use Rattle.elision.proofs.LaidLoops.{Firsts}
use Rattle.elision.proofs.lowerer.first_of.Given as goal

abbrev pub invariant-loop-i : goal.invariant-loop-i
invariant-loop-i l = Firsts l.own l.first l.i
