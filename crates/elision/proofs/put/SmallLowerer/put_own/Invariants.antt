-- The invariant of the loop of `put_own` is `Storing` of proofs/PutLaws.antt.
use Rattle.elision.proofs.PutLaws.{Storing}
use Rattle.elision.proofs.put.SmallLowerer.put_own.Given as goal

abbrev pub invariant-loop-i : goal.invariant-loop-i
invariant-loop-i l = Storing l.self.list l.self.own l.n l.initial.out l.out l.i
