-- `Bounds::check` meets its contract. The loop's invariant is `Checking` of proofs/BoundsLaws.antt.
use Rattle.lifetimes.proofs.BoundsLaws.{Checking}
use Rattle.lifetimes.proofs.bounds.Bounds.check.Given as goal

abbrev pub invariant-loop-i : goal.invariant-loop-i
invariant-loop-i l = Checking l.lifetimes l.self l.i
