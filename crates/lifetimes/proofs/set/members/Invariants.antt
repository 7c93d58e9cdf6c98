-- `set::members` meets its contract. The loop's invariant is `Listing` of proofs/SetLoops.antt.
use Rattle.lifetimes.proofs.SetLoops.{Listing}
use Rattle.lifetimes.proofs.set.members.Given as goal

abbrev pub invariant-loop-x : goal.invariant-loop-x
invariant-loop-x l = Listing l.set l.initial.out l.out l.at l.x
