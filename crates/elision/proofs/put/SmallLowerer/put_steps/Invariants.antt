-- The invariant of the loop of `put_steps` is `Recording` of proofs/PutLoops.antt; the measure is how many words are to
-- be read.
use Prim.Native.Nat.{◌-◌}
use lib.ListN.{length}
use Rattle.elision.proofs.PutLoops.{Recording}
use Rattle.elision.proofs.put.SmallLowerer.put_steps.Given as goal

abbrev pub invariant-loop-at : goal.invariant-loop-at
invariant-loop-at l = Recording l.names l.output l.words l.initial.self l.initial.out l.out l.self l.n l.at

abbrev pub decreases-loop-at : goal.decreases-loop-at
decreases-loop-at l = length l.words - l.at
