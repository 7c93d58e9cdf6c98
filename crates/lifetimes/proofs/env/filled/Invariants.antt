-- `filled` meets its contract. The loop's invariant is `Filling` of proofs/EnvLoops.antt; the measure is how many words
-- are to be read.
use Rattle.lifetimes.proofs.EnvLoops.{Filling}
use Rattle.lifetimes.proofs.env.filled.Given as goal

abbrev pub invariant-loop-i : goal.invariant-loop-i
invariant-loop-i l = Filling l.pairs l.list l.i
