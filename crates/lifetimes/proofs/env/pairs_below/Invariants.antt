-- `pairs_below` meets its contract. The loop's invariant is `Below` of proofs/EnvLoops.antt.
use Rattle.lifetimes.proofs.EnvLoops.{Below}
use Rattle.lifetimes.proofs.env.pairs_below.Given as goal

abbrev pub invariant-loop-i : goal.invariant-loop-i
invariant-loop-i l = Below l.limit l.pairs l.i
