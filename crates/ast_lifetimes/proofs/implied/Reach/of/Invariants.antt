-- `of` meets its contract: each turn joins one bound more.
use lib.ListN.{take}
use Rattle.ast_lifetimes.specs.Inner.{OutliveSets}
use Rattle.ast_lifetimes.proofs.implied.Reach.of.Given as goal

abbrev pub invariant-loop-i : goal.invariant-loop-i
invariant-loop-i l = OutliveSets (take l.i l.env.bounds.list) l.env.named l.reach.sets
