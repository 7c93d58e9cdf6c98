-- `extend_path` meets its contract: each turn passes over a lifetime, or pushes it and joins its bound.
use Rattle.ast_lifetimes.proofs.PathLoops.{Pathing}
use Rattle.ast_lifetimes.proofs.env.LifetimeEnv.extend_path.Given as goal

abbrev pub invariant-loop-word : goal.invariant-loop-word
invariant-loop-word l = Pathing l.behind l.lifetimes l.initial.self l.self l.reach.sets l.word-index
