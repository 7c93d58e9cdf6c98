-- `link` meets its contract: its loop makes the index of one bound more with each turn.
use Rattle.lifetimes.specs.Env.{bounds_of}
use Rattle.lifetimes.specs.Walk.{order_of}
use Rattle.lifetimes.specs.Index.{graph_in}
use Rattle.lifetimes.proofs.IndexLoops.{Links}
use Rattle.lifetimes.proofs.index.Index.link.Given as goal

abbrev pub invariant-loop-i : goal.invariant-loop-i
invariant-loop-i l = Links l.env (graph_in (order_of l.ast) l.longer (bounds_of l.env)) l.i l.index
