-- `extend_lifetimes` meets its contract: each name is one step of the run.
use lib.ListN.{drop}
use Rattle.ast_lifetimes.specs.Entries.{fold, declare}
use Rattle.ast_lifetimes.specs.Inner.{so_far_of}
use Rattle.ast_lifetimes.proofs.StandsLaws.{Folding}
use Rattle.ast_lifetimes.proofs.env.LifetimeEnv.extend_lifetimes.Given as goal

abbrev pub invariant-loop-name : goal.invariant-loop-name
invariant-loop-name l = Folding declare (fold declare (so_far_of l.initial.self) l.names) (drop l.name-index l.names) l.self
