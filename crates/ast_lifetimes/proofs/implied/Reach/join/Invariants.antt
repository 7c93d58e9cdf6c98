-- `join` meets its contract: each turn joins one set more.
use Rattle.ast_lifetimes.proofs.OutlivedLaws.{Joining}
use Rattle.ast_lifetimes.proofs.implied.Reach.join.Given as goal

abbrev pub invariant-loop-x : goal.invariant-loop-x
invariant-loop-x l = Joining l.fn.bound.longer l.fn.bound.shorter l.initial.self.sets l.self.sets l.x
