-- `each_itself` meets its contract: each turn makes one set more.
use Rattle.ast_lifetimes.proofs.OutlivedLaws.{Starting}
use Rattle.ast_lifetimes.proofs.implied.Reach.each_itself.Given as goal

abbrev pub invariant-loop-x : goal.invariant-loop-x
invariant-loop-x l = Starting l.sets l.x
