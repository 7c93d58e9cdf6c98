-- `each_itself` meets its contract: each turn makes one set more.
use native.Mathlib.Omega.{arith}
use Rattle.ast_lifetimes.proofs.OutlivedLaws.{reaches_none}
use Rattle.ast_lifetimes.proofs.implied.Reach.each_itself.Goals as goal

pub returns : goal.returns
returns c = reaches_none c.args.named c.loop-x.sets (λ x h. c.loop-x.invariant.done x (omega arith))
