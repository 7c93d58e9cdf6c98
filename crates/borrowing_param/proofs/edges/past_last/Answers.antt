-- `past_last` meets its contract: a number has no ones above its leading zeros.
use native.Mathlib.Omega.{arith}
use lib.Count.{leading_le}
use Rattle.borrowing_param.proofs.EdgesLoops.{below_leading}
use Rattle.borrowing_param.proofs.edges.past_last.Goals as goal

pub overflow_cast-result : goal.overflow_cast-result
overflow_cast-result c = omega (arith, leading_le 64 c.args.set)

pub overflow_sub-result : goal.overflow_sub-result
overflow_sub-result c = omega (arith, leading_le 64 c.args.set)

pub returns : goal.returns
returns c = below_leading c.args.set (omega arith)
