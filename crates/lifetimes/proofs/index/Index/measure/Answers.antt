-- `measure` meets its contract: each turn walks from one lifetime more.
use native.Mathlib.Omega.{arith}
use Rattle.lifetimes.proofs.ReachLoops.{measuring_more, measuring_end}
use Rattle.lifetimes.proofs.index.Index.measure.Goals as goal

pub loop-x-preserved : goal.loop-x-preserved
loop-x-preserved c = let few = c.walk-walked.ensures.count_le_most_lifetimes in (
  omega (arith, few),
  λ g k. measuring_more (c.loop-x.invariant.1 g k) c.loop-x-test.true {items = c.walk-walked.new.items}
      (omega (arith, few)) (c.walk-walked.ensures.complete g k),
)

pub returns : goal.returns
returns c = λ g k. measuring_end (c.loop-x.invariant.1 g k) c.loop-x-test.false
