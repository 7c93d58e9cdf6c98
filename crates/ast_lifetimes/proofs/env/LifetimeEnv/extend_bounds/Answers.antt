-- `extend_bounds` meets its contract: each pair is one step of the run.
use mathlib.Core.Path.{◌∙◌}
use native.Mathlib.Omega.{arith}
use Rattle.std.proofs.lemmas.Result.{err_from_is_err_and}
use Rattle.ast_lifetimes.proofs.BoundsLaws.{pairs_first, pairs_none}
use Rattle.ast_lifetimes.proofs.StandsLaws.{folding_refused, folding_more, folding_end}
use Rattle.ast_lifetimes.proofs.env.LifetimeEnv.extend_bounds.Goals as goal

pub loop-pair-preserved : goal.loop-pair-preserved
loop-pair-preserved c =
    let steps = c.in-Some.ensures.steps in
    let next = pairs_first c.in-Some.pair.now c.next.new.self.rest.now c.loop-pair.pair-iterator.rest.now steps.1.0
    (steps.1.1 ∙ c.loop-pair.invariant.0) in
    (steps.0 ∙ c.loop-pair.invariant.0, folding_more c.loop-pair.invariant.1 next c.push.ensures.pushed c.in_ok-push.was)

pub returns-in_err-push : goal.returns-in_err-push
returns-in_err-push c =
    let steps = c.in-Some.ensures.steps in
    let next = pairs_first c.in-Some.pair.now c.next.new.self.rest.now c.loop-pair.pair-iterator.rest.now steps.1.0
    (steps.1.1 ∙ c.loop-pair.invariant.0) in
    let p = err_from_is_err_and c.from_residual.result c.from_residual.ensures.1 in
    rw (p.1, p.2) (folding_refused c.loop-pair.invariant.1 next c.push.ensures.pushed c.in_err-push.was)

pub returns : goal.returns
returns c = let few = c.in-None.ensures.steps.1.0 in
    folding_end c.loop-pair.invariant.1
    (pairs_none c.loop-pair.pair-iterator.rest.now (omega (arith, few, c.loop-pair.invariant.0)))
