-- `extend_lifetimes` meets its contract: each name is one step of the run.
use native.Mathlib.Numerals.{add-one}
use native.Mathlib.Omega.{arith}
use lib.ListN.{drop_of_length-le}
use lib.Seq.{drop-cons}
use Rattle.std.proofs.lemmas.Result.{err_from_is_err_and}
use Rattle.ast_lifetimes.proofs.StandsLaws.{folding_refused, folding_more, folding_end}
use Rattle.ast_lifetimes.proofs.env.LifetimeEnv.extend_lifetimes.Goals as goal

pub returns-in_err-declare : goal.returns-in_err-declare
returns-in_err-declare c = let p = err_from_is_err_and c.from_residual.result c.from_residual.ensures.1 in
    rw (p.1, p.2)
    (folding_refused c.loop-name.invariant (drop-cons c.args.names.now c.loop-name.name-index 0 c.loop-name-test.true)
    c.declare.ensures c.in_err-declare.was)

pub loop-name-preserved : goal.loop-name-preserved
loop-name-preserved c = rw (add-one c.loop-name.name-index)
    (folding_more c.loop-name.invariant (drop-cons c.args.names.now c.loop-name.name-index 0 c.loop-name-test.true)
    c.declare.ensures c.in_ok-declare.was)

pub returns : goal.returns
returns c = folding_end c.loop-name.invariant (drop_of_length-le c.args.names.now {i = c.loop-name.name-index} (omega arith))
