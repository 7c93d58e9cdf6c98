-- `extend_path` meets its contract: each turn passes over a lifetime, or pushes it and joins its bound.
use native.Mathlib.Omega.{arith}
use Rattle.std.proofs.lemmas.Result.{err_from_is_err_and}
use Rattle.ast_lifetimes.proofs.StandsLaws.{stands_few, leaves_stands}
use Rattle.ast_lifetimes.proofs.PathLoops.{pathing_passed, pathing_refused, pathing_below, pathing_pushed}
use Rattle.ast_lifetimes.proofs.PathLoops.{pathing_end}
use Rattle.ast_lifetimes.proofs.env.LifetimeEnv.extend_path.Goals as goal
use Rattle.ast_lifetimes.proofs.env.LifetimeEnv.extend_path.Goals.{then-is_implied+in_ok-bound, else-is_implied}

pub outlived-taken-requires : goal.outlived-taken-requires
outlived-taken-requires c = stands_few c.requires.stands

pub is_implied-requires : goal.is_implied-requires
is_implied-requires c = stands_few c.loop-word.invariant.run.stands

pub returns-in_err-bound : goal.returns-in_err-bound
returns-in_err-bound c =
    let p = err_from_is_err_and c.from_residual.result c.from_residual.ensures.1 in
    record {
      pushed = rw (p.1, p.2)
          (pathing_refused c.loop-word.invariant c.loop-word-test.true c.requires.stands c.args.reach.now.sets
          c.requires.reaches c.outlived-taken.ensures c.is_implied.ensures c.if-is_implied.true c.push.ensures.pushed
          c.in_err-bound.was);
      reached = rw p.1 tt;
    }

pub join-requires : goal.join-requires
join-requires c =
    let below = pathing_below c.loop-word.invariant c.loop-word-test.true c.requires.stands c.args.reach.now.sets
    c.requires.reaches c.outlived-taken.ensures c.is_implied.ensures c.if-is_implied.true c.push.ensures.pushed
    c.in_ok-bound.was c.in_ok-bound.ensures.bound in
    (stands_few (leaves_stands c.push.ensures.pushed c.in_ok-bound.was).1, below.0, below.1)

pub loop-word-preserved : goal.loop-word-preserved
loop-word-preserved c = elim c.if-is_implied.branch [
  | then-is_implied+in_ok-bound w ↦
      rw (w.self-is, w.reach-is)
      (pathing_pushed c.loop-word.invariant c.loop-word-test.true c.requires.stands c.args.reach.now.sets
      c.requires.reaches c.outlived-taken.ensures c.is_implied.ensures w.if-is_implied.true w.push.ensures.pushed
      w.in_ok-bound.was w.in_ok-bound.ensures.bound _ w.join.ensures)
  | else-is_implied w ↦
      rw (w.self-is, w.reach-is)
      (pathing_passed c.loop-word.invariant c.loop-word-test.true c.requires.stands c.args.reach.now.sets
      c.requires.reaches c.outlived-taken.ensures c.is_implied.ensures w.if-is_implied.false)
]

pub returns : goal.returns
returns c = record {
  pushed = pathing_end c.loop-word.invariant (omega arith);
  reached = c.loop-word.invariant.reaches;
}
