-- `reach_sets` meets its contract: refused as the environment is, or all sets as `measure` gives them.
use Rattle.std.proofs.lemmas.Result.{err_from_is_err_and}
use Rattle.lifetimes.specs.Index.{graph_of}
use Rattle.lifetimes.proofs.EnvLaws.{check_passed, check_failed}
use Rattle.lifetimes.proofs.ReachAnswers.{sets_refused, sets_given}
use Rattle.lifetimes.proofs.env.LifetimeEnv.reach_sets.Goals as goal

pub returns-in_err-check : goal.returns-in_err-check
returns-in_err-check c = record {
  answer = let p = err_from_is_err_and c.from_residual.result c.from_residual.ensures.1 in
      rw (p.1, p.2) (sets_refused c.args.longer c.args.self (check_failed c.args.self c.in_err-check.ensures.answer));
}

pub link-index-requires : goal.link-index-requires
link-index-requires c = check_passed c.args.self c.in_ok-check.ensures.answer

pub measure-requires : goal.measure-requires
measure-requires c = (graph_of c.args.longer c.args.self, c.link-index.ensures.indexed)

pub returns : goal.returns
returns c = record {
  answer = let g = graph_of c.args.longer c.args.self in
      sets_given c.args.longer c.args.self (check_passed c.args.self c.in_ok-check.ensures.answer)
      (rw c.link-index.ensures.count at (c.measure.ensures g c.link-index.ensures.indexed));
}
