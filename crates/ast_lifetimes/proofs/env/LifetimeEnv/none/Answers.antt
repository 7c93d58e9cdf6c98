-- `LifetimeEnv::none` meets its contract: every place of the array holds what stands past the names.
use Rattle.ast_lifetimes.specs.Env.{named_env}
use Rattle.ast_lifetimes.proofs.env.LifetimeEnv.none.Goals as goal

pub returns : goal.returns
unfolding named_env
returns c = record { answer = rw c.none.ensures.answer }
