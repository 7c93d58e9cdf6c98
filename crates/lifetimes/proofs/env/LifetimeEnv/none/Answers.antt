-- `LifetimeEnv::none` meets its contract.
use Rattle.lifetimes.specs.Env.{env_of}
use Rattle.lifetimes.proofs.env.LifetimeEnv.none.Goals as goal

pub returns : goal.returns
unfolding env_of
returns c = record { answer = rw (c.from_bounds.ensures.answer, c.none.ensures.answer) }
