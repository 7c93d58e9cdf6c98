-- `LifetimeEnv::check` meets its contract: the names, then the bounds.
use borrow.Author.Rules.{rules}
use Rattle.ast_lifetimes.proofs.EnvLaws.{check_names, check_empty, check_bounds}
use Rattle.ast_lifetimes.proofs.env.LifetimeEnv.check.Goals as goal

pub returns-then-named-gt-MAX_NAMES : goal.returns-then-named-gt-MAX_NAMES
returns-then-named-gt-MAX_NAMES c = search (check_names, rules)

pub returns-then-self-eq0 : goal.returns-then-self-eq0
returns-then-self-eq0 c = search (check_empty, rules)

pub returns : goal.returns
returns c = search (check_bounds, rules)
