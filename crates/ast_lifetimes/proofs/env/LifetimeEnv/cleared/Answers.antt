-- `cleared` meets its contract: the places behind the names and behind the bounds are filled.
use mathlib.Core.Path.{◌≡◌}
use lib.ListN.{length}
use borrow.Author.Rules.{rules}
use Rattle.ast_lifetimes.proofs.StandsLaws.{cleared_env}
use Rattle.ast_lifetimes.proofs.env.LifetimeEnv.cleared.Goals as goal

pub returns : goal.returns
returns c =
    let full : length c.args.self.names ≡ 32 = search rules in
    let whole : length c.args.self.bounds.list ≡ 256 = search rules in
    cleared_env c.args.self full whole c.requires (c.fill.ensures.after (λ y e. e)) (c.fill-2.ensures.after (λ y e. e))
