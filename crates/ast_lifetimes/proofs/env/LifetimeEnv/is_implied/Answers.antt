-- `is_implied` meets its contract: each of its answers is that of the definition's tests.
use Rattle.ast_lifetimes.specs.Env.{names_of}
use Rattle.ast_lifetimes.proofs.PathLaws.{implied_known, implied_unknown}
use Rattle.ast_lifetimes.proofs.env.LifetimeEnv.is_implied.Goals as goal

pub returns-in-Some : goal.returns-in-Some
returns-in-Some c = rw (c.contains.ensures.answer, c.new.ensures.answer)
    (implied_known (names_of c.args.self.now) c.args.taken c.args.word c.id.ensures c.if-word-lt2.false c.in-Some.is)

pub returns-in-None : goal.returns-in-None
returns-in-None c = implied_unknown (names_of c.args.self.now) c.args.taken c.args.word c.id.ensures c.if-word-lt2.false c.in-None.is
