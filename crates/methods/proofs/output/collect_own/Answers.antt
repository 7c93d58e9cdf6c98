-- `collect_own` meets its contract: one lifetime or none.
use Rattle.methods.proofs.OutputLaws.{own_absent}
use borrow.Author.Rules.{rules}
use Rattle.methods.proofs.output.collect_own.Goals as goal

pub returns-in-None : goal.returns-in-None
returns-in-None c = search (own_absent, rules)
