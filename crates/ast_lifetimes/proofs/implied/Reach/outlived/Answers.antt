-- `outlived` meets its contract: the code's test is the definition's.
use Rattle.ast_lifetimes.specs.Env.{names_of}
use Rattle.ast_lifetimes.proofs.PathLaws.{outlived_known, outlived_unknown}
use Rattle.ast_lifetimes.proofs.implied.Reach.outlived.Goals as goal

pub returns-in-Some : goal.returns-in-Some
returns-in-Some c = outlived_known (names_of c.args.env.now) c.args.self.now.sets c.args.name c.id.ensures c.in-Some.is

pub returns-in-None : goal.returns-in-None
returns-in-None c = outlived_unknown (names_of c.args.env.now) c.args.self.now.sets c.args.name c.id.ensures c.in-None.is
