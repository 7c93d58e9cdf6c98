-- `is_drawn` meets its contract: each way out is a law of proofs/EdgesLaws.antt.
use Rattle.borrowing_param.specs.Visit.{draws_in}
use Rattle.borrowing_param.specs.Inner.{typed}
use Rattle.borrowing_param.proofs.EdgesLaws.{drawn_path, drawn_own, drawn_absent}
use borrow.Author.Rules.{rules}
use Rattle.borrowing_param.proofs.edges.Param.is_drawn.Goals as goal

pub returns-then-any_draws : goal.returns-then-any_draws
returns-then-any_draws c = search (drawn_path, rules)

pub returns-in-Some : goal.returns-in-Some
returns-in-Some c = let p = c.args.self in
    drawn_own (draws_in c.args.set) (typed p.parts p.path.now) c.any_draws.ensures c.if-any_draws.false
    c.lifetime.ensures.answer c.in-Some.is c.draws.ensures

pub returns-in-None : goal.returns-in-None
returns-in-None c = let p = c.args.self in
    drawn_absent (draws_in c.args.set) (typed p.parts p.path.now) c.any_draws.ensures c.if-any_draws.false
    c.lifetime.ensures.answer c.in-None.is
