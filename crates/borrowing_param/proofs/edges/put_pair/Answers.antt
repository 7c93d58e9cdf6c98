-- `put_pair` meets its contract.
use mathlib.Core.Path.{ap}
use Rattle.lifetimes.specs.declared.lifetime.Lifetime.{Lifetime}
use Rattle.borrowing_param.proofs.EdgesLoops.{pair_stored}
use Rattle.borrowing_param.proofs.edges.put_pair.Goals as goal

pub returns : goal.returns
returns c = pair_stored c.args.edge c.args.at c.args.pairs.now c.args.edges.now c.requires.0 c.requires.2
    (ap (λ (l : Lifetime). l.0) c.new.ensures.answer) c.put.ensures c.insert.ensures.answer
