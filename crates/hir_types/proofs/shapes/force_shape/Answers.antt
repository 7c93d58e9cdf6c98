-- `force_shape` meets its contract.
use Rattle.hir_types.proofs.ShapeLaws.{force_torn, force_retired, force_taken}
use borrow.Author.Rules.{rules}
use Rattle.hir_types.proofs.shapes.force_shape.Goals as goal

pub returns-then-force-ne1 : goal.returns-then-force-ne1
returns-then-force-ne1 c = search (force_torn, rules)

pub returns-in-0 : goal.returns-in-0
returns-in-0 c = search (force_taken, rules)

pub returns-in-1 : goal.returns-in-1
returns-in-1 c = search (force_retired, rules)

pub returns-in_default : goal.returns-in_default
returns-in_default c = search (force_torn, rules)
