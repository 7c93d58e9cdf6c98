-- `store_one` meets its contract.
use mathlib.Core.Path.{sym, ◌∙◌}
use Rattle.borrowing_param.proofs.EdgesLoops.{one_stored, one_room, none_stored}
use Rattle.borrowing_param.proofs.edges.Param.store_one.Goals as goal

pub returns-then-not-is_drawn : goal.returns-then-not-is_drawn
returns-then-not-is_drawn c = none_stored _ _ _ _ _ _ _ (sym c.is_drawn.ensures ∙ c.if-not-is_drawn.true)

pub put-requires : goal.put-requires
put-requires c = one_room _ _ _ _ _ _ c.args.edges.now (sym c.is_drawn.ensures ∙ c.if-not-is_drawn.false) c.requires

pub returns : goal.returns
returns c = one_stored _ _ _ _ _ _ _ (sym c.is_drawn.ensures ∙ c.if-not-is_drawn.false) c.put.ensures
