-- `list` meets its contract: the index is that of the environment, linked in the order that is asked for, and the walk
-- over it lists the traversal in that order.
use mathlib.Core.Path.{◌∙◌}
use native.Mathlib.Omega.{arith}
use Rattle.lifetimes.specs.Env.{bounds_of}
use Rattle.lifetimes.specs.Walk.{order_of}
use Rattle.lifetimes.specs.Index.{graph_in}
use Rattle.lifetimes.proofs.ReachAnswers.{list_by_lem}
use Rattle.lifetimes.proofs.reach.list.Goals as goal

pub walk-requires : goal.walk-requires
walk-requires c = (
  (graph_in (order_of c.args.ast) c.args.longer (bounds_of c.args.env.now), c.link.ensures.indexed),
  omega (arith, c.link.ensures.count, c.requires.1),
)

pub returns : goal.returns
returns c = (
  c.walk.ensures.count_le_most_lifetimes,
  (c.walk.ensures.complete (graph_in (order_of c.args.ast) c.args.longer (bounds_of c.args.env.now)) c.link.ensures.indexed).items
      ∙ list_by_lem c.args.ast c.args.longer c.args.env.now c.args.start,
)
