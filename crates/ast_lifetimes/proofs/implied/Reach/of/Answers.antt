-- `of` meets its contract: each turn joins one bound more.
use mathlib.Core.Path.{◌≡◌}
use native.Mathlib.Omega.{arith}
use borrow.Author.Rules.{rules}
use lib.ListN.{length}
use Rattle.ast_lifetimes.proofs.OutlivedLaws.{reaching_more}
use Rattle.ast_lifetimes.proofs.StandsLaws.{stands_few, stands_pushed, stands_below}
use Rattle.ast_lifetimes.proofs.implied.Reach.of.Goals as goal

pub each_itself-reach-requires : goal.each_itself-reach-requires
each_itself-reach-requires c = stands_few c.requires

pub offset_bounds-env-i : goal.offset_bounds-env-i
offset_bounds-env-i c = omega (arith, stands_pushed c.requires, c.requires.few_bounds)

pub bounds-env-i : goal.bounds-env-i
bounds-env-i c = omega (arith, stands_pushed c.requires, c.requires.few_bounds)

pub join-requires : goal.join-requires
join-requires c = let below = stands_below c.requires c.loop-i.i c.loop-i-test.true in
    (stands_few c.requires, below.0, below.1)

pub loop-i-preserved : goal.loop-i-preserved
loop-i-preserved c =
    let whole : length c.args.env.now.bounds.list ≡ 256 = search rules in
    reaching_more c.args.env.now.named c.loop-i.i c.args.env.now.bounds.list _ _
    (omega (arith, whole, stands_pushed c.requires, c.requires.few_bounds)) c.join.ensures c.loop-i.invariant
