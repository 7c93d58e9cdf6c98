-- `walk` meets its contract: each turn lists the next unseen lifetime.
use borrow.Author.Rules.{rules}
use mathlib.Core.Path.{refl, ◌∙◌}
use native.Mathlib.Omega.{arith}
use lib.ListN.{length-set}
use Rattle.lifetimes.proofs.WalkLoops.{turn_first, turn_full, turn_small, turn_end, turn_pushed, turn_ended}
use Rattle.lifetimes.proofs.index.Index.walk.Goals as goal
use Rattle.lifetimes.proofs.index.Index.walk.Goals.{then-rest-ne0, else-rest-ne0}

pub loop-count-init : goal.loop-count-init
loop-count-init c = (refl, turn_first c.limit-limit.ensures c.args.items.now _ (search rules) c.with-seen.ensures)

pub returns-in_default : goal.returns-in_default
returns-in_default c = record {
  count_le_most_lifetimes = omega (arith, c.requires.0.1.counted, c.limit-limit.ensures);
  complete = turn_end c.limit-limit.ensures c.requires.0 c.loop-count.invariant.1 c.advance-stepped.ensures
      c.in_default.is;
}

pub with-seen-requires-in-loop-count : goal.with-seen-requires-in-loop-count
with-seen-requires-in-loop-count c = omega (
  arith,
  turn_small c.limit-limit.ensures c.requires.0 c.loop-count.invariant.1 c.advance-stepped.ensures c.in-Some.is,
)

pub bounds-self-y : goal.bounds-self-y
bounds-self-y c = omega (
  arith,
  turn_small c.limit-limit.ensures c.requires.0 c.loop-count.invariant.1 c.advance-stepped.ensures c.in-Some.is,
)

pub offset_bounds-self-y : goal.offset_bounds-self-y
offset_bounds-self-y c = omega (
  arith,
  turn_small c.limit-limit.ensures c.requires.0 c.loop-count.invariant.1 c.advance-stepped.ensures c.in-Some.is,
)

pub loop-count-preserved : goal.loop-count-preserved
loop-count-preserved c =
    let stack = c.loop-count.invariant.0 in
    elim c.if-rest-ne0.branch [
      | then-rest-ne0 v ↦ rw (v.stack-is, v.depth-is) (
        length-set c.loop-count.stack c.advance-stepped.result.depth c.advance-stepped.result.at ∙ stack,
        turn_pushed c.limit-limit.ensures c.requires.0 c.loop-count.invariant.1 c.advance-stepped.ensures c.in-Some.is
            c.loop-count-test.true (search rules) c.with-seen-in-loop-count.ensures c.index-y.ensures.answer stack,
      )
      | else-rest-ne0 v ↦ rw (v.stack-is, v.depth-is) (
        stack,
        turn_ended c.limit-limit.ensures c.requires.0 c.loop-count.invariant.1 c.advance-stepped.ensures c.in-Some.is
            c.loop-count-test.true (search rules) c.with-seen-in-loop-count.ensures c.index-y.ensures.answer
            v.if-rest-ne0.false,
      )
    ]

pub returns : goal.returns
returns c = record {
  count_le_most_lifetimes = omega (arith, c.requires.0.1.counted, c.limit-limit.ensures);
  complete = turn_full c.limit-limit.ensures c.requires.0 c.loop-count.invariant.1 (omega arith);
}
