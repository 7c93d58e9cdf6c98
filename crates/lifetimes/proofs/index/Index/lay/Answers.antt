-- `lay` meets its contract: each turn walks from one lifetime more and lays its list behind the others.
use native.Mathlib.Omega.{arith}
use borrow.Author.Rules.{rules}
use Rattle.lifetimes.proofs.ReachLoops.{laying_end, turn_room, turn_lays}
use Rattle.lifetimes.proofs.index.Index.lay.Goals as goal

pub slice_bounds-copy_from_slice-end : goal.slice_bounds-copy_from_slice-end
slice_bounds-copy_from_slice-end c =
    turn_room c.requires.layable c.loop-x.invariant (search rules) c.loop-x-test.true {items = c.walk-walked.new.items}
    (omega (arith, c.walk-walked.ensures.count_le_most_lifetimes)) c.walk-walked.ensures.complete

pub loop-x-preserved : goal.loop-x-preserved
loop-x-preserved c =
    turn_lays c.requires.layable c.loop-x.invariant (search rules) c.loop-x-test.true {items = c.walk-walked.new.items}
    (omega (arith, c.walk-walked.ensures.count_le_most_lifetimes)) c.walk-walked.ensures.complete c.copy_from_slice.ensures.after

pub returns : goal.returns
returns c = λ g k. laying_end (c.loop-x.invariant g k) c.loop-x-test.false
