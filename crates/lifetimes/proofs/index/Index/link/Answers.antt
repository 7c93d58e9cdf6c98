-- `link` meets its contract: its loop makes the index of one bound more with each turn.
use mathlib.Core.Path.{refl}
use native.Mathlib.Omega.{arith}
use borrow.Author.Rules.{rules}
use Rattle.lifetimes.proofs.IndexLoops.{linking_start, link_near, link_far, link_more, link_end}
use Rattle.lifetimes.proofs.index.Index.link.Goals as goal

pub loop-i-init : goal.loop-i-init
loop-i-init c = record { linking = linking_start _ _ _; declared = refl; count = refl }

pub bounds-index-x : goal.bounds-index-x
bounds-index-x c = link_near c.args.ast c.args.longer c.args.env.now c.requires (search rules) c.loop-i.invariant (search rules) c.place-at.ensures c.near-x.ensures

pub offset_bounds-index-x : goal.offset_bounds-index-x
offset_bounds-index-x c =
    omega (arith, link_near c.args.ast c.args.longer c.args.env.now c.requires (search rules) c.loop-i.invariant (search rules) c.place-at.ensures c.near-x.ensures)

pub bounds-index-x-in-loop-i : goal.bounds-index-x-in-loop-i
bounds-index-x-in-loop-i c = link_near c.args.ast c.args.longer c.args.env.now c.requires (search rules) c.loop-i.invariant (search rules) c.place-at.ensures c.near-x.ensures

pub offset_bounds-index-x-in-loop-i : goal.offset_bounds-index-x-in-loop-i
offset_bounds-index-x-in-loop-i c =
    omega (arith, link_near c.args.ast c.args.longer c.args.env.now c.requires (search rules) c.loop-i.invariant (search rules) c.place-at.ensures c.near-x.ensures)

pub overflow_cast-index : goal.overflow_cast-index
overflow_cast-index c =
    omega (arith, link_far c.args.ast c.args.longer c.args.env.now c.requires (search rules) c.loop-i.invariant (search rules) c.place-at.ensures c.far-y.ensures)

pub loop-i-preserved : goal.loop-i-preserved
loop-i-preserved c =
    link_more c.args.ast c.args.longer c.args.env.now c.requires (search rules) c.loop-i.invariant (search rules) c.place-at.ensures c.near-x.ensures c.far-y.ensures

pub returns : goal.returns
returns c = record {
  indexed = link_end c.args.ast c.args.longer c.args.env.now c.requires (search rules) c.loop-i.invariant (search rules);
  count = c.loop-i.invariant.count;
}
