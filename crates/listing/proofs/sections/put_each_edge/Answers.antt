-- `put_each_edge` meets its contract: each turn prints one edge.
use Prim.Native.Nat.{◌<◌, ◌^◌}
use mathlib.Core.Path.{refl, ◌∙◌}
use lib.ListN.{length}
use native.Mathlib.Omega.{arith}
use borrow.Author.Rules.{rules}
use Rattle.listing.proofs.SectionsLaws.{edging_start, edging_end, edging_more}
use Rattle.text.proofs.PrintLaws.{prints}
use Rattle.listing.proofs.sections.put_each_edge.Goals as goal

pub loop-edge-init : goal.loop-edge-init
loop-edge-init c =
    let small : length c.args.out.now < 2 ^ 64 = search rules in
    rw (
      c.into_iter-edge-iterator.ensures.into_iter_gives,
      c.chunks_exact-edge-items.ensures.rest,
      c.chunks_exact-edge-items.ensures.size,
    )
    (edging_start c.args.edges.now c.args.at c.args.out.now small (omega (arith, c.ranges.at)), refl)

pub loop-edge-preserved : goal.loop-edge-preserved
loop-edge-preserved c =
    let steps = c.in-Some.ensures.steps in (
      edging_more c.loop-edge.invariant.0 c.in-Some.edge.now c.next.new.self.rest.now steps.1.0 (steps.1.1 ∙ c.loop-edge.invariant.1)
          (prints (c.put_line-next.ensures.answer, c.put_line-next.ensures.stored)),
      steps.0 ∙ c.loop-edge.invariant.1,
    )

pub returns : goal.returns
returns c = edging_end c.loop-edge.invariant.0
    (omega (arith, c.in-None.ensures.steps.1.0, c.loop-edge.invariant.1))
