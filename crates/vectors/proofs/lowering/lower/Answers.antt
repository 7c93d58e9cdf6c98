-- `lower` leaves what was left, from some place on: six records and three lengths are taken off in turn.
use Rattle.input.proofs.LeftLaws.{takes_more}
use Rattle.vectors.proofs.lowering.lower.Goals as goal

pub returns : goal.returns
returns g c = record {
  left =
      takes_more _ _ _ c.record-names.ensures.left (
      takes_more _ _ _ c.record-bounds.ensures.left (
      takes_more _ _ _ c.record.ensures.left (
      takes_more _ _ _ c.record-receiver.ensures.left (
      takes_more _ _ _ c.record-steps.ensures.left (
      takes_more _ _ _ c.record-returns.ensures.left (
      takes_more _ _ _ c.number.ensures.left (
      takes_more _ _ _ c.number-2.ensures.left (
      c.number-3.ensures.left))))))));
}
