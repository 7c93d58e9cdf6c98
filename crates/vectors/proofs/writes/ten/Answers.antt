-- `ten` leaves what was left, from some place on: ten records and a length are taken off in turn.
use Rattle.input.proofs.LeftLaws.{takes_more}
use Rattle.vectors.proofs.writes.ten.Goals as goal

pub returns : goal.returns
returns g c = record {
  left =
      takes_more _ _ _ c.record.ensures.left (
      takes_more _ _ _ c.record-2.ensures.left (
      takes_more _ _ _ c.record-3.ensures.left (
      takes_more _ _ _ c.record-4.ensures.left (
      takes_more _ _ _ c.record-5.ensures.left (
      takes_more _ _ _ c.record-6.ensures.left (
      takes_more _ _ _ c.record-7.ensures.left (
      takes_more _ _ _ c.record-8.ensures.left (
      takes_more _ _ _ c.record-9.ensures.left (
      takes_more _ _ _ c.record-10.ensures.left (
      c.number.ensures.left))))))))));
}
