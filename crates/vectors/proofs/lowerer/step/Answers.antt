-- `step` leaves what was left, from some place on: records, a lowerer and numbers are taken off in turn.
use Rattle.input.proofs.LeftLaws.{takes_more}
use Rattle.vectors.proofs.lowerer.step.Goals as goal

pub returns : goal.returns
returns g c = record { left = search takes_more }
