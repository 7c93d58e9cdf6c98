-- `put` leaves what was left, from some place on: numbers and a record are taken off in turn.
use Rattle.input.proofs.LeftLaws.{takes_more}
use Rattle.vectors.proofs.texts.put.Goals as goal

pub returns : goal.returns
returns g c = record { left = search takes_more }
