-- `made_by_hand` leaves what was left, from some place on: numbers and a record are taken off in turn.
use Rattle.input.proofs.LeftLaws.{takes_more}
use Rattle.vectors.proofs.lowerer.made_by_hand.Goals as goal

pub returns : goal.returns
returns c = record { left = search takes_more }
