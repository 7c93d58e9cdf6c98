-- `Bounds::none` meets its contract: every place of the array holds what stands past the bounds.
use Rattle.lifetimes.specs.Bounds.{bounds_from}
use Rattle.lifetimes.proofs.bounds.Bounds.none.Goals as goal

pub returns : goal.returns
unfolding bounds_from
returns c = record { answer = rw c.bound_of-list.ensures }
