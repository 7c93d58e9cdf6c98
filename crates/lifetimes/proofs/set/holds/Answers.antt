-- `set::holds` meets its contract: the code's bit test is the definition.
use mathlib.Core.Path.{refl}
use Rattle.lifetimes.specs.Sets.{member}
use Rattle.lifetimes.proofs.set.holds.Goals as goal

pub returns : goal.returns
unfolding member
returns c = refl
