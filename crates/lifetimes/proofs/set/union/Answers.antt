-- `set::union` meets its contract: the code's `|` is the definition.
use mathlib.Core.Path.{refl}
use Rattle.lifetimes.specs.Sets.{union}
use Rattle.lifetimes.proofs.set.union.Goals as goal

pub returns : goal.returns
unfolding union
returns c = record { answer = refl }
