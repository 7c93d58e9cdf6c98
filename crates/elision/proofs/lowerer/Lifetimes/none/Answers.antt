-- `none` meets its contract.
use mathlib.Core.Path.{refl}
use Rattle.elision.specs.Machine.{laid}
use Rattle.elision.proofs.lowerer.Lifetimes.none.Goals as goal

pub returns : goal.returns
unfolding laid
returns c = refl
