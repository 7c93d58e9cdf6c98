-- `set::with` meets its contract: a bit shifted by less than 64 fits, so it is the power of two of the definition.
use native.Mathlib.Nat.{one-mul, mod-eq_of_lt}
use lib.Pow.{pow-lt}
use Rattle.lifetimes.specs.Sets.{insert}
use Rattle.lifetimes.proofs.set.with.Goals as goal

pub returns : goal.returns
unfolding insert
returns c = rw (one-mul, mod-eq_of_lt (pow-lt {j = 64} c.requires))
