-- `set::count` meets its contract: the ones of a number of 64 bits are its members, and at most 64.
use native.Mathlib.Omega.{arith}
use Rattle.lifetimes.proofs.SetLaws.{count_ones}
use Rattle.lifetimes.proofs.set.count.Goals as goal

pub returns : goal.returns
returns c = record { answer = count_ones c.args.set (omega arith) }
