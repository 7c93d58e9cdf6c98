-- `set::contains` meets its contract: a lifetime of 64 or more is in no set of 64 bits.
use mathlib.Core.Path.{sym}
use native.Mathlib.Omega.{arith}
use borrow.Author.Tests.{le-ltb}
use Rattle.lifetimes.proofs.SetLaws.{member_past}
use Rattle.lifetimes.proofs.set.contains.Goals as goal

pub returns-else-number-lt-CAPACITY : goal.returns-else-number-lt-CAPACITY
returns-else-number-lt-CAPACITY c = record {
  answer = rw (le-ltb c.index-number.result 64 c.if-number-lt-CAPACITY.false)
      (sym (member_past 64 c.args.set c.args.lifetime.0 (omega arith) (omega (arith, c.index-number.ensures.answer))));
}
