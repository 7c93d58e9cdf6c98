-- `all_fit` meets its contract: as many words for each list as there are lifetimes are enough, and else the total is
-- what `measure` gives.
use mathlib.Core.Path.{sym}
use native.Mathlib.Omega.{arith}
use borrow.Author.Tests.{le-leb}
use mathlib.Core.List.{flatten}
use lib.ListN.{length}
use Rattle.lifetimes.specs.Index.{lists_from}
use Rattle.lifetimes.proofs.ReachLoops.{lists_few}
use Rattle.lifetimes.proofs.index.Index.all_fit.Goals as goal

pub returns-then-self-room : goal.returns-then-self-room
returns-then-self-room c = λ g k.
    let n = c.args.self.now.count in
    record {
      fits = sym (le-leb (length (flatten (lists_from g 0 n))) c.args.room
          (omega (arith, lists_few g n (λ b i. omega (arith, k.within b i, k.declares)) 0 n (omega arith))));
    }
