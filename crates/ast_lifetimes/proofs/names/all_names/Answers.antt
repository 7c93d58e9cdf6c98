-- `all_names` meets its contract: what passes the library's `all` passes the definition's.
use borrow.Author.Rules.{rules}
use mathlib.Core.Logic.{◌↔◌}
use Prim.Native.Nat.{◌≤◌}
use lib.ListN.{get_or}
use Rattle.std.specs.Prelude.{IsTrue, EachIndex}
use Rattle.ast_lifetimes.proofs.ShapeLaws.{all_names_lem}
use Rattle.ast_lifetimes.proofs.names.all_names.Goals as goal

pub returns : goal.returns
returns c =
    let each : IsTrue c.all.result ↔ EachIndex c.args.words.now (λ i. 2 ≤ get_or c.args.words.now i 0) = search rules in
    all_names_lem c.args.words.now each
