-- `put_three` meets its contract: three lines, one after another.
use Prim.Native.Nat.{ℕ, ◌<◌, ◌^◌}
use mathlib.Core.List.{List, ◌++◌}
use native.Mathlib.Omega.{arith}
use lib.ListN.{length}
use Rattle.text.specs.Decimal.{line}
use Rattle.text.proofs.PrintLaws.{prints, leaves_all, leaves_rest, leaves_none}
use borrow.Author.Rules.{rules}
use Rattle.sheet_writer.proofs.print.put_three.Goals as goal

pub returns : goal.returns
returns c =
    let first : List ℕ = line c.args.first.now in
    let second : List ℕ = line c.args.second.now in
    let third : List ℕ = line c.args.third.now in
    let small : length c.args.out.now < 2 ^ 64 = search rules in
    let all = leaves_all (first ++ (second ++ third)) c.args.at c.args.out.now small
    (omega (arith, c.ranges.at)) in
    let two = leaves_rest {s = first} (second ++ third) all (prints (
      c.put_line-next.ensures.answer,
      c.put_line-next.ensures.stored,
    )) in
    let one = leaves_rest {s = second} third two (prints (
      c.put_line-last.ensures.answer,
      c.put_line-last.ensures.stored,
    )) in
    leaves_none {s = third} one (prints (c.put_line.ensures.answer, c.put_line.ensures.stored))
