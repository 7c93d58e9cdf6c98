-- `put_lowered` meets its contract: the heading, then three lines.
use Prim.Native.Nat.{ℕ, ◌<◌, ◌^◌}
use mathlib.Core.List.{List, ◌++◌}
use native.Mathlib.Omega.{arith}
use lib.ListN.{length}
use Rattle.text.specs.Decimal.{line}
use Rattle.listing.specs.Listing.{lowered_heading}
use Rattle.text.proofs.PrintLaws.{prints, leaves_all, leaves_rest, leaves_none}
use borrow.Author.Rules.{rules}
use Rattle.listing.proofs.sections.put_lowered.Goals as goal

pub returns : goal.returns
returns c =
    let own : List ℕ = line c.args.own.now in
    let given : List ℕ = line c.args.given.now in
    let taken : List ℕ = line c.args.taken.now in
    let small : length c.args.out.now < 2 ^ 64 = search rules in
    let all = leaves_all (lowered_heading ++ (own ++ (given ++ taken))) c.args.at c.args.out.now
    small (omega (arith, c.ranges.at)) in
    let lines = leaves_rest {s = lowered_heading} (own ++ (given ++ taken)) all (prints
    (c.put_text-first.ensures.answer, c.put_text-first.ensures.stored)) in
    let two = leaves_rest {s = own} (given ++ taken) lines (prints (
      c.put_line-second.ensures.answer,
      c.put_line-second.ensures.stored,
    )) in
    let one = leaves_rest {s = given} taken two (prints (
      c.put_line-third.ensures.answer,
      c.put_line-third.ensures.stored,
    )) in
    leaves_none {s = taken} one (prints (c.put_line.ensures.answer, c.put_line.ensures.stored))
