-- `put_sheet` meets its contract: the heading, three times three lines, and the last.
use Prim.Native.Nat.{ℕ, ◌<◌, ◌^◌}
use mathlib.Core.List.{List, ◌++◌}
use native.Mathlib.Omega.{arith}
use lib.ListN.{length}
use Rattle.text.specs.Decimal.{line}
use Rattle.text.proofs.PrintLaws.{prints, leaves_all, leaves_rest, leaves_none}
use Rattle.sheet.specs.Text.{heading, records_in}
use Rattle.sheet_writer.proofs.PrintLaws.{three, prints_text}
use borrow.Author.Rules.{rules}
use Rattle.sheet_writer.proofs.print.put_sheet.Goals as goal

pub returns : goal.returns
returns c =
    let environment : List ℕ = three c.args.records.names.now c.args.records.bounds.now c.args.records.types.now in
    let elision : List ℕ = three c.args.records.own.now c.args.records.steps.now c.args.records.returns.now in
    let method : List ℕ = three c.args.records.structs.now c.args.records.params.now c.args.records.output.now in
    let last : List ℕ = line c.args.records.force.now in
    let small : length c.args.out.now < 2 ^ 64 = search rules in
    let all = leaves_all (heading ++ (environment ++ (elision ++ (method ++ last)))) 0 c.args.out.now
    small (omega arith) in
    let four = leaves_rest {s = heading} (environment ++ (elision ++ (method ++ last))) all
    (prints (c.put_text-environment.ensures.answer, c.put_text-environment.ensures.stored)) in
    let three = leaves_rest {s = environment} (elision ++ (method ++ last)) four c.put_three-elision.ensures in
    let two = leaves_rest {s = elision} (method ++ last) three c.put_three-method.ensures in
    let one = leaves_rest {s = method} last two c.put_three-last.ensures in
    prints_text (records_in c.args.records) (leaves_none {s = last} one (prints (c.put_line.ensures.answer, c.put_line.ensures.stored)))
