-- `write_laid` meets its contract: refused for its ends, or written as the ten records are.
use mathlib.Core.Path.{sym, ap, ◌∙◌}
use mathlib.Core.List.{List}
use Prim.Native.Nat.{ℕ}
use lib.ListN.{length}
use Rattle.sheet.specs.Answer.{records_at}
use Rattle.sheet_writer.proofs.LaidLaws.{are_ten, laid_torn, laid_written}
use Rattle.sheet_writer.proofs.laid.write_laid.Goals as goal

pub returns-then-not-are_ends : goal.returns-then-not-are_ends
returns-then-not-are_ends c = let it = laid_torn c.args.words.now c.args.ends.now c.args.out.now c.are_ends.ensures
    c.if-not-are_ends.true in
    record { answer = it.0; stored = it.1 }

pub ten_of-requires : goal.ten_of-requires
ten_of-requires c = are_ten (length c.args.words.now) c.args.ends.now
    (sym c.are_ends.ensures ∙ c.if-not-are_ends.false)

pub returns : goal.returns
returns c =
    let found = c.laid.ensures.answer ∙ ap (λ (e : List ℕ). records_at c.args.words.now e) c.ten_of.ensures in
    let it = laid_written c.args.words.now c.args.ends.now c.args.out.now
    (sym c.are_ends.ensures ∙ c.if-not-are_ends.false) found
    (c.write_sheet.ensures.answer, c.write_sheet.ensures.stored) in
    record { answer = it.0; stored = it.1 }
