-- `are_ends` meets its contract: not ten, or ten that are asked whether they ascend.
use Rattle.sheet_writer.proofs.LaidLaws.{not_ten, ten_ascend}
use borrow.Author.Rules.{rules}
use Rattle.sheet_writer.proofs.laid.are_ends.Goals as goal

pub returns-then-ends-ne-RECORDS : goal.returns-then-ends-ne-RECORDS
returns-then-ends-ne-RECORDS c = search (not_ten, rules)

pub returns : goal.returns
returns c = search (ten_ascend, rules)
