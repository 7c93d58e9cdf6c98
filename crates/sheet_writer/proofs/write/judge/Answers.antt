-- `judge` meets its contract: 10, or what the reader says of the records.
use Rattle.sheet.specs.Text.{records_in}
use Rattle.sheet_writer.proofs.WriteLaws.{large_first, large_not}
use Rattle.sheet_writer.proofs.write.judge.Goals as goal

pub returns-then-any_large : goal.returns-then-any_large
returns-then-any_large c = large_first (records_in c.args.records) c.any_large.ensures c.if-any_large.true

pub returns : goal.returns
returns c = large_not (records_in c.args.records) c.any_large.ensures c.if-any_large.false c.sheet_shape.ensures.answer
