-- `any_large` meets its contract: one of ten; the library's test of a record is the definition's.
use Rattle.answers.specs.Lists.{any}
use Rattle.sheet.specs.Text.{records_in}
use Rattle.sheet_writer.proofs.LargeLaws.{ten_large}
use Rattle.sheet_writer.proofs.large.any_large.Goals as goal

pub returns : goal.returns
unfolding any
returns c = ten_large (records_in c.args.records) c.has_large.ensures c.has_large-2.ensures c.has_large-3.ensures
    c.has_large-4.ensures c.has_large-5.ensures c.has_large-6.ensures c.has_large-7.ensures c.has_large-8.ensures
    c.has_large-9.ensures c.has_large-10.ensures
