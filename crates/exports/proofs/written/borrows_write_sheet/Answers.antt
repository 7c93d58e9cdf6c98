-- `borrows_write_sheet` meets its contract: each way out is one law of proofs/ExportLaws.antt.
use mathlib.Core.Path.{refl}
use lib.ListN.{length}
use Rattle.exports.proofs.ExportLaws.{text_unplaced, text_given, text_refused, is_writing}
use borrow.Author.Rules.{rules}
use Rattle.exports.proofs.written.borrows_write_sheet.Goals as goal

pub returns-then-is_empty : goal.returns-then-is_empty
returns-then-is_empty c = record {
  answer = text_unplaced _ _ _ _ (search rules) (is_writing c.args.words.now c.args.ends.now 0) c.write_laid.ensures.answer c.unplaced.ensures c.number.ensures.answer refl refl;
}

pub returns-in-Ok : goal.returns-in-Ok
returns-in-Ok c = record {
  answer = text_given _ _ _ _ (search rules) (is_writing c.args.words.now c.args.ends.now (length c.args.out.now)) c.in-Ok.ensures.stored
      c.in-Ok.ensures.answer refl;
}

pub returns-in-Err : goal.returns-in-Err
returns-in-Err c = record {
  answer = text_refused _ _ _ _ (search rules) (is_writing c.args.words.now c.args.ends.now (length c.args.out.now)) c.in-Err.ensures.stored
      c.in-Err.ensures.answer c.number-in-Err.ensures.answer refl;
}
