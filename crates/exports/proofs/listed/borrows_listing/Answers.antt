-- `borrows_listing` meets its contract: each way out is one law of proofs/ExportLaws.antt.
use mathlib.Core.Path.{refl}
use lib.ListN.{length}
use Rattle.exports.proofs.ExportLaws.{text_unplaced, text_given, text_refused, is_listing}
use borrow.Author.Rules.{rules}
use Rattle.exports.proofs.listed.borrows_listing.Goals as goal

pub returns-then-is_empty : goal.returns-then-is_empty
returns-then-is_empty c = record {
  answer = text_unplaced _ _ _ _ (search rules) (is_listing c.args.sheet.now 0) c.listing.ensures.answer c.unplaced.ensures c.number.ensures.answer refl refl;
}

pub returns-in-Ok : goal.returns-in-Ok
returns-in-Ok c = record {
  answer = text_given _ _ _ _ (search rules) (is_listing c.args.sheet.now (length c.args.out.now)) c.in-Ok.ensures.stored
      c.in-Ok.ensures.answer refl;
}

pub returns-in-Err : goal.returns-in-Err
returns-in-Err c = record {
  answer = text_refused _ _ _ _ (search rules) (is_listing c.args.sheet.now (length c.args.out.now)) c.in-Err.ensures.stored
      c.in-Err.ensures.answer c.number-in-Err.ensures.answer refl;
}
