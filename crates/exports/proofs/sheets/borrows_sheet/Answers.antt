-- `borrows_sheet` meets its contract: each way out is one law of proofs/ExportLaws.antt.
use mathlib.Core.Path.{refl}
use Rattle.exports.proofs.ExportLaws.{no_places, borrowed_refused, borrowed_given}
use borrow.Author.Rules.{rules}
use Rattle.exports.proofs.sheets.borrows_sheet.Goals as goal

pub returns-then-counts-lt3 : goal.returns-then-counts-lt3
returns-then-counts-lt3 c = search (no_places, rules)

pub returns-in-Err : goal.returns-in-Err
returns-in-Err c =
    let e = c.in-Err.ensures.answer in record {
      answer = borrowed_refused c.args.sheet.now _ _ _ _ c.if-counts-lt3.false e.used_filled e.answers_filled e.edges_filled
          e.counts c.number-in-Err.ensures.answer refl;
    }

pub returns-in-Ok : goal.returns-in-Ok
returns-in-Ok c =
    let e = c.in-Ok.ensures.answer in record {
      answer = borrowed_given c.args.sheet.now _ _ _ _ c.if-counts-lt3.false e.used_filled e.answers_filled e.edges_filled
          e.counts c.copy_from_slice.ensures.after refl;
    }
