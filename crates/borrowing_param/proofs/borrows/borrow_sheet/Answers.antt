-- `borrow_sheet` meets its contract: what its scratch of either size gave, and what follows for a crate above.
use Rattle.borrowing_param.proofs.BorrowLaws.{sheet_says}
use Rattle.borrowing_param.proofs.borrows.borrow_sheet.Goals as goal

pub returns-then-sheet-le-MIDDLE : goal.returns-then-sheet-le-MIDDLE
returns-then-sheet-le-MIDDLE c = let it = sheet_says _ _ _ _ c.borrow_in.ensures.counts
    c.borrow_in.ensures.used_filled c.borrow_in.ensures.answers_filled c.borrow_in.ensures.edges_filled in
    record { answer = it.0; consistent = it.1.0; few = it.1.1 }

pub returns : goal.returns
returns c = let it = sheet_says _ _ _ _ c.borrow_in-2.ensures.counts c.borrow_in-2.ensures.used_filled
    c.borrow_in-2.ensures.answers_filled c.borrow_in-2.ensures.edges_filled in
    record { answer = it.0; consistent = it.1.0; few = it.1.1 }
