-- Where no read fails the answer is that to the whole sheet: what was read is all of it, or too long already.
use Rattle.std.proofs.Common.{arith}
use Rattle.borrows.proofs.SheetLaws.{answer_in_front, whole_written}
use Rattle.borrows.proofs.answer.Goals as goal

pub returns-clause-whole : goal.returns-clause-whole
returns-clause-whole g c complete =
    let got = c.read_input-got in
    let responded = c.respond-count.ensures in
    whole_written _ _ _ _ _ got.new.bytes _ got.result.count got.ensures.count
    (omega (arith, got.auto.bytes, c.room-sheet.ensures.size))
    got.ensures.front
    (got.ensures.whole complete)
    (answer_in_front _ _ _ _ responded.answer responded.stored)
    c.write_all-written.ensures.bytes
