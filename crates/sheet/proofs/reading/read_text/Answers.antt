-- `read_text` meets its contract: refused as the text is, refused for want of room, or written.
use Rattle.std.proofs.lemmas.Result.{err_from_is_err_and}
use Rattle.sheet.proofs.ReadingLaws.{none_due, read_refused, read_short, read_wrote}
use Rattle.sheet.proofs.reading.read_text.Goals as goal

pub write_all-requires : goal.write_all-requires
write_all-requires c = none_due _ c.in_ok-text.ensures

pub returns-in_err-text : goal.returns-in_err-text
returns-in_err-text c =
    let p = err_from_is_err_and c.from_residual.result c.from_residual.ensures.1 in
    let it = read_refused c.args.sheet.now c.args.words.now c.in_err-text.ensures in
    record { answer = rw (p.1, p.2) it.0; stored = it.1 }

pub returns-then-not-write_all : goal.returns-then-not-write_all
returns-then-not-write_all c =
    let it = read_short c.args.sheet.now c.args.words.now c.in_ok-text.ensures c.write_all.ensures.value
    c.write_all.ensures.words_value c.if-not-write_all.true in
    record { answer = it.0; stored = it.1 }

pub returns : goal.returns
returns c =
    let it = read_wrote c.args.sheet.now c.args.words.now c.in_ok-text.ensures c.write_all.ensures.value
    c.write_all.ensures.words_value c.if-not-write_all.false in
    record { answer = it.0; stored = it.1 }
