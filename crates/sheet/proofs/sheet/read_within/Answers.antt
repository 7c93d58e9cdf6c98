-- `read_within` meets its contract: refused as the text is, refused for its records, refused for want of room, or written.
use mathlib.Core.Path.{ap, ◌∙◌}
use Rattle.std.proofs.lemmas.Result.{err_from_is_err_and}
use Rattle.sheet.specs.Shape.{records_verdict}
use Rattle.sheet.proofs.ReadingLaws.{sheet_refused, sheet_unshaped}
use Rattle.sheet.proofs.LaidLaws.{scanned_shape, scanned_short, scanned_wrote}
use Rattle.sheet.proofs.sheet.read_within.Goals as goal

pub returns-in_err-text : goal.returns-in_err-text
returns-in_err-text c =
    let p = err_from_is_err_and c.from_residual.result c.from_residual.ensures.1 in
    let it = sheet_refused c.args.sheet.now c.args.words.now c.in_err-text.ensures.value in
    record { value = rw (p.1, p.2) it.0; fills = it.1 }

pub returns-in_err-sheet_shape : goal.returns-in_err-sheet_shape
returns-in_err-sheet_shape c =
    let p = err_from_is_err_and c.from_residual-in_err-sheet_shape.result c.from_residual-in_err-sheet_shape.ensures.1 in
    let shape = scanned_shape c.args.sheet.now c.args.scratch.now c.requires c.in_ok-text.ensures.value
    c.scan.ensures.scratch_value (c.in_err-sheet_shape.ensures.answer ∙ ap records_verdict c.laid.ensures.answer) in
    let it = sheet_unshaped c.args.sheet.now c.args.words.now c.in_ok-text.ensures.value shape in
    record { value = rw (p.1, p.2) it.0; fills = it.1 }

pub returns-in_err-copy_words : goal.returns-in_err-copy_words
returns-in_err-copy_words c =
    let p = err_from_is_err_and c.from_residual-in_err-copy_words.result c.from_residual-in_err-copy_words.ensures.1 in
    let it = scanned_short c.args.sheet.now c.args.scratch.now c.requires c.in_ok-text.ensures.value
    c.scan.ensures.scratch_value (c.in_ok-sheet_shape.ensures.answer ∙ ap records_verdict c.laid.ensures.answer)
    c.args.words.now c.copy_words.ensures.stored c.in_err-copy_words.ensures.answer in
    record { value = rw (p.1, p.2) it.0; fills = it.1 }

pub returns : goal.returns
returns c =
    let it = scanned_wrote c.args.sheet.now c.args.scratch.now c.requires c.in_ok-text.ensures.value
    c.scan.ensures.scratch_value (c.in_ok-sheet_shape.ensures.answer ∙ ap records_verdict c.laid.ensures.answer)
    c.args.words.now c.copy_words.ensures.stored c.in_ok-copy_words.ensures.answer in
    record { value = it.0; fills = it.1 }
