-- `write` meets its contract: an accepted text is read, and what is read is stored.
use Rattle.sheet.proofs.ReadingLaws.{wrote}
use Rattle.sheet.proofs.reading.write.Goals as goal

pub returns : goal.returns
returns c = wrote c.args.sheet.now c.args.words.now c.requires c.lines.ensures.words_value
