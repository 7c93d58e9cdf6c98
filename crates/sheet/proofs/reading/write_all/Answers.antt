-- `write_all` meets its contract: the words are written where they fit, and else left.
use borrow.Author.Rules.{rules}
use Rattle.sheet.proofs.ReadingLaws.{left_fitting, left_short}
use Rattle.sheet.proofs.reading.write_all.Goals as goal

pub returns-then-fits : goal.returns-then-fits
returns-then-fits c = search (left_fitting, rules)

pub returns-else-fits : goal.returns-else-fits
returns-else-fits c = search (left_short, rules)
