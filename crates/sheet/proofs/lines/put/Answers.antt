-- `put` meets its contract: past the end `set` changes nothing.
use borrow.Author.Rules.{rules}
use lib.Seq.{set_out}
use Rattle.sheet.proofs.lines.put.Goals as goal

pub returns-else-at-words : goal.returns-else-at-words
returns-else-at-words c = search (set_out, rules)
