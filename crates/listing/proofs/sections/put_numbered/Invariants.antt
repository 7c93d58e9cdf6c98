-- `put_numbered` meets its contract: each turn prints one numbered list.
use Rattle.listing.proofs.SectionsLaws.{Numbering}
use Rattle.listing.proofs.sections.put_numbered.Given as goal

abbrev pub invariant-loop-number : goal.invariant-loop-number
invariant-loop-number l = Numbering l.words l.ends l.at l.initial.out l.next l.out l.from l.number
