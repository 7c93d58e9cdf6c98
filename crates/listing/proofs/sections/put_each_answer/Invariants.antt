-- `put_each_answer` meets its contract: each turn prints one parameter.
use Rattle.listing.proofs.SectionsLaws.{Answering}
use Rattle.listing.proofs.sections.put_each_answer.Given as goal

abbrev pub invariant-loop-param : goal.invariant-loop-param
invariant-loop-param l = Answering l.answers l.at l.initial.out l.next l.out l.param
