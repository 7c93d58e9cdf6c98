-- `put_following` meets its contract: each turn prints a word behind a space; the line's end comes last.
use Rattle.text.proofs.PrintLaws.{Following}
use Rattle.text.proofs.print.put_following.Given as goal

abbrev pub invariant-loop-word : goal.invariant-loop-word
invariant-loop-word l = Following l.words l.at l.initial.out l.out l.to l.word-index
