-- `collect_path` meets its contract. The loop's invariant is `Pathing` of proofs/OutputLaws.antt.
use borrow.Author.Rules.{rules}
use Rattle.methods.proofs.OutputLaws.{pathing_stops, pathing_more, pathing_end}
use Rattle.methods.proofs.output.collect_path.Goals as goal

pub returns-in_err-used : goal.returns-in_err-used
returns-in_err-used c = rw c.from_residual.ensures
    (pathing_stops c.loop-word.invariant c.loop-word-test.true c.from_word.ensures.answer c.in_err-used.ensures)

pub loop-word-preserved : goal.loop-word-preserved
loop-word-preserved c =
    pathing_more c.loop-word.invariant c.loop-word-test.true c.from_word.ensures.answer c.in_ok-used.ensures

pub returns : goal.returns
returns c = search (pathing_end, rules)
