-- `lower_words` meets its contract, by the laws of `Running` of proofs/LowererLoops.antt.
use borrow.Author.Rules.{rules}
use Rattle.elision.proofs.OutcomeLaws.{passed_on}
use Rattle.elision.proofs.LowererLoops.{running_start, running_room, running_refused, running_more, running_end}
use Rattle.elision.proofs.lowerer.lower_words.Goals as goal

pub loop-i-init : goal.loop-i-init
loop-i-init c = search (running_start, rules)

pub returns-in_err-done : goal.returns-in_err-done
returns-in_err-done c = passed_on c.from_residual.ensures.1
    (running_refused c.loop-i.invariant c.max-total.ensures c.loop-i-test.true c.word_or_anonymous-word.ensures
    c.in_err-done.ensures)

pub push-requires : goal.push-requires
push-requires c = search (running_room, rules)

pub loop-i-preserved : goal.loop-i-preserved
loop-i-preserved c = running_more c.loop-i.invariant c.max-total.ensures c.loop-i-test.true
    c.word_or_anonymous-word.ensures c.in_ok-done.ensures c.push.ensures

pub returns : goal.returns
returns c = search (running_end, rules)
