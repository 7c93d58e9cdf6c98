-- `put_words` meets its contract, by the laws of `Putting` of proofs/LowererLoops.antt.
use borrow.Author.Rules.{rules}
use Rattle.elision.proofs.OutcomeLaws.{refused_is}
use Rattle.elision.proofs.LowererLoops.{putting_start, putting_refused, putting_more, putting_end}
use Rattle.elision.proofs.put.put_words.Goals as goal

pub loop-i-init : goal.loop-i-init
loop-i-init c = search (putting_start, rules)

pub returns-in_err-done : goal.returns-in_err-done
returns-in_err-done c =
    putting_refused c.loop-i.invariant c.max-total.ensures c.loop-i-test.true c.word_or_anonymous-word.ensures
    c.in_err-done.ensures (refused_is c.from_residual.ensures.1)

pub loop-i-preserved : goal.loop-i-preserved
loop-i-preserved c = putting_more c.loop-i.invariant c.max-total.ensures c.loop-i-test.true
    c.word_or_anonymous-word.ensures c.in_ok-done.ensures c.word_of.ensures c.store.ensures

pub returns : goal.returns
returns c = search (putting_end, rules)
