-- `collect_types` meets its contract. The loop's invariant is `Collecting` of proofs/OutputLaws.antt.
use borrow.Author.Rules.{rules}
use Rattle.hir_types.proofs.FoundLaws.{type_found, type_lost}
use Rattle.methods.proofs.OutputLaws.{collecting_start, collecting_lost, reading}
use Rattle.methods.proofs.OutputLaws.{collecting_past, collecting_own, collecting_more, collecting_end}
use Rattle.methods.proofs.output.collect_types.Goals as goal

pub loop-i-init : goal.loop-i-init
loop-i-init c = search (collecting_start, rules)

pub returns-in_err-parts : goal.returns-in_err-parts
returns-in_err-parts c = rw c.from_residual.ensures
    (collecting_lost c.loop-i.invariant c.loop-i-test.true
    (type_lost c.args.words.now c.loop-i.at c.in_err-parts.ensures.answer))

pub returns-in_err-more : goal.returns-in_err-more
returns-in_err-more c = rw c.from_residual-in_err-more.ensures
    (collecting_past (reading c.loop-i.invariant c.loop-i-test.true (type_found _ _ c.in_ok-parts.ensures.answer))
    c.path_words-path.ensures.answer c.in_err-more.ensures)

pub returns-in_err-used : goal.returns-in_err-used
returns-in_err-used c = rw c.from_residual-in_err-used.ensures
    (collecting_own (reading c.loop-i.invariant c.loop-i-test.true (type_found _ _ c.in_ok-parts.ensures.answer))
    c.path_words-path.ensures.answer c.in_ok-more.ensures c.in_err-used.ensures)

pub loop-i-preserved : goal.loop-i-preserved
loop-i-preserved c =
    collecting_more (reading c.loop-i.invariant c.loop-i-test.true (type_found _ _ c.in_ok-parts.ensures.answer))
    c.path_words-path.ensures.answer c.in_ok-more.ensures c.in_ok-used.ensures

pub returns : goal.returns
returns c = search (collecting_end, rules)
