-- `skip_types` meets its contract. The loop's invariant is `Skips` of proofs/FieldsLaws.antt.
use borrow.Author.Rules.{rules}
use Rattle.hir_types.proofs.FoundLaws.{type_found, type_lost}
use Rattle.methods.proofs.FieldsLaws.{skips_start, skips_lost, skips_more, skips_end}
use Rattle.methods.proofs.fields.skip_types.Goals as goal

pub loop-i-init : goal.loop-i-init
loop-i-init c = search (skips_start, rules)

pub returns-in_err-parts : goal.returns-in_err-parts
returns-in_err-parts c = rw c.from_residual.ensures
    (skips_lost c.loop-i.invariant c.loop-i-test.true
    (type_lost c.args.words.now c.loop-i.at c.in_err-parts.ensures.answer))

pub loop-i-preserved : goal.loop-i-preserved
loop-i-preserved c =
    skips_more c.loop-i.invariant c.loop-i-test.true (type_found _ _ c.in_ok-parts.ensures.answer)

pub returns : goal.returns
returns c = search (skips_end, rules)
