-- `params_shape` meets its contract. The loop's invariant is `Counting`; the measure is how many words are to be read.
use borrow.Author.Rules.{rules}
use Rattle.records.proofs.EndLaws.{ends_told}
use Rattle.answers.specs.declared.Refusal.TheVariants.{Malformed}
use Rattle.hir_types.proofs.QuestionLaws.{handed_on, was_some, was_none}
use Rattle.hir_types.proofs.ShapeLoops.{counting_start, counting_long, counting_end}
use Rattle.hir_types.proofs.ShapeLoops.{counting_missing, counting_more}
use Rattle.hir_types.proofs.shapes.params_shape.Goals as goal

pub returns-then-params-gt-MAX_WORDS : goal.returns-then-params-gt-MAX_WORDS
returns-then-params-gt-MAX_WORDS c = search (counting_long, rules)

pub loop-at-init : goal.loop-at-init
loop-at-init c = search (counting_start, rules)

pub returns-in_err-at : goal.returns-in_err-at
returns-in_err-at c = let none = was_none c.type_end.result Malformed c.in_err-at.ensures.value in record {
  answer = rw (handed_on c.from_residual.ensures.1, none.1)
      (counting_missing c.loop-at.invariant c.loop-at-test.true (ends_told c.type_end.ensures none.0));
}

pub loop-at-preserved : goal.loop-at-preserved
loop-at-preserved c = counting_more c.loop-at.invariant c.loop-at-test.true
    (ends_told c.type_end.ensures (was_some c.type_end.result Malformed c.in_ok-at.ensures.value))

pub returns : goal.returns
returns c = search (counting_end, rules)
