-- `type_lifetimes` meets its contract: each way out is one law of proofs/LifetimeLaws.antt.
use native.Mathlib.Omega.{arith}
use Rattle.answers.specs.declared.Refusal.TheVariants.{Malformed}
use Rattle.hir_types.proofs.QuestionLaws.{handed_on}
use Rattle.hir_types.proofs.FoundLaws.{asked_found, asked_lost, path_inside}
use Rattle.hir_types.proofs.LifetimeLaws.{lifetimes_none, lifetimes_over, lifetimes_path, lifetimes_own}
use Rattle.hir_types.proofs.LifetimeLaws.{lifetimes_past}
use Rattle.hir_types.proofs.types.type_lifetimes.Goals as goal

pub returns-in_err-parts : goal.returns-in_err-parts
returns-in_err-parts c =
    let lost = asked_lost c.args.words.now 0 c.type_at.ensures.answer Malformed c.in_err-parts.ensures.value in
    record { answer = rw (handed_on c.from_residual.ensures.1, lost.1) (lifetimes_none _ _ lost.0) }

pub returns-then-parts-words : goal.returns-then-parts-words
returns-then-parts-words c = record {
  answer = lifetimes_over _ _ (asked_found _ _ c.type_at.ensures.answer Malformed c.in_ok-parts.ensures.value)
      c.if-parts-words.true;
}

pub overflow_add-word : goal.overflow_add-word
overflow_add-word c =
    let found = asked_found c.args.words.now 0 c.type_at.ensures.answer Malformed c.in_ok-parts.ensures.value in
    omega (arith, path_inside found.stands c.args.index c.if-index-parts.true)

pub offset_bounds-words-parts : goal.offset_bounds-words-parts
offset_bounds-words-parts c =
    let found = asked_found c.args.words.now 0 c.type_at.ensures.answer Malformed c.in_ok-parts.ensures.value in
    omega (arith, path_inside found.stands c.args.index c.if-index-parts.true)

pub bounds-words-parts : goal.bounds-words-parts
bounds-words-parts c =
    let found = asked_found c.args.words.now 0 c.type_at.ensures.answer Malformed c.in_ok-parts.ensures.value in
    omega (arith, path_inside found.stands c.args.index c.if-index-parts.true)

pub returns-then-index-parts : goal.returns-then-index-parts
returns-then-index-parts c = record {
  answer = lifetimes_path _ _ (asked_found _ _ c.type_at.ensures.answer Malformed c.in_ok-parts.ensures.value)
      c.if-parts-words.false c.if-index-parts.true c.from_word.ensures.answer;
}

pub returns-then-index-parts-2 : goal.returns-then-index-parts-2
returns-then-index-parts-2 c = record {
  answer = lifetimes_own _ _ (asked_found _ _ c.type_at.ensures.answer Malformed c.in_ok-parts.ensures.value)
      c.if-parts-words.false c.if-index-parts-2.true c.lifetime.ensures.answer;
}

pub returns : goal.returns
returns c = record {
  answer = lifetimes_past _ _ (asked_found _ _ c.type_at.ensures.answer Malformed c.in_ok-parts.ensures.value)
      c.if-parts-words.false c.if-index-parts.false c.if-index-parts-2.false;
}
