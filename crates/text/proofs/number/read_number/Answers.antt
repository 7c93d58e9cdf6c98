-- `read_number` meets its contract: each test is one of the definition's, and each turn of the loop takes one digit
-- more.
use mathlib.Core.Path.{refl, sym, ◌∙◌}
use borrow.Author.Tests.{leb-true, leb-false}
use Rattle.text.proofs.NumberLaws.{found_past, found_none, first_above, numbering_start}
use Rattle.text.proofs.NumberLaws.{numbering_end, numbering_stop, numbering_nought, numbering_above}
use Rattle.text.proofs.NumberLaws.{numbering_more}
use Rattle.text.proofs.number.read_number.Goals as goal

pub returns-then-n-from : goal.returns-then-n-from
returns-then-n-from c = record { answer = found_past c.args.limit c.args.bytes.now c.args.from c.if-n-from.true }

pub returns-then-not-is_ascii_digit : goal.returns-then-not-is_ascii_digit
returns-then-not-is_ascii_digit c = record {
  answer = found_none c.args.limit c.args.bytes.now c.args.from refl c.if-n-from.false
      (sym c.is_ascii_digit.ensures.value ∙ c.if-not-is_ascii_digit.true);
}

pub returns-then-limit-value : goal.returns-then-limit-value
returns-then-limit-value c = record {
  answer = first_above c.args.limit c.args.bytes.now c.args.from refl c.if-n-from.false
      (sym c.is_ascii_digit.ensures.value ∙ c.if-not-is_ascii_digit.false) c.if-limit-value.true;
}

pub loop-at-init : goal.loop-at-init
loop-at-init c = numbering_start c.args.limit c.args.bytes.now c.args.from refl c.if-n-from.false
    (sym c.is_ascii_digit.ensures.value ∙ c.if-not-is_ascii_digit.false) c.if-limit-value.false

pub returns-then-not-is_ascii_digit-2 : goal.returns-then-not-is_ascii_digit-2
returns-then-not-is_ascii_digit-2 c = record {
  answer = numbering_stop c.loop-at.invariant refl c.loop-at-test.true
      (sym c.is_ascii_digit-in-loop-at.ensures.value ∙ c.if-not-is_ascii_digit-2.true);
}

pub returns-then-value-eq0 : goal.returns-then-value-eq0
returns-then-value-eq0 c = record {
  answer = numbering_nought c.loop-at.invariant refl c.loop-at-test.true
      (sym c.is_ascii_digit-in-loop-at.ensures.value ∙ c.if-not-is_ascii_digit-2.false) c.if-value-eq0.true;
}

pub returns-then-not-fits : goal.returns-then-not-fits
returns-then-not-fits c = record {
  answer = numbering_above c.loop-at.invariant refl c.loop-at-test.true
      (sym c.is_ascii_digit-in-loop-at.ensures.value ∙ c.if-not-is_ascii_digit-2.false)
      (leb-false _ _ (sym c.fits.ensures ∙ c.if-not-fits.true));
}

pub loop-at-preserved : goal.loop-at-preserved
loop-at-preserved c = numbering_more c.loop-at.invariant refl c.loop-at-test.true
    (sym c.is_ascii_digit-in-loop-at.ensures.value ∙ c.if-not-is_ascii_digit-2.false)
    c.if-value-eq0.false (leb-true _ _ (sym c.fits.ensures ∙ c.if-not-fits.false))

pub returns : goal.returns
returns c = record { answer = numbering_end c.loop-at.invariant c.loop-at-test.false }
