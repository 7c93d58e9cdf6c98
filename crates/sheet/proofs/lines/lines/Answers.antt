-- `lines` meets its contract: each turn of the loop takes one line more.
use mathlib.Core.Path.{refl}
use Rattle.hir_types.proofs.QuestionLaws.{handed_on, was_some, was_none}
use Rattle.sheet.proofs.LinesLaws.{line_told, lining_start, lining_none, lining_many}
use Rattle.sheet.proofs.LinesLaws.{lining_stored, lining_long, lining_end, lining_more}
use Rattle.sheet.proofs.lines.lines.Goals as goal

pub loop-i-init : goal.loop-i-init
loop-i-init c = lining_start _ _ _ _ refl

pub returns-in_err-line : goal.returns-in_err-line
returns-in_err-line c =
    let none = was_none c.line.result _ c.in_err-line.ensures.value in
    let it = lining_none c.loop-i.invariant c.loop-i-test.true (line_told _ _ _ _ _ c.line.ensures none.0) in
    record { value = rw (handed_on c.from_residual.ensures.1, none.1) it.0; words_value = it.1 }

pub loop-i-preserved : goal.loop-i-preserved
loop-i-preserved c =
    let some = was_some c.line.result _ c.in_ok-line.ensures.value in
    lining_more c.loop-i.invariant (line_told _ _ _ _ _ c.line.ensures some) c.loop-i-test.true refl refl

pub returns-then-at-bytes : goal.returns-then-at-bytes
returns-then-at-bytes c =
    let it = lining_many c.loop-i.invariant c.loop-i-test.false c.if-at-bytes.true in
    record { value = it.0; words_value = it.1 }

pub returns-then-not-short : goal.returns-then-not-short
returns-then-not-short c = record {
  value = lining_long c.loop-i.invariant c.loop-i-test.false c.if-at-bytes.false c.if-not-short.true;
  words_value = lining_stored c.loop-i.invariant c.loop-i-test.false c.if-at-bytes.false;
}

pub returns : goal.returns
returns c = record {
  value = lining_end c.loop-i.invariant c.loop-i-test.false c.if-at-bytes.false c.if-not-short.false;
  words_value = lining_stored c.loop-i.invariant c.loop-i-test.false c.if-at-bytes.false;
}
