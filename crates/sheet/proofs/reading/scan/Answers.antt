-- `scan` meets its contract: each test is a part of the definition, and what `lines` stored are the words of an
-- accepted text.
use mathlib.Core.Path.{◌∙◌}
use native.Mathlib.Omega.{arith}
use Rattle.sheet.proofs.ReadingLaws.{too_many, no_heading, heading_not, heading_is, measured_none}
use Rattle.sheet.proofs.ReadingLaws.{lines_measured, scan_refused, wrote}
use Rattle.sheet.proofs.reading.scan.Goals as goal

pub returns-then-sheet-gt-MAX_BYTES : goal.returns-then-sheet-gt-MAX_BYTES
returns-then-sheet-gt-MAX_BYTES c = let b = c.args.sheet.now in
    let e = measured_none b (too_many b (omega (arith, c.if-sheet-gt-MAX_BYTES.true))) in
    record { value = e; scratch_value = scan_refused b e }

pub returns-then-not-headed : goal.returns-then-not-headed
returns-then-not-headed c = let b = c.args.sheet.now in
    let e = measured_none b
    (no_heading b (omega (arith, c.if-sheet-gt-MAX_BYTES.false))
    (heading_not b c.headed.result c.headed.ensures c.if-not-headed.true)) in
    record { value = e; scratch_value = scan_refused b e }

pub returns : goal.returns
returns c = record {
  value = c.lines.ensures.value
      ∙ lines_measured c.args.sheet.now (omega (arith, c.if-sheet-gt-MAX_BYTES.false))
      (heading_is _ c.headed.result c.headed.ensures c.if-not-headed.false);
  scratch_value = λ n. wrote c.args.sheet.now c.args.scratch.now n c.lines.ensures.words_value;
}
