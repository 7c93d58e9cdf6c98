-- `headed` meets its contract: the heading is compared byte by byte.
use mathlib.Core.Path.{◌≡◌, refl, ◌∙◌}
use native.Mathlib.Omega.{arith}
use borrow.Author.Rules.{rules}
use Rattle.sheet.specs.Text.{heading}
use Rattle.sheet.proofs.HeadingLaws.{behind_short, comparing_here, comparing_more}
use Rattle.sheet.proofs.HeadingLaws.{comparing_end}
use Rattle.sheet.proofs.reading.headed.Goals as goal

pub returns-then-bytes-lt-HEADING : goal.returns-then-bytes-lt-HEADING
returns-then-bytes-lt-HEADING c = search (behind_short, rules)

pub loop-i-preserved : goal.loop-i-preserved
loop-i-preserved c = (
  comparing_more heading c.args.bytes.now c.loop-i.i c.loop-i.same c.loop-i.invariant.0
      c.loop-i-test.true _ refl,
  refl,
)

pub returns : goal.returns
returns c = let b = c.args.bytes.now in
    let e : c.loop-i.i ≡ 66 = omega (
      arith,
      (comparing_here heading b c.loop-i.i c.loop-i.same
          c.loop-i.invariant.0).0,
      c.loop-i-test.false,
    ) in
    comparing_end heading b c.loop-i.i c.loop-i.same c.loop-i.invariant.0 c.loop-i-test.false ∙ rw e
