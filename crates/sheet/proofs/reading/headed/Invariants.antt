-- `headed` meets its contract: the heading is compared byte by byte.
use mathlib.Core.Path.{◌≡◌}
use Rattle.sheet.specs.Text.{heading}
use Rattle.sheet.proofs.HeadingLaws.{Comparing}
use Rattle.sheet.proofs.reading.headed.Given as goal

abbrev pub invariant-loop-i : goal.invariant-loop-i
invariant-loop-i l = Comparing l.same heading l.bytes l.i × (l.line ≡ heading)
