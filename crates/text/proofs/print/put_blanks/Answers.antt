-- `put_blanks` meets its contract: each turn stores one blank more, as long as there is room.
use Prim.Native.Nat.{min}
use mathlib.Core.Path.{ap, ◌∙◌}
use native.Mathlib.Omega.{arith}
use Rattle.text.proofs.PrintLaws.{blanks_more, blanks_end}
use Rattle.text.proofs.print.put_blanks.Goals as goal

pub loop-i-preserved : goal.loop-i-preserved
loop-i-preserved c = blanks_more c.args.count c.loop-i.invariant (omega (arith, c.min-n.ensures)) c.loop-i-test.true

pub returns : goal.returns
returns c = blanks_end c.args.count c.loop-i.invariant
    (c.min-n.ensures ∙ ap (min c.args.count) c.saturating_sub.ensures) c.loop-i-test.false c.saturating_add.ensures
