-- `put_text` meets its contract: each turn stores one byte more, as long as there is room.
use Prim.Native.Nat.{min}
use mathlib.Core.Path.{ap, ◌∙◌}
use native.Mathlib.Omega.{arith}
use lib.ListN.{length}
use Rattle.answers.proofs.Copying.{copying_more}
use Rattle.text.proofs.PrintLaws.{text_end}
use Rattle.text.proofs.print.put_text.Goals as goal

pub loop-i-preserved : goal.loop-i-preserved
loop-i-preserved c = copying_more c.loop-i.invariant (omega (arith, c.min-n.ensures)) c.loop-i-test.true

pub returns : goal.returns
returns c = record {
  answer = c.saturating_add.ensures;
  stored = text_end c.loop-i.invariant
      (c.min-n.ensures ∙ ap (min (length c.args.text.now)) c.saturating_sub.ensures) c.loop-i-test.false;
}
