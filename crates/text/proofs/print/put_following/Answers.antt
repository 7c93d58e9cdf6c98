-- `put_following` meets its contract: each turn prints a word behind a space; the line's end comes last.
use Prim.Native.Nat.{ℕ, ◌-◌}
use mathlib.Core.Path.{sym, ap, ◌∙◌}
use Rattle.text.proofs.PrintLaws.{printed, following_size, following_more}
use Rattle.text.proofs.PrintLaws.{following_end}
use Rattle.text.proofs.print.put_following.Goals as goal

pub put_word-to-requires : goal.put_word-to-requires
put_word-to-requires c =
    c.saturating_sub-safe.ensures ∙ ap (λ (n : ℕ). n - 2) (sym (following_size c.loop-word.invariant))

pub loop-word-preserved : goal.loop-word-preserved
loop-word-preserved c = following_more c.loop-word.invariant c.loop-word-test.true c.put_word-to.ensures

pub returns : goal.returns
returns c = let it = printed
    (following_end c.loop-word.invariant c.loop-word-test.false c.put.ensures) in
    record { answer = it.0; stored = it.1 }
