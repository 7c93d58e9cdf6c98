-- `copy_words` meets its contract: refused where the slice is too short; else each turn stores one word more.
use Prim.Native.Nat.{◌≤◌, min}
use mathlib.Core.Path.{◌≡◌}
use lib.ListN.{length}
use Rattle.answers.proofs.Copying.{Copying}
use Rattle.records.proofs.copy_words.Given as goal

abbrev pub invariant-loop-i : goal.invariant-loop-i
invariant-loop-i l = (l.n ≡ min l.count (length l.words)) × (l.n ≤ length l.initial.out) × Copying l.words l.n 0 l.initial.out l.out l.i
