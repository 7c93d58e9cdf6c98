-- `line` meets its contract: each turn of the loop takes one word more.
use Prim.Native.Nat.{◌-◌}
use lib.ListN.{length}
use Rattle.sheet.proofs.WordLaws.{Wording}
use Rattle.sheet.proofs.lines.line.Given as goal

abbrev pub invariant-loop-found : goal.invariant-loop-found
invariant-loop-found l = Wording l.bytes l.from l.to l.initial.words l.words l.at l.count

abbrev pub decreases-loop-found : goal.decreases-loop-found
decreases-loop-found l = length l.bytes - l.at
