-- `steps_shape` meets its contract. The loop's invariant is `Shaping` of the crate `records`; the measure is how many
-- words are to be read.
use Prim.Native.Nat.{ℕ, ◌-◌}
use lib.ListN.{length}
use Rattle.records.proofs.ShapeLoops.{Shaping}
use Rattle.elision.specs.Steps.{read_step}
use Rattle.elision.proofs.steps.steps_shape.Given as goal

abbrev pub invariant-loop-at : goal.invariant-loop-at
invariant-loop-at l = (number : ℕ) × Shaping (λ n. read_step) l.steps number l.at

abbrev pub decreases-loop-at : goal.decreases-loop-at
decreases-loop-at l = length l.steps - l.at
