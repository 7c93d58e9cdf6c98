-- `types_shape` meets its contract. The loop's invariant is `Shaping` of the crate `records`; the measure is how many
-- words are to be read.
use Prim.Native.Nat.{ℕ, ◌-◌}
use lib.ListN.{length}
use Rattle.records.proofs.ShapeLoops.{Shaping}
use Rattle.ast_lifetimes.specs.Types.{read_type}
use Rattle.ast_lifetimes.proofs.types.types_shape.Given as goal

abbrev pub invariant-loop-at : goal.invariant-loop-at
invariant-loop-at l = (number : ℕ) × Shaping (λ n. read_type 8) l.types number l.at

abbrev pub decreases-loop-at : goal.decreases-loop-at
decreases-loop-at l = length l.types - l.at
