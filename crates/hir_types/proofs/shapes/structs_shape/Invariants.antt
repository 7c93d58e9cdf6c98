-- `structs_shape` meets its contract. The loop's invariant is `Counting`; the measure is how many words are to be read.
use Prim.Native.Nat.{◌-◌}
use lib.ListN.{length}
use Rattle.hir_types.specs.Rows.{read_row}
use Rattle.hir_types.proofs.ShapeLoops.{Counting}
use Rattle.hir_types.proofs.shapes.structs_shape.Given as goal

abbrev pub invariant-loop-at : goal.invariant-loop-at
invariant-loop-at l = Counting read_row l.structs l.rows l.at

abbrev pub decreases-loop-at : goal.decreases-loop-at
decreases-loop-at l = length l.structs - l.at
