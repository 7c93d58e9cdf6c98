-- `store_to` meets its contract. The loop's invariant is `StoringTo` of proofs/ListedLaws.antt; the measure is how many
-- words are to be read.
use Prim.Native.Nat.{◌-◌}
use lib.ListN.{length}
use Rattle.borrowing_param.specs.Visit.{draws_in}
use Rattle.borrowing_param.specs.InnerMap.{param_types}
use Rattle.borrowing_param.proofs.ListedLaws.{StoringTo}
use Rattle.borrowing_param.proofs.listed.store_to.Given as goal

abbrev pub invariant-loop-place : goal.invariant-loop-place
invariant-loop-place l = StoringTo (draws_in l.set) l.used l.params (param_types l.params) l.stored l.initial.pairs l.initial.edges l.next l.number l.place l.pairs l.edges

abbrev pub decreases-loop-place : goal.decreases-loop-place
decreases-loop-place l = length l.params - l.place
