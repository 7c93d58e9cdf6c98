-- `count_params` meets its contract. The loop's invariant is `CountingParams` of proofs/ListedLaws.antt; the measure is
-- how many words are to be read.
use Prim.Native.Nat.{◌-◌}
use lib.ListN.{length}
use Rattle.borrowing_param.specs.InnerMap.{param_types}
use Rattle.borrowing_param.proofs.ListedLaws.{CountingParams}
use Rattle.borrowing_param.proofs.visitor.BorrowingParamVisitor.count_params.Given as goal

abbrev pub invariant-loop-at : goal.invariant-loop-at
invariant-loop-at l = CountingParams l.self.used l.self.draws l.params (param_types l.params) l.initial.numbers l.counted.edges l.counted.params l.at l.numbers

abbrev pub decreases-loop-at : goal.decreases-loop-at
decreases-loop-at l = length l.params - l.at
