-- `no_self_ref` meets its contract.
use Rattle.elision.specs.Machine.{unused}
use Rattle.elision.proofs.lowerer.Lowerer.no_self_ref.Goals as goal

pub returns : goal.returns
unfolding unused
returns c = record { answer = rw c.none.ensures }
