-- `lower_lifetime` meets its contract: one lifetime is that of a type given just this one.
use Rattle.elision.specs.Machine.{lower_step, one_step}
use Rattle.elision.proofs.lowerer.Lowerer.lower_lifetime.Goals as goal

pub returns : goal.returns
unfolding one_step lower_step
returns c = record { answer = c.lower_generics.ensures.answer }
