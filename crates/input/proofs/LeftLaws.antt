-- What functions that take off some of what was read, one after another, leave of it.
use Rattle.std.proofs.Common.{List, ℕ, arith}
use Rattle.std.proofs.lemmas.Grind.{common_steps}
use Rattle.input.specs.Left.{TakesFront}

-- what is taken off in two steps is taken off
pub takes_more : (before between after : List ℕ) → TakesFront before between → TakesFront between after
    → TakesFront before after
takes_more before between after first next = grind (arith, common_steps)
