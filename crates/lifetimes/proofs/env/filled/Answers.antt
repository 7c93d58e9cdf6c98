-- `filled` meets its contract. The loop's invariant is `Filling` of proofs/EnvLoops.antt.
use borrow.Author.Rules.{rules}
use Rattle.lifetimes.proofs.EnvLoops.{filling_small, filling_more, filling_end}
use Rattle.lifetimes.proofs.env.filled.Goals as goal

pub bound_of-requires : goal.bound_of-requires
bound_of-requires c = filling_small c.loop-i.invariant (search rules)

pub loop-i-preserved : goal.loop-i-preserved
loop-i-preserved c = search (filling_more, rules)

pub returns : goal.returns
returns c = search (filling_end, rules)
