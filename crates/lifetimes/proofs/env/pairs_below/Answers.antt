-- `pairs_below` meets its contract. The loop's invariant is `Below` of proofs/EnvLoops.antt.
use borrow.Author.Rules.{rules}
use mathlib.Core.Path.{sym, ◌∙◌}
use Rattle.lifetimes.proofs.EnvLoops.{below_refused, below_more, below_end}
use Rattle.lifetimes.proofs.env.pairs_below.Goals as goal

pub returns-then-not-numbers_below : goal.returns-then-not-numbers_below
returns-then-not-numbers_below c = below_refused c.loop-i.invariant
    (search rules)
    (sym c.numbers_below.ensures ∙ c.if-not-numbers_below.true)

pub loop-i-preserved : goal.loop-i-preserved
loop-i-preserved c = below_more c.loop-i.invariant
    (search rules)
    (sym c.numbers_below.ensures ∙ c.if-not-numbers_below.false)

pub returns : goal.returns
returns c = search (below_end, rules)
