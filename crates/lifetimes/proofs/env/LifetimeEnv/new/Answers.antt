-- `LifetimeEnv::new` meets its contract: the code's tests are the checks, in their order.
use mathlib.Core.Path.{sym, ◌∙◌}
use native.Mathlib.Omega.{arith}
use borrow.Author.Rules.{rules}
use Rattle.lifetimes.specs.Env.{bounds_of_pairs}
use Rattle.lifetimes.proofs.BoundsLaws.{below_larger}
use Rattle.lifetimes.proofs.EnvLoops.{new_half, new_lifetimes, new_bounds, new_declared, new_outside, new_given}
use Rattle.lifetimes.proofs.env.LifetimeEnv.new.Goals as goal

pub returns-then-pairs-eq1 : goal.returns-then-pairs-eq1
returns-then-pairs-eq1 c = search (new_half, rules)

pub returns-then-count-gt-MAX_LIFETIMES : goal.returns-then-count-gt-MAX_LIFETIMES
returns-then-count-gt-MAX_LIFETIMES c = search (new_lifetimes, rules)

pub returns-then-pairs-gt-MAX : goal.returns-then-pairs-gt-MAX
returns-then-pairs-gt-MAX c = search (new_bounds, rules)

pub returns-then-count-declared : goal.returns-then-count-declared
returns-then-count-declared c = search (new_declared, rules)

pub returns-then-not-pairs_below : goal.returns-then-not-pairs_below
returns-then-not-pairs_below c = record {
  answer = let a = c.args in
      new_outside a.declared a.count a.pairs.now c.if-pairs-eq1.false c.if-count-gt-MAX_LIFETIMES.false
      c.if-pairs-gt-MAX.false
      c.if-count-declared.false
      (sym c.pairs_below.ensures ∙ c.if-not-pairs_below.true);
}

pub filled-requires : goal.filled-requires
filled-requires c = let below = sym c.pairs_below.ensures ∙ c.if-not-pairs_below.false in
    let a = c.args in
    (search rules, search rules, below_larger a.declared 256 (omega arith) (bounds_of_pairs a.pairs.now) below)

pub returns : goal.returns
returns c = record {
  answer = let a = c.args in
      rw c.from_bounds.ensures.answer
      (new_given a.declared a.count a.pairs.now c.if-pairs-eq1.false c.if-count-gt-MAX_LIFETIMES.false
      c.if-pairs-gt-MAX.false
      c.if-count-declared.false
      (sym c.pairs_below.ensures ∙ c.if-not-pairs_below.false)
      c.filled.ensures);
}
