-- `LifetimeEnv::push_bound` meets its contract: the checks of the environment come before that of the bound.
use borrow.Author.Rules.{rules}
use mathlib.Core.Bool.{true, false}
use mathlib.Core.Path.{◌≡◌, sym, ◌∙◌}
use Rattle.std.proofs.lemmas.Result.{err_from_is_err_and}
use Rattle.lifetimes.specs.Bounds.{above, both_below}
use Rattle.lifetimes.proofs.EnvLaws.{push_full, push_refused, push_outside, push_small, push_given}
use Rattle.lifetimes.proofs.env.LifetimeEnv.push_bound.Goals as goal

pub returns-then-at-ge-MAX : goal.returns-then-at-ge-MAX
returns-then-at-ge-MAX c = search (push_full, rules)

pub returns-in_err-check : goal.returns-in_err-check
returns-in_err-check c = record {
  answer = let a = c.args in
      let p = err_from_is_err_and c.from_residual.result c.from_residual.ensures.1 in
      rw (p.1, p.2)
      (push_refused a.self (above a.longer.0 a.shorter.0) (search rules) c.if-at-ge-MAX.false c.in_err-check.ensures.answer);
}

pub returns-then-not-numbers_below : goal.returns-then-not-numbers_below
returns-then-not-numbers_below c = record {
  answer = let a = c.args in let f : both_below a.self.declared (above a.longer.0 a.shorter.0) ≡ false =
      rw (c.index-from.ensures.answer, c.index-to.ensures.answer)
      at (sym c.numbers_below.ensures ∙ c.if-not-numbers_below.true) in
      push_outside a.self (above a.longer.0 a.shorter.0) (search rules) c.if-at-ge-MAX.false c.in_ok-check.ensures.answer f;
}

pub bound_of-requires : goal.bound_of-requires
bound_of-requires c =
    push_small c.args.self (above c.index-from.result c.index-to.result) (search rules) c.if-at-ge-MAX.false
    c.in_ok-check.ensures.answer
    (sym c.numbers_below.ensures ∙ c.if-not-numbers_below.false)

pub returns : goal.returns
returns c = record {
  answer = let a = c.args in let t : both_below a.self.declared (above a.longer.0 a.shorter.0) ≡ true =
      rw (c.index-from.ensures.answer, c.index-to.ensures.answer)
      at (sym c.numbers_below.ensures ∙ c.if-not-numbers_below.false) in
      rw (c.from_bounds.ensures.answer, c.bound_of.ensures, c.index-from.ensures.answer, c.index-to.ensures.answer)
      (push_given a.self (above a.longer.0 a.shorter.0) (search rules) c.if-at-ge-MAX.false c.in_ok-check.ensures.answer t);
}
