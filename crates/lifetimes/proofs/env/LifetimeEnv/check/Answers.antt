-- `LifetimeEnv::check` meets its contract: the bounds are looked at before the number of the declared, and both are 8.
use Rattle.std.proofs.lemmas.Result.{err_from_is_err_and}
use borrow.Author.Rules.{rules}
use Rattle.answers.specs.Refusals.{NoneDue}
use Rattle.lifetimes.specs.Bounds.{bounds_checks}
use Rattle.lifetimes.proofs.EnvLaws.{check_lifetimes, check_bounds, check_declared, check_given, bounds_passed, bounds_none}
use Rattle.lifetimes.proofs.env.LifetimeEnv.check.Goals as goal
use Rattle.lifetimes.proofs.env.LifetimeEnv.check.Goals.{then-self-ne0+in_ok-check, else-self-ne0}

pub returns-then-self-gt-MAX_LIFETIMES : goal.returns-then-self-gt-MAX_LIFETIMES
returns-then-self-gt-MAX_LIFETIMES c = search (check_lifetimes, rules)

pub returns-in_err-check : goal.returns-in_err-check
returns-in_err-check c = record {
  answer = let p = err_from_is_err_and c.from_residual.result c.from_residual.ensures.1 in
      rw (p.1, p.2) (check_bounds c.args.self c.if-self-gt-MAX_LIFETIMES.false c.in_err-check.ensures.answer);
}

pub returns-then-self : goal.returns-then-self
returns-then-self c =
    let s = c.args.self in
    let inside : NoneDue (bounds_checks s.declared s.bounds) = elim c.if-self-ne0.branch [
      | then-self-ne0+in_ok-check w ↦ bounds_passed s.declared s.bounds w.in_ok-check.ensures.answer
      | else-self-ne0 w ↦ bounds_none s.declared s.bounds w.if-self-ne0.false
    ] in
    record { answer = check_declared s c.if-self-gt-MAX_LIFETIMES.false inside c.if-self.true }

pub returns : goal.returns
returns c =
    let s = c.args.self in
    let inside : NoneDue (bounds_checks s.declared s.bounds) = elim c.if-self-ne0.branch [
      | then-self-ne0+in_ok-check w ↦ bounds_passed s.declared s.bounds w.in_ok-check.ensures.answer
      | else-self-ne0 w ↦ bounds_none s.declared s.bounds w.if-self-ne0.false
    ] in
    record { answer = check_given s c.if-self-gt-MAX_LIFETIMES.false inside c.if-self.false }
