-- `traverse` meets its contract: each of its answers is that of the first check that is due, or the list.
use Prim.Native.Nat.{ℕ}
use mathlib.Core.List.{List}
use Rattle.std.proofs.lemmas.Result.{err_from_is_err_and}
use native.Mathlib.Omega.{arith}
use Rattle.answers.specs.Refusals.{NoneDue}
use Rattle.lifetimes.specs.Env.{env_checks}
use Rattle.lifetimes.specs.Index.{list_by}
use Rattle.lifetimes.proofs.EnvLaws.{check_passed, check_failed}
use Rattle.lifetimes.proofs.ReachAnswers.{list_refused, list_past, list_short, list_given}
use Rattle.lifetimes.proofs.reach.traverse.Goals as goal

pub returns-in_err-check : goal.returns-in_err-check
returns-in_err-check c =
    let asked : List ℕ = list_by c.args.ast c.args.longer c.args.env c.args.lifetime.0 in
    let p = err_from_is_err_and c.from_residual.result c.from_residual.ensures.1 in
    let it = list_refused c.args.env c.args.lifetime.0 asked c.args.out.now (check_failed c.args.env c.in_err-check.ensures.answer) in
    record { value = rw (p.1, p.2) it.0; fills = it.1 }

pub returns-then-env-start : goal.returns-then-env-start
returns-then-env-start c =
    let asked : List ℕ = list_by c.args.ast c.args.longer c.args.env c.args.lifetime.0 in
    let none : NoneDue (env_checks c.args.env) = check_passed c.args.env c.in_ok-check.ensures.answer in
    let it = list_past c.args.env c.args.lifetime.0 asked c.args.out.now
    none (omega (arith, c.index-start.ensures.answer)) in
    record { value = it.0; fills = it.1 }

pub list-n-requires : goal.list-n-requires
list-n-requires c =
    let none : NoneDue (env_checks c.args.env) = check_passed c.args.env c.in_ok-check.ensures.answer in
    (none, omega (arith, c.index-start.ensures.answer))

pub returns-then-out-n : goal.returns-then-out-n
returns-then-out-n c =
    let asked : List ℕ = list_by c.args.ast c.args.longer c.args.env c.args.lifetime.0 in
    let none : NoneDue (env_checks c.args.env) = check_passed c.args.env c.in_ok-check.ensures.answer in
    let it = let i = c.index-start.ensures.answer in
    list_short c.args.env c.args.lifetime.0 asked c.args.out.now
    none (omega (arith, i, c.if-env-start.false)) _ c.list-n.result
    (omega (arith, c.list-n.ensures)) (rw i at c.list-n.ensures.1) c.if-out-n.true in
    record { value = it.0; fills = it.1 }

pub returns : goal.returns
returns c =
    let asked : List ℕ = list_by c.args.ast c.args.longer c.args.env c.args.lifetime.0 in
    let none : NoneDue (env_checks c.args.env) = check_passed c.args.env c.in_ok-check.ensures.answer in
    let i = c.index-start.ensures.answer in
    let a = list_given c.args.env c.args.lifetime.0 asked c.args.out.now none
    (omega (arith, i, c.if-env-start.false)) _ c.list-n.result (omega (arith, c.list-n.ensures)) (rw i at
    c.list-n.ensures.1) c.if-out-n.false in
    record { value = a.0; fills = rw c.copy_from_slice.ensures.after a.1 }
