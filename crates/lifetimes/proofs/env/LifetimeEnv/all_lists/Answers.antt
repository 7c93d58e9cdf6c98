-- `all_lists` meets its contract: each of its answers is that of the first check that is due, or all lists as `lay`
-- lays them.
use native.Mathlib.Omega.{arith}
use mathlib.Core.Path.{sym, ◌∙◌}
use Rattle.std.proofs.lemmas.Result.{err_from_is_err_and}
use borrow.Author.Tests.{leb-true, leb-false}
use Rattle.lifetimes.specs.Index.{graph_of}
use Rattle.lifetimes.proofs.EnvLaws.{check_passed, check_failed}
use Rattle.lifetimes.proofs.ReachAnswers.{lists_refused, lists_no_ends, lists_no_words, lists_given}
use Rattle.lifetimes.proofs.env.LifetimeEnv.all_lists.Goals as goal

-- the three clauses of the contract, as the need nests them
parts : {A B C : Type 0} → A × B × C → A × (B × C)
parts p = (p.0, (p.1, p.2))

pub returns-in_err-check : goal.returns-in_err-check
returns-in_err-check c =
    let p = err_from_is_err_and c.from_residual.result c.from_residual.ensures.1 in
    let it = parts (lists_refused c.args.longer c.args.self c.args.words.now c.args.ends.now
    (check_failed c.args.self c.in_err-check.ensures.answer)) in
    record { answer = rw (p.1, p.2) it.0; words_filled = it.1.0; ends_filled = it.1.1 }

pub returns-then-ends-self : goal.returns-then-ends-self
returns-then-ends-self c =
    let s = c.args in
    let none = check_passed s.self c.in_ok-check.ensures.answer in
    let it = parts (lists_no_ends s.longer s.self s.words.now s.ends.now none c.if-ends-self.true) in
    record { answer = it.0; words_filled = it.1.0; ends_filled = it.1.1 }

pub link-index-requires : goal.link-index-requires
link-index-requires c = check_passed c.args.self c.in_ok-check.ensures.answer

pub all_fit-requires : goal.all_fit-requires
all_fit-requires c = (graph_of c.args.longer c.args.self, c.link-index.ensures.indexed)

pub returns-then-not-all_fit : goal.returns-then-not-all_fit
returns-then-not-all_fit c =
    let s = c.args in
    let none = check_passed s.self c.in_ok-check.ensures.answer in
    let fit = c.all_fit.ensures (graph_of s.longer s.self) c.link-index.ensures.indexed in
    let it = parts (lists_no_words s.longer s.self s.words.now s.ends.now none c.if-ends-self.false
    (rw c.link-index.ensures.count at (leb-false _ _ (sym fit.fits ∙ c.if-not-all_fit.true)))) in
    record { answer = it.0; words_filled = it.1.0; ends_filled = it.1.1 }

pub lay-total-requires : goal.lay-total-requires
lay-total-requires c =
    let g = graph_of c.args.longer c.args.self in
    let fit = c.all_fit.ensures g c.link-index.ensures.indexed in
    record {
      layable = (g, c.link-index.ensures.indexed, leb-true _ _ (sym fit.fits ∙ c.if-not-all_fit.false));
      count_in_bounds = omega (arith, c.link-index.ensures.count, c.if-ends-self.false);
    }

pub returns : goal.returns
returns c =
    let s = c.args in
    let g = graph_of s.longer s.self in
    let fit = c.all_fit.ensures g c.link-index.ensures.indexed in
    let it = parts (lists_given s.longer s.self s.words.now s.ends.now (check_passed s.self c.in_ok-check.ensures.answer)
    c.if-ends-self.false
    (rw c.link-index.ensures.count at (leb-true _ _ (sym fit.fits ∙ c.if-not-all_fit.false)))
    (rw c.link-index.ensures.count at (c.lay-total.ensures g c.link-index.ensures.indexed))) in
    record { answer = it.0; words_filled = it.1.0; ends_filled = it.1.1 }
