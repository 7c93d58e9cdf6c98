-- `lower_word` meets its contract: each way out is the definition's under the tests on the way.
use borrow.Author.Tests.{eq-eqb, ne_eqb}
use mathlib.Core.Path.{sym, ◌∙◌}
use Rattle.ast_lifetimes.proofs.NamesLaws.{number_none, number_some}
use Rattle.ast_lifetimes.proofs.OptionLaws.{ok_or_missing, ok_or_found}
use Rattle.elision.specs.Machine.{lower_word}
use Rattle.elision.proofs.OutcomeLaws.{refused_is}
use Rattle.elision.proofs.lowerer.lower_word.Goals as goal

pub returns-then-word-eq1 : goal.returns-then-word-eq1
unfolding lower_word
returns-then-word-eq1 c = rw (eq-eqb _ _ c.if-word-eq1.true) c.lower_anonymous.ensures

pub returns-then-word-eq0 : goal.returns-then-word-eq0
unfolding lower_word
returns-then-word-eq0 c = rw (c.lowers.ensures, ne_eqb _ _ c.if-word-eq1.false, eq-eqb _ _ c.if-word-eq0.true)

pub returns-in_err-at : goal.returns-in_err-at
unfolding lower_word
returns-in_err-at c = let none = ok_or_missing _ c.ok_or.ensures.value c.in_err-at.was in rw (
  refused_is c.from_residual.ensures.1,
  none.1,
  ne_eqb _ _ c.if-word-eq1.false,
  ne_eqb _ _ c.if-word-eq0.false,
  number_none c.args.names.now c.args.word (sym c.position.ensures.answer ∙ none.0),
)

pub returns : goal.returns
unfolding lower_word
returns c =
    let some = ok_or_found _ c.ok_or.ensures.value c.in_ok-at.was in
    let p = number_some c.args.names.now c.args.word (sym c.position.ensures.answer ∙ some) in rw (
      c.lowers-2.ensures,
      c.new.ensures.answer,
      ne_eqb _ _ c.if-word-eq1.false,
      ne_eqb _ _ c.if-word-eq0.false,
      p.0,
      p.1,
    )
