-- `names_shape` meets its contract: each test is one of the definition's, and the last is the answer of `all_names`.
use mathlib.Core.Path.{sym, ◌∙◌}
use borrow.Author.Rules.{rules}
use Rattle.ast_lifetimes.proofs.ShapeLaws.{names_empty, names_many, names_over, names_decide}
use Rattle.ast_lifetimes.proofs.names.names_shape.Goals as goal

pub returns-then-n-eq0 : goal.returns-then-n-eq0
returns-then-n-eq0 c = search (names_empty, rules)

pub returns-then-n-gt-MAX_WORDS : goal.returns-then-n-gt-MAX_WORDS
returns-then-n-gt-MAX_WORDS c = search (names_many, rules)

pub returns-then-n-names : goal.returns-then-n-names
returns-then-n-names c = search (names_over, rules)

pub returns-then-all_names : goal.returns-then-all_names
returns-then-all_names c = record {
  answer = names_decide
      c.args.names.now
      c.if-n-eq0.false
      c.if-n-gt-MAX_WORDS.false
      c.if-n-names.false
      (sym c.all_names.ensures ∙ c.if-all_names.true);
}

pub returns : goal.returns
returns c = record {
  answer = names_decide
      c.args.names.now
      c.if-n-eq0.false
      c.if-n-gt-MAX_WORDS.false
      c.if-n-names.false
      (sym c.all_names.ensures ∙ c.if-all_names.false);
}
