-- `bounds_shape` meets its contract: each test is one of the definition's.
use borrow.Author.Rules.{rules}
use Rattle.ast_lifetimes.proofs.ShapeLaws.{bounds_empty, bounds_many, bounds_half, bounds_over, bounds_given}
use Rattle.ast_lifetimes.proofs.bounds.bounds_shape.Goals as goal

pub returns-then-n-eq0 : goal.returns-then-n-eq0
returns-then-n-eq0 c = search (bounds_empty, rules)

pub returns-then-n-gt-MAX_WORDS : goal.returns-then-n-gt-MAX_WORDS
returns-then-n-gt-MAX_WORDS c = search (bounds_many, rules)

pub returns-then-n-eq1 : goal.returns-then-n-eq1
returns-then-n-eq1 c = search (bounds_half, rules)

pub returns-then-n-bounds : goal.returns-then-n-bounds
returns-then-n-bounds c = search (bounds_over, rules)

pub returns : goal.returns
returns c = search (bounds_given, rules)
