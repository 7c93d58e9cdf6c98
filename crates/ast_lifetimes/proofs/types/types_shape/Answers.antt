-- `types_shape` meets its contract. The loop's invariant is `Shaping` of the crate `records`; the measure is how many
-- words are to be read.
use borrow.Author.Rules.{rules}
use Rattle.std.proofs.lemmas.Result.{err_from_is_err_and}
use Rattle.records.proofs.EndLaws.{ends_told}
use Rattle.records.proofs.ShapeLoops.{shaping_long, shaping_start, shaping_missing, shaping_more, shaping_end}
use Rattle.ast_lifetimes.specs.Types.{read_type}
use Rattle.ast_lifetimes.proofs.OptionLaws.{ok_or_missing, ok_or_found}
use Rattle.ast_lifetimes.proofs.types.types_shape.Goals as goal

pub returns-then-types-gt-MAX_WORDS : goal.returns-then-types-gt-MAX_WORDS
returns-then-types-gt-MAX_WORDS c = search (shaping_long, rules)

pub loop-at-init : goal.loop-at-init
loop-at-init c = (0, shaping_start (λ n. read_type 8) _ c.if-types-gt-MAX_WORDS.false)

pub returns-in_err-at : goal.returns-in_err-at
returns-in_err-at c = record {
  answer = let p = err_from_is_err_and c.from_residual.result c.from_residual.ensures.1 in
      let m = ok_or_missing _ c.ok_or.ensures.value c.in_err-at.was in
      rw (p.1, p.2, m.1)
      (shaping_missing c.loop-at.invariant.1 c.loop-at-test.true (ends_told c.type_end.ensures m.0));
}

pub loop-at-preserved : goal.loop-at-preserved
loop-at-preserved c = (
  _,
  shaping_more c.loop-at.invariant.1 c.loop-at-test.true
      (ends_told c.type_end.ensures (ok_or_found _ c.ok_or.ensures.value c.in_ok-at.was)),
)

pub returns : goal.returns
returns c = search (shaping_end, rules)
