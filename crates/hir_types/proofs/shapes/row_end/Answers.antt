-- `row_end` meets its contract: each way out is one law of proofs/EndLaws.antt.
use Rattle.hir_types.proofs.EndLaws.{row_none, row_short, row_large, row_ends}
use Rattle.hir_types.proofs.shapes.row_end.Goals as goal

pub returns-in_err-declared : goal.returns-in_err-declared
returns-in_err-declared c = rw c.from_residual.ensures (row_none _ _ _ c.in_err-declared.ensures.lookup.3)

pub returns-in_err-fields : goal.returns-in_err-fields
returns-in_err-fields c = rw c.from_residual-in_err-fields.ensures
    (row_short _ _ _ c.in_ok-declared.ensures.lookup.3 c.in_err-fields.ensures.lookup.3)

pub returns-then-declared-gt-MAX_LIST : goal.returns-then-declared-gt-MAX_LIST
returns-then-declared-gt-MAX_LIST c =
    row_large _ _ _ c.in_ok-declared.ensures.lookup.3 c.in_ok-fields.ensures.lookup.3 c.then-declared-gt-MAX_LIST.either

pub returns : goal.returns
returns c = row_ends _ _ _ c.in_ok-declared.ensures.lookup.3 c.in_ok-fields.ensures.lookup.3
    c.if-declared-gt-MAX_LIST.false c.if-fields-gt-MAX_LIST.false c.types_end.ensures
