-- `line` meets its contract: each turn of the loop takes one word more.
use mathlib.Core.Logic.{inr}
use native.Mathlib.Omega.{arith}
use borrow.Author.Rules.{rules}
use Rattle.sheet.proofs.NumberLaws.{found_number, found_nothing}
use Rattle.sheet.proofs.WordLaws.{empty_line, wording_start}
use Rattle.sheet.proofs.WordLaws.{wording_none, wording_cut, wording_bad, wording_end, wording_more}
use Rattle.sheet.proofs.lines.line.Goals as goal

pub returns-then-bytes-at-eq10 : goal.returns-then-bytes-at-eq10
returns-then-bytes-at-eq10 c = search (empty_line, rules)

pub loop-found-init : goal.loop-found-init
loop-found-init c = search (wording_start, rules)

pub returns-in_err-found : goal.returns-in_err-found
returns-in_err-found c = rw c.from_residual.ensures
    (inr (wording_none c.loop-found.invariant (found_nothing _ _ c.in_err-found.ensures.answer)))

pub returns-then-n-found : goal.returns-then-n-found
returns-then-n-found c = inr
    (wording_cut c.loop-found.invariant (found_number _ _ c.in_ok-found.ensures.answer) c.if-n-found.true)

pub returns-then-b-eq10 : goal.returns-then-b-eq10
returns-then-b-eq10 c = wording_end c.loop-found.invariant (found_number _ _ c.in_ok-found.ensures.answer)
    c.if-n-found.false c.put.ensures c.if-b-eq10.true

pub returns-then-b-ne32 : goal.returns-then-b-ne32
returns-then-b-ne32 c = inr
    (wording_bad c.loop-found.invariant (found_number _ _ c.in_ok-found.ensures.answer) c.if-n-found.false
    c.if-b-eq10.false c.if-b-ne32.true)

pub loop-found-smaller : goal.loop-found-smaller
loop-found-smaller c = omega (arith, (found_number _ _ c.in_ok-found.ensures.answer).after)

pub loop-found-preserved : goal.loop-found-preserved
loop-found-preserved c = wording_more c.loop-found.invariant (found_number _ _ c.in_ok-found.ensures.answer)
    c.if-n-found.false c.put.ensures c.if-b-ne32.false
