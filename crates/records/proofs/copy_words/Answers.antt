-- `copy_words` meets its contract: refused where the slice is too short; else each turn stores one word more.
use native.Mathlib.Nat.{zero-add}
use native.Mathlib.Omega.{arith}
use borrow.Author.Rules.{rules}
use Rattle.answers.proofs.Copying.{copying_start, copying_more}
use Rattle.records.proofs.CopyLaws.{copy_refused, copy_done}
use Rattle.records.proofs.copy_words.Goals as goal

pub returns-then-out-n : goal.returns-then-out-n
returns-then-out-n c = let it = copy_refused c.args.count c.args.words.now c.min-n.ensures c.args.out.now
    c.if-out-n.true in
    record { answer = it.0; stored = it.1 }

pub loop-i-init : goal.loop-i-init
loop-i-init c = search (copying_start, rules)

pub loop-i-preserved : goal.loop-i-preserved
loop-i-preserved c = let l = c.loop-i in (
  l.invariant.0,
  l.invariant.1,
  rw zero-add at (copying_more l.invariant.2 (omega (arith, l.invariant.0))
      c.loop-i-test.true),
)

pub returns : goal.returns
returns c = let it = let l = c.loop-i in
    copy_done _ _ l.invariant.0 _ l.invariant.1 l.invariant.2 c.loop-i-test.false in
    record { answer = it.0; stored = it.1 }
