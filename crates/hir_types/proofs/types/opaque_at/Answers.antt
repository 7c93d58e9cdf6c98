-- `opaque_at` meets its contract: each way out is one law of proofs/TypeLaws.antt.
use Prim.Native.Nat.{◌+◌}
use mathlib.Core.Path.{refl}
use native.Mathlib.Omega.{arith}
use Rattle.hir_types.proofs.PathLaws.{path_at, path_past, path_missing}
use Rattle.hir_types.proofs.TypeLaws.{opaque_short, opaque_no_flag, opaque_missing, opaque_unowned}
use Rattle.hir_types.proofs.TypeLaws.{opaque_owned, opaque_no_owner, opaque_lost, opaque_borrowed}
use Rattle.hir_types.proofs.types.opaque_at.Goals as goal
use Rattle.hir_types.proofs.types.opaque_at.Goals.{in-0, in-1+in_ok-word-in-1}

pub returns-in_err-optional : goal.returns-in_err-optional
returns-in_err-optional c = rw c.from_residual.ensures (opaque_short _ _ _ c.in_err-optional.ensures.lookup.3)

pub returns-then-optional-gt1 : goal.returns-then-optional-gt1
returns-then-optional-gt1 c = opaque_no_flag _ _ _ c.in_ok-optional.ensures.lookup.3 c.if-optional-gt1.true

pub returns-in_err-owner : goal.returns-in_err-owner
returns-in_err-owner c = rw c.from_residual-in_err-owner.ensures
    (opaque_missing _ _ _ c.in_ok-optional.ensures.lookup.3 c.if-optional-gt1.false
    (path_missing c.args.words.now (c.args.at + 2) c.in_err-owner.ensures.answer refl))

pub returns-in_err-borrowed : goal.returns-in_err-borrowed
returns-in_err-borrowed c = rw c.from_residual-in_err-borrowed.ensures
    (opaque_unowned _ _ _ c.in_ok-optional.ensures.lookup.3 c.if-optional-gt1.false
    (path_at _ _ c.in_ok-owner.ensures.answer refl).1 c.in_err-borrowed.ensures.lookup.3)

pub returns-in_err-word-in-1 : goal.returns-in_err-word-in-1
returns-in_err-word-in-1 c = rw c.from_residual-in_err-word-in-1.ensures
    (opaque_lost _ _ _ c.in_ok-optional.ensures.lookup.3 c.if-optional-gt1.false
    (path_at _ _ c.in_ok-owner.ensures.answer refl).1 c.in_ok-borrowed.ensures.lookup.3
    c.in-1.is c.in_err-word-in-1.ensures.lookup.3)

pub returns-in_default : goal.returns-in_default
returns-in_default c = opaque_no_owner _ _ _ c.in_ok-optional.ensures.lookup.3 c.if-optional-gt1.false
    (path_at _ _ c.in_ok-owner.ensures.answer refl).1 c.in_ok-borrowed.ensures.lookup.3 (omega arith)

pub overflow_sub-result : goal.overflow_sub-result
overflow_sub-result c = omega (arith, path_past c.args.words.now (c.args.at + 2) c.in_ok-owner.ensures.answer refl)

pub returns : goal.returns
returns c = elim c.match-borrowed.branch [
  | in-0 w ↦ rw w.own-is
      (opaque_owned _ _ _ c.in_ok-optional.ensures.lookup.3 c.if-optional-gt1.false
      (path_at _ _ c.in_ok-owner.ensures.answer refl).1 c.in_ok-borrowed.ensures.lookup.3 w.in-0.is)
  | in-1+in_ok-word-in-1 w ↦ rw w.own-is
      (opaque_borrowed _ _ _ c.in_ok-optional.ensures.lookup.3 c.if-optional-gt1.false
      (path_at _ _ c.in_ok-owner.ensures.answer refl).1 c.in_ok-borrowed.ensures.lookup.3 w.in-1.is
      w.in_ok-word-in-1.ensures.lookup.3)
]
