-- `slice_at` meets its contract: each way out is one law of proofs/TypeLaws.antt.
use Prim.Native.Nat.{◌+◌}
use mathlib.Core.Path.{refl}
use native.Mathlib.Omega.{arith}
use Rattle.hir_types.proofs.PathLaws.{path_at, path_past, path_missing}
use Rattle.hir_types.proofs.TypeLaws.{slice_short, slice_bare, slice_strs, slice_lost, slice_own}
use Rattle.hir_types.proofs.TypeLaws.{slice_missing, slice_unowned, slice_opaques, slice_no_code}
use Rattle.hir_types.proofs.types.slice_at.Goals as goal

pub returns-in_err-code : goal.returns-in_err-code
returns-in_err-code c = rw c.from_residual.ensures (slice_short _ _ _ c.in_err-code.ensures.lookup.3)

pub returns-in-0 : goal.returns-in-0
returns-in-0 c = slice_bare _ _ _ c.in_ok-code.ensures.lookup.3 c.in-0.is

pub returns-in_err-word-in-1 : goal.returns-in_err-word-in-1
returns-in_err-word-in-1 c = rw c.from_residual-in_err-word-in-1.ensures
    (slice_lost _ _ _ c.in_ok-code.ensures.lookup.3 c.in-1.is c.in_err-word-in-1.ensures.lookup.3)

pub returns-in_ok-word-in-1 : goal.returns-in_ok-word-in-1
returns-in_ok-word-in-1 c =
    slice_own _ _ _ c.in_ok-code.ensures.lookup.3 c.in-1.is c.in_ok-word-in-1.ensures.lookup.3

pub returns-in-2 : goal.returns-in-2
returns-in-2 c = slice_strs _ _ _ c.in_ok-code.ensures.lookup.3 c.in-2.is

pub returns-in_err-owner-in-3 : goal.returns-in_err-owner-in-3
returns-in_err-owner-in-3 c = rw c.from_residual-in_err-owner-in-3.ensures
    (slice_missing _ _ _ c.in_ok-code.ensures.lookup.3 c.in-3.is (path_missing c.args.words.now (c.args.at + 2) c.in_err-owner-in-3.ensures.answer refl))

pub returns-in_err-word-in-3 : goal.returns-in_err-word-in-3
returns-in_err-word-in-3 c = rw c.from_residual-in_err-word-in-3.ensures
    (slice_unowned _ _ _ c.in_ok-code.ensures.lookup.3 c.in-3.is
    (path_at _ _ c.in_ok-owner-in-3.ensures.answer refl).1 c.in_err-word-in-3.ensures.lookup.3)

pub overflow_sub-count : goal.overflow_sub-count
overflow_sub-count c = omega (arith, path_past c.args.words.now (c.args.at + 2) c.in_ok-owner-in-3.ensures.answer refl)

pub returns-in_ok-word-in-3 : goal.returns-in_ok-word-in-3
returns-in_ok-word-in-3 c = slice_opaques _ _ _ c.in_ok-code.ensures.lookup.3 c.in-3.is
    (path_at _ _ c.in_ok-owner-in-3.ensures.answer refl).1 c.in_ok-word-in-3.ensures.lookup.3

pub returns-in_default : goal.returns-in_default
returns-in_default c = slice_no_code _ _ _ c.in_ok-code.ensures.lookup.3 (omega arith)
