-- `struct_at` meets its contract: each way out is one law of proofs/TypeLaws.antt.
use Prim.Native.Nat.{◌+◌}
use mathlib.Core.Path.{refl}
use native.Mathlib.Omega.{arith}
use Rattle.hir_types.proofs.PathLaws.{path_at, path_past, path_missing}
use Rattle.hir_types.proofs.TypeLaws.{struct_short, struct_missing, struct_whole}
use Rattle.hir_types.proofs.types.struct_at.Goals as goal

pub returns-in_err-row : goal.returns-in_err-row
returns-in_err-row c = rw c.from_residual.ensures (struct_short _ _ _ c.in_err-row.ensures.lookup.3)

pub returns-in_err-next : goal.returns-in_err-next
returns-in_err-next c = rw c.from_residual-in_err-next.ensures
    (struct_missing _ _ _ c.in_ok-row.ensures.lookup.3 (path_missing c.args.words.now (c.args.at + 2) c.in_err-next.ensures.answer refl))

pub overflow_sub-result : goal.overflow_sub-result
overflow_sub-result c = omega (arith, path_past c.args.words.now (c.args.at + 2) c.in_ok-next.ensures.answer refl)

pub returns : goal.returns
returns c = struct_whole _ _ _ c.in_ok-row.ensures.lookup.3 (path_at _ _ c.in_ok-next.ensures.answer refl).1
