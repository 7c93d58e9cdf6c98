-- `bare_at` meets its contract: the code decides.
use native.Mathlib.Omega.{arith}
use Rattle.hir_types.proofs.TypeLaws.{bare_none, bare_plain, bare_opaque, bare_struct, bare_slice}
use Rattle.hir_types.proofs.TypeLaws.{bare_no_code}
use Rattle.hir_types.proofs.types.bare_at.Goals as goal

pub returns-in_err-code : goal.returns-in_err-code
returns-in_err-code c = rw c.from_residual.ensures (bare_none _ _ _ c.in_err-code.ensures.lookup.3)

pub returns-in-0 : goal.returns-in-0
returns-in-0 c = bare_plain _ _ _ c.in_ok-code.ensures.lookup.3 c.in-0.is

pub returns-in-1 : goal.returns-in-1
returns-in-1 c = bare_opaque _ _ _ c.in_ok-code.ensures.lookup.3 c.in-1.is c.opaque_at.ensures

pub returns-in-2 : goal.returns-in-2
returns-in-2 c = bare_struct _ _ _ c.in_ok-code.ensures.lookup.3 c.in-2.is c.struct_at.ensures

pub returns-in-3 : goal.returns-in-3
returns-in-3 c = bare_slice _ _ _ c.in_ok-code.ensures.lookup.3 c.in-3.is c.slice_at.ensures

pub returns-in_default : goal.returns-in_default
returns-in_default c = bare_no_code _ _ _ c.in_ok-code.ensures.lookup.3 (omega arith)
