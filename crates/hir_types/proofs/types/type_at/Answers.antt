-- `type_at` meets its contract: an option, or a type that is none.
use native.Mathlib.Omega.{arith}
use Rattle.hir_types.proofs.TypeLaws.{type_none, type_option, type_bare}
use Rattle.hir_types.proofs.types.type_at.Goals as goal

pub returns-in_err-code : goal.returns-in_err-code
returns-in_err-code c = record { answer = rw c.from_residual.ensures (type_none _ _ c.in_err-code.ensures.lookup.3) }

pub returns-in-4 : goal.returns-in-4
returns-in-4 c = record { answer = type_option _ _ c.in_ok-code.ensures.lookup.3 c.in-4.is c.bare_at.ensures }

pub returns-in_default : goal.returns-in_default
returns-in_default c = record { answer = type_bare _ _ c.in_ok-code.ensures.lookup.3 (λ e. omega arith) c.bare_at-in_default.ensures }
