-- `type_end` meets its contract: a type is there, and its row is known.
use mathlib.Core.Path.{sym}
use Rattle.hir_types.proofs.FoundLaws.{type_found, type_lost}
use Rattle.hir_types.proofs.EndLaws.{known_missing, known_no_row, known_ends}
use Rattle.hir_types.proofs.shapes.type_end.Goals as goal

pub returns-in_err-parts : goal.returns-in_err-parts
returns-in_err-parts c = rw c.from_residual.ensures (known_missing _ _ _ (type_lost c.args.words.now c.args.at c.in_err-parts.ensures.answer))

pub returns-then-not-known : goal.returns-then-not-known
returns-then-not-known c = known_no_row _ _ _ (type_found _ _ c.in_ok-parts.ensures.answer) (sym c.if-not-known.ensures)

pub returns : goal.returns
returns c = known_ends _ _ _ (type_found _ _ c.in_ok-parts.ensures.answer) (sym c.if-not-known.ensures)
