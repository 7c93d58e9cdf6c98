-- `field_at` meets its contract: each way out is one law of proofs/FieldsLaws.antt.
use native.Mathlib.Omega.{arith}
use Rattle.hir_types.proofs.FoundLaws.{type_found, type_lost}
use Rattle.methods.proofs.FieldsLaws.{field_no_row, field_past, field_unskipped, field_stands}
use Rattle.methods.proofs.FieldsLaws.{field_lost, no_struct, field_other, field_struct}
use Rattle.methods.proofs.fields.field_at.Goals as goal

pub returns-then-rows-row : goal.returns-then-rows-row
returns-then-rows-row c = field_no_row (omega (arith, c.requires.1))

pub returns-then-structs-place : goal.returns-then-structs-place
returns-then-structs-place c = field_past c.in_ok-place.ensures c.if-structs-place.true

pub returns-in_err-at : goal.returns-in_err-at
returns-in_err-at c = rw c.from_residual-in_err-at.ensures
    (field_unskipped c.in_ok-place.ensures c.if-structs-place.false c.in_err-at.ensures)

pub returns-in_err-parts : goal.returns-in_err-parts
returns-in_err-parts c =
    let stands = field_stands c.in_ok-place.ensures c.if-structs-place.false c.in_ok-at.ensures in
    rw c.from_residual-in_err-parts.ensures
    (field_lost stands (type_lost c.args.structs.now c.in_ok-at.at c.in_err-parts.ensures.answer))

pub returns-in-Struct : goal.returns-in-Struct
returns-in-Struct c =
    let stands = field_stands c.in_ok-place.ensures c.if-structs-place.false c.in_ok-at.ensures in
    field_struct stands (type_found _ _ c.in_ok-parts.ensures.answer) c.in-Struct.is

pub returns-in-Plain : goal.returns-in-Plain
returns-in-Plain c =
    let stands = field_stands c.in_ok-place.ensures c.if-structs-place.false c.in_ok-at.ensures in
    field_other stands (type_found _ _ c.in_ok-parts.ensures.answer) (no_struct c.in-Plain.is)
