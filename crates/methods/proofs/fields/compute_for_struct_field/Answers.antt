-- `compute_for_struct_field` meets its contract: refused by the shape, for the field, at a row, or given.
use native.Mathlib.Omega.{arith}
use Rattle.answers.specs.declared.Refusal.TheVariants.{Malformed}
use Rattle.hir_types.proofs.QuestionLaws.{handed_on, was_some, was_none}
use Rattle.methods.proofs.FieldsLaws.{field_told, in_order, compute_torn, compute_other, compute_refused}
use Rattle.methods.proofs.FieldsLaws.{few_rows, path_linked, compute_given}
use Rattle.methods.proofs.fields.compute_for_struct_field.Goals as goal

pub returns-in_err-rows : goal.returns-in_err-rows
returns-in_err-rows c = record {
  answer = rw (handed_on c.from_residual.ensures.1) (compute_torn _ _ _ c.in_err-rows.ensures.answer);
}

pub field_at-requires : goal.field_at-requires
field_at-requires c = in_order _ c.args.row c.args.field c.in_ok-rows.ensures.answer

pub returns-in_err-inner : goal.returns-in_err-inner
returns-in_err-inner c = let none = was_none c.field_at.result Malformed c.in_err-inner.ensures.value in record {
  answer = rw (handed_on c.from_residual-in_err-inner.ensures.1, none.1)
      (compute_other _ _ _ c.in_ok-rows.ensures.answer (field_told c.field_at.ensures none.0));
}

pub index_rows-requires : goal.index_rows-requires
index_rows-requires c = in_order _ c.args.row c.args.field c.in_ok-rows.ensures.answer

pub returns-in_err-index_rows : goal.returns-in_err-index_rows
returns-in_err-index_rows c = record {
  answer = rw (handed_on c.from_residual-in_err-index_rows.ensures.1)
      (compute_refused _ _ _ c.in_ok-rows.ensures.answer
      (field_told c.field_at.ensures (was_some c.field_at.result Malformed c.in_ok-inner.ensures.value))
      c.in_err-index_rows.ensures);
}

pub offset_bounds-lifetimes-inner : goal.offset_bounds-lifetimes-inner
offset_bounds-lifetimes-inner c =
    let asked = field_told c.field_at.ensures (was_some c.field_at.result Malformed c.in_ok-inner.ensures.value) in
    let few = few_rows c.args.structs.now c.args.row c.args.field c.in_ok-rows.ensures.answer asked
    c.in_ok-index_rows.ensures in
    omega (arith, few.1)

pub bounds-lifetimes-inner : goal.bounds-lifetimes-inner
bounds-lifetimes-inner c =
    let asked = field_told c.field_at.ensures (was_some c.field_at.result Malformed c.in_ok-inner.ensures.value) in
    let few = few_rows c.args.structs.now c.args.row c.args.field c.in_ok-rows.ensures.answer asked
    c.in_ok-index_rows.ensures in
    few.1

pub offset_bounds-lifetimes-row : goal.offset_bounds-lifetimes-row
offset_bounds-lifetimes-row c =
    let asked = field_told c.field_at.ensures (was_some c.field_at.result Malformed c.in_ok-inner.ensures.value) in
    let few = few_rows c.args.structs.now c.args.row c.args.field c.in_ok-rows.ensures.answer asked
    c.in_ok-index_rows.ensures in
    omega (arith, few.0)

pub bounds-lifetimes-row : goal.bounds-lifetimes-row
bounds-lifetimes-row c =
    let asked = field_told c.field_at.ensures (was_some c.field_at.result Malformed c.in_ok-inner.ensures.value) in
    let few = few_rows c.args.structs.now c.args.row c.args.field c.in_ok-rows.ensures.answer asked
    c.in_ok-index_rows.ensures in
    few.0

pub pairs_of-requires : goal.pairs_of-requires
pairs_of-requires c =
    let asked = field_told c.field_at.ensures (was_some c.field_at.result Malformed c.in_ok-inner.ensures.value) in
    path_linked c.args.structs.now c.args.row c.args.field c.in_ok-rows.ensures.answer asked
    c.in_ok-index_rows.ensures c.path_words-path.ensures.answer

pub returns : goal.returns
returns c =
    let asked = field_told c.field_at.ensures (was_some c.field_at.result Malformed c.in_ok-inner.ensures.value) in
    record {
      answer = compute_given c.args.structs.now c.args.row c.args.field c.in_ok-rows.ensures.answer asked
          c.in_ok-index_rows.ensures c.path_words-path.ensures.answer c.pairs_of.ensures;
    }
