-- `from_method_item` meets its contract: the first record that is not in shape refuses.
use Rattle.std.proofs.lemmas.Result.{err_from_is_err_and}
use Rattle.ast_lifetimes.proofs.ItemLaws.{item_names, item_bounds, item_types}
use Rattle.ast_lifetimes.proofs.env.LifetimeEnv.from_method_item.Goals as goal

pub returns-in_err-names_shape : goal.returns-in_err-names_shape
returns-in_err-names_shape c = record {
  answer = let p = err_from_is_err_and c.from_residual.result c.from_residual.ensures.1 in
      rw (p.1, p.2)
      (item_names c.args.names.now c.args.bounds.now c.args.types.now c.names_shape.ensures.answer c.in_err-names_shape.was);
}

pub returns-in_err-bounds_shape : goal.returns-in_err-bounds_shape
returns-in_err-bounds_shape c = record {
  answer = let p = err_from_is_err_and c.from_residual-in_err-bounds_shape.result
      c.from_residual-in_err-bounds_shape.ensures.1 in
      rw (p.1, p.2)
      (item_bounds c.args.names.now c.args.bounds.now c.args.types.now c.names_shape.ensures.answer
      c.in_ok-names_shape.was c.bounds_shape.ensures.answer c.in_err-bounds_shape.was);
}

pub returns-in_err-types_shape : goal.returns-in_err-types_shape
returns-in_err-types_shape c = record {
  answer = let p = err_from_is_err_and c.from_residual-in_err-types_shape.result
      c.from_residual-in_err-types_shape.ensures.1 in
      rw (p.1, p.2)
      (item_types c.args.names.now c.args.bounds.now c.args.types.now c.names_shape.ensures.answer
      c.in_ok-names_shape.was c.bounds_shape.ensures.answer c.in_ok-bounds_shape.was c.types_shape.ensures.answer
      c.in_err-types_shape.was);
}
