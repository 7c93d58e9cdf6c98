-- `environment_in_shape` meets its contract: each record is judged, and all must be in shape.
use Rattle.ast_lifetimes.specs.Shapes.{names_in_shape, bounds_in_shape}
use Rattle.ast_lifetimes.specs.Types.{types_in_shape}
use Rattle.sheet.proofs.LaidLaws.{shape_is}
use Rattle.sheet.proofs.shapes.environment_in_shape.Goals as goal

pub returns : goal.returns
returns c = rw (
  shape_is names_in_shape c.args.names.now c.names_shape.ensures.answer c.is_ok.ensures.value,
  shape_is bounds_in_shape c.args.bounds.now c.bounds_shape.ensures.answer c.is_ok-2.ensures.value,
  shape_is types_in_shape c.args.types.now c.types_shape.ensures.answer c.is_ok-3.ensures.value,
)
