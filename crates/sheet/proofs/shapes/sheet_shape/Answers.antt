-- `sheet_shape` meets its contract: the records of each crate are judged, those of the method last.
use mathlib.Core.Path.{refl, ap, ◌∙◌}
use Rattle.std.proofs.lemmas.Result.{err_from_is_err_and}
use Rattle.answers.specs.Lent.{verdict_of}
use Rattle.hir_types.specs.declared.shapes.Shape.{Shape}
use Rattle.sheet.proofs.LaidLaws.{sheet_torn, sheet_judged}
use Rattle.sheet.proofs.shapes.sheet_shape.Goals as goal

pub returns-then-not-environment-elision : goal.returns-then-not-environment-elision
returns-then-not-environment-elision c = record {
  answer = sheet_torn _ c.environment_in_shape-environment.ensures c.elision_in_shape-elision.ensures refl
      c.if-not-environment-elision.true;
}

pub returns-in_err-method_shape : goal.returns-in_err-method_shape
returns-in_err-method_shape c =
    let p = err_from_is_err_and c.from_residual.result c.from_residual.ensures.1 in
    record {
      answer = rw (p.1, p.2) (ap (verdict_of {A = Shape}) c.in_err-method_shape.ensures.answer
          ∙ sheet_judged _ c.environment_in_shape-environment.ensures c.elision_in_shape-elision.ensures refl
          c.if-not-environment-elision.false);
    }

pub returns : goal.returns
returns c = record {
  answer = ap (verdict_of {A = Shape}) c.in_ok-method_shape.ensures.answer
      ∙ sheet_judged _ c.environment_in_shape-environment.ensures c.elision_in_shape-elision.ensures refl
      c.if-not-environment-elision.false;
}
