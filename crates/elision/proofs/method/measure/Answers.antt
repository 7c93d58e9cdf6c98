-- `measure` meets its contract: each way out is one law of proofs/EntryLaws.antt.
use native.Mathlib.Omega.{arith}
use mathlib.Core.Path.{◌≡◌}
use lib.ListN.{length}
use Rattle.ast_lifetimes.proofs.ThanLaws.{few_names}
use Rattle.elision.proofs.OutcomeLaws.{passed_on}
use Rattle.elision.proofs.EntryLaws.{measure_shape, shape_told, measure_env, valid_told}
use Rattle.elision.proofs.EntryLaws.{measure_refused, measure_all}
use borrow.Author.Rules.{rules}
use Rattle.elision.proofs.method.measure.Goals as goal

pub returns-in_err-shape_of : goal.returns-in_err-shape_of
returns-in_err-shape_of c = record {
  answer = passed_on c.from_residual.ensures.1 (measure_shape _ _ _ _ c.in_err-shape_of.ensures);
}

pub returns-in_err-check : goal.returns-in_err-check
returns-in_err-check c = record {
  answer = passed_on c.from_residual-in_err-check.ensures.1
      (measure_env (shape_told c.args.env _ _ _ c.in_ok-shape_of.ensures) c.in_err-check.ensures.answer);
}

pub slice_bounds-judge-end : goal.slice_bounds-judge-end
slice_bounds-judge-end c =
    let full : length c.args.env.names ≡ 32 = search rules in
    let valid = valid_told (shape_told c.args.env _ _ _ c.in_ok-shape_of.ensures) c.in_ok-check.ensures.answer in
    omega (arith, full, few_names c.args.env valid.none)

pub returns-in_err-totals : goal.returns-in_err-totals
returns-in_err-totals c =
    let valid = valid_told (shape_told c.args.env _ _ _ c.in_ok-shape_of.ensures) c.in_ok-check.ensures.answer in
    record { answer = passed_on c.from_residual-in_err-totals.ensures.1 (measure_refused valid c.in_err-totals.ensures) }

pub returns : goal.returns
returns c =
    let valid = valid_told (shape_told c.args.env _ _ _ c.in_ok-shape_of.ensures) c.in_ok-check.ensures.answer in
    record { answer = measure_all valid c.in_ok-totals.ensures c.from_bounds.ensures.answer }
