-- `lower` meets its contract: each way out is one law of proofs/EntryLaws.antt.
use native.Mathlib.Omega.{arith}
use mathlib.Core.Path.{◌≡◌, refl}
use lib.ListN.{length}
use Rattle.elision.proofs.OutcomeLaws.{refused_is}
use Rattle.elision.proofs.EntryLaws.{measures, lower_refused, lower_shaped, lower_named, lower_short}
use Rattle.elision.proofs.EntryLaws.{lower_again, lower_all}
use borrow.Author.Rules.{rules}
use Rattle.elision.proofs.method.lower.Goals as goal

pub returns-in_err-measured : goal.returns-in_err-measured
returns-in_err-measured c = record {
  answer = lower_refused _ _ _ _ _ _ _ c.in_err-measured.ensures.answer (refused_is c.from_residual.ensures.1) refl refl
      refl;
}

pub returns-then-own-measured : goal.returns-then-own-measured
returns-then-own-measured c =
    let measured = measures _ _ _ _ c.in_ok-measured.ensures.answer in
    record { answer = lower_short measured c.then-own-measured.either refl refl refl refl }

pub slice_bounds-run-end : goal.slice_bounds-run-end
slice_bounds-run-end c =
    let full : length c.args.env.names ≡ 32 = search rules in
    omega (arith, full, lower_named (measures _ _ _ _ c.in_ok-measured.ensures.answer))

pub run-requires : goal.run-requires
run-requires c = lower_shaped (measures _ _ _ _ c.in_ok-measured.ensures.answer)

pub returns-in_err-run : goal.returns-in_err-run
returns-in_err-run c =
    let measured = measures _ _ _ _ c.in_ok-measured.ensures.answer in
    lower_again measured c.run.ensures c.in_err-run.was

pub returns : goal.returns
returns c =
    let measured = measures _ _ _ _ c.in_ok-measured.ensures.answer in
    let full : length c.args.env.names ≡ 32 = search rules in
    record {
      answer = lower_all measured _ _ _ c.if-own-measured.false c.if-given-measured.false
          c.if-taken-measured.false full c.run.ensures;
    }
