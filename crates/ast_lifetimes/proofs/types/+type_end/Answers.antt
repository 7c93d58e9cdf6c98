-- `type_end` meets its contract: each way out is one law of proofs/TypesLaws.antt.
use native.Mathlib.Omega.{arith}
use Rattle.ast_lifetimes.proofs.TypesLaws.{Stands, type_deep, type_none, type_other, type_path}
use Rattle.ast_lifetimes.proofs.TypesLaws.{type_reference_short, type_reference, type_option, type_result_missing}
use Rattle.ast_lifetimes.proofs.TypesLaws.{type_result, type_no_code}
use Rattle.records.proofs.EndLaws.{ends_told, lifetimes_end}
use Rattle.ast_lifetimes.proofs.types.+type_end.Goals as goal

pub returns-then-nesting-eq0 : goal.returns-then-nesting-eq0
returns-then-nesting-eq0 t c = type_deep _ _ _ c.if-nesting-eq0.true

pub returns-then-n-at : goal.returns-then-n-at
returns-then-n-at t c = type_none _ _ _ c.if-n-at.true

pub returns-in-0 : goal.returns-in-0
returns-in-0 t c =
    let stands : Stands c.args.words.now c.args.at c.args.nesting =
    record { some = c.if-nesting-eq0.false; here = c.if-n-at.false } in
    type_other stands c.in-0.is

pub returns-in-1 : goal.returns-in-1
returns-in-1 t c =
    let stands : Stands c.args.words.now c.args.at c.args.nesting =
    record { some = c.if-nesting-eq0.false; here = c.if-n-at.false } in
    type_path stands c.in-1.is (lifetimes_end _ _ c.lifetimes_end.ensures.answer)

pub returns-then-n-next : goal.returns-then-n-next
returns-then-n-next t c =
    let stands : Stands c.args.words.now c.args.at c.args.nesting =
    record { some = c.if-nesting-eq0.false; here = c.if-n-at.false } in
    type_reference_short stands c.in-2.is c.if-n-next.true

pub returns-else-n-next : goal.returns-else-n-next
returns-else-n-next t c =
    let stands : Stands c.args.words.now c.args.at c.args.nesting =
    record { some = c.if-nesting-eq0.false; here = c.if-n-at.false } in
    type_reference stands c.in-2.is c.if-n-next.false c.type_end.ensures

pub returns-in-3 : goal.returns-in-3
returns-in-3 t c =
    let stands : Stands c.args.words.now c.args.at c.args.nesting =
    record { some = c.if-nesting-eq0.false; here = c.if-n-at.false } in
    type_option stands c.in-3.is c.type_end-in-3.ensures

pub returns-in_err-second-in-4 : goal.returns-in_err-second-in-4
returns-in_err-second-in-4 t c =
    let stands : Stands c.args.words.now c.args.at c.args.nesting =
    record { some = c.if-nesting-eq0.false; here = c.if-n-at.false } in
    rw c.from_residual.ensures
    (type_result_missing stands c.in-4.is (ends_told c.type_end-in-4.ensures c.in_err-second-in-4.was))

pub returns-in_ok-second-in-4 : goal.returns-in_ok-second-in-4
returns-in_ok-second-in-4 t c =
    let stands : Stands c.args.words.now c.args.at c.args.nesting =
    record { some = c.if-nesting-eq0.false; here = c.if-n-at.false } in
    type_result stands c.in-4.is (ends_told c.type_end-in-4.ensures c.in_ok-second-in-4.was)
    c.type_end-in-4-2.ensures

pub returns-in_default : goal.returns-in_default
returns-in_default t c =
    let stands : Stands c.args.words.now c.args.at c.args.nesting =
    record { some = c.if-nesting-eq0.false; here = c.if-n-at.false } in
    type_no_code stands (λ e. omega arith) (λ e. omega arith) (λ e. omega arith) (λ e. omega arith) (λ e. omega arith)
