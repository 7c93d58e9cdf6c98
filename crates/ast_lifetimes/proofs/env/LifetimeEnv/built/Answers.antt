-- `built` meets its contract: each stage, refused or done, is a law of proofs/ItemLaws.antt.
use native.Mathlib.Omega.{arith}
use Rattle.std.proofs.lemmas.Result.{err_from_is_err_and}
use Rattle.ast_lifetimes.proofs.ItemLaws.{shaped, item_stands, item_named, item_bound, item_renamed, item_rebound}
use Rattle.ast_lifetimes.proofs.ItemLaws.{item_named_refused, item_bound_refused, item_renamed_refused}
use Rattle.ast_lifetimes.proofs.ItemLaws.{item_rebound_refused, item_implied_refused, item_given}
use Rattle.ast_lifetimes.proofs.env.LifetimeEnv.built.Goals as goal

pub bounds-names-0 : goal.bounds-names-0
bounds-names-0 c = let sh = shaped c.args.names.now c.args.bounds.now c.args.types.now c.requires in sh.in_names.some

pub bounds-bounds-0 : goal.bounds-bounds-0
bounds-bounds-0 c = let sh = shaped c.args.names.now c.args.bounds.now c.args.types.now c.requires in sh.in_bounds.some

pub overflow_add-impls : goal.overflow_add-impls
overflow_add-impls c = let sh = shaped c.args.names.now c.args.bounds.now c.args.types.now c.requires in omega (arith, sh.in_names.few, sh.in_names.fits)

pub slice_bounds-extend_lifetimes-end : goal.slice_bounds-extend_lifetimes-end
slice_bounds-extend_lifetimes-end c = let sh = shaped c.args.names.now c.args.bounds.now c.args.types.now c.requires in omega (arith, sh.in_names.fits)

pub overflow_mul-first : goal.overflow_mul-first
overflow_mul-first c = let sh = shaped c.args.names.now c.args.bounds.now c.args.types.now c.requires in omega (arith, sh.in_bounds.few, sh.in_bounds.fits)

pub overflow_add-first : goal.overflow_add-first
overflow_add-first c = let sh = shaped c.args.names.now c.args.bounds.now c.args.types.now c.requires in omega (arith, sh.in_bounds.few, sh.in_bounds.fits)

pub slice_bounds-extend_bounds-end : goal.slice_bounds-extend_bounds-end
slice_bounds-extend_bounds-end c = let sh = shaped c.args.names.now c.args.bounds.now c.args.types.now c.requires in sh.in_bounds.fits

pub slice_bounds-extend_lifetimes-count-2 : goal.slice_bounds-extend_lifetimes-count-2
slice_bounds-extend_lifetimes-count-2 c = let sh = shaped c.args.names.now c.args.bounds.now c.args.types.now c.requires in sh.in_names.fits

pub slice_bounds-extend_lifetimes-start-2 : goal.slice_bounds-extend_lifetimes-start-2
slice_bounds-extend_lifetimes-start-2 c = let sh = shaped c.args.names.now c.args.bounds.now c.args.types.now c.requires in sh.in_names.fits

pub slice_bounds-extend_bounds-count-2 : goal.slice_bounds-extend_bounds-count-2
slice_bounds-extend_bounds-count-2 c = let sh = shaped c.args.names.now c.args.bounds.now c.args.types.now c.requires in sh.in_bounds.fits

pub slice_bounds-extend_bounds-start-2 : goal.slice_bounds-extend_bounds-start-2
slice_bounds-extend_bounds-start-2 c = let sh = shaped c.args.names.now c.args.bounds.now c.args.types.now c.requires in sh.in_bounds.fits

pub extend_lifetimes-requires : goal.extend_lifetimes-requires
extend_lifetimes-requires c = let sh = shaped c.args.names.now c.args.bounds.now c.args.types.now c.requires in
    item_stands sh c.none-env.ensures.answer

pub returns-in_err-extend_lifetimes : goal.returns-in_err-extend_lifetimes
returns-in_err-extend_lifetimes c = let sh = shaped c.args.names.now c.args.bounds.now c.args.types.now c.requires in
    let p = err_from_is_err_and c.from_residual.result c.from_residual.ensures.1 in
    rw (p.1, p.2)
    (item_named_refused sh c.none-env.ensures.answer c.extend_lifetimes.ensures c.in_err-extend_lifetimes.was)

pub extend_bounds-requires : goal.extend_bounds-requires
extend_bounds-requires c = let sh = shaped c.args.names.now c.args.bounds.now c.args.types.now c.requires in
    item_named sh c.none-env.ensures.answer c.extend_lifetimes.ensures c.in_ok-extend_lifetimes.was

pub returns-in_err-extend_bounds : goal.returns-in_err-extend_bounds
returns-in_err-extend_bounds c = let sh = shaped c.args.names.now c.args.bounds.now c.args.types.now c.requires in
    let p = err_from_is_err_and c.from_residual-in_err-extend_bounds.result c.from_residual-in_err-extend_bounds.ensures.1 in
    rw (p.1, p.2)
    (item_bound_refused sh c.none-env.ensures.answer c.extend_lifetimes.ensures c.in_ok-extend_lifetimes.was c.extend_bounds.ensures c.in_err-extend_bounds.was)

pub extend_lifetimes-requires-2 : goal.extend_lifetimes-requires-2
extend_lifetimes-requires-2 c = let sh = shaped c.args.names.now c.args.bounds.now c.args.types.now c.requires in
    item_bound sh c.none-env.ensures.answer c.extend_lifetimes.ensures c.in_ok-extend_lifetimes.was c.extend_bounds.ensures c.in_ok-extend_bounds.was

pub returns-in_err-extend_lifetimes-2 : goal.returns-in_err-extend_lifetimes-2
returns-in_err-extend_lifetimes-2 c = let sh = shaped c.args.names.now c.args.bounds.now c.args.types.now c.requires in
    let p = err_from_is_err_and c.from_residual-in_err-extend_lifetimes-2.result c.from_residual-in_err-extend_lifetimes-2.ensures.1 in
    rw (p.1, p.2)
    (item_renamed_refused sh c.none-env.ensures.answer c.extend_lifetimes.ensures c.in_ok-extend_lifetimes.was c.extend_bounds.ensures c.in_ok-extend_bounds.was c.extend_lifetimes-2.ensures c.in_err-extend_lifetimes-2.was)

pub extend_bounds-requires-2 : goal.extend_bounds-requires-2
extend_bounds-requires-2 c = let sh = shaped c.args.names.now c.args.bounds.now c.args.types.now c.requires in
    item_renamed sh c.none-env.ensures.answer c.extend_lifetimes.ensures c.in_ok-extend_lifetimes.was c.extend_bounds.ensures c.in_ok-extend_bounds.was c.extend_lifetimes-2.ensures c.in_ok-extend_lifetimes-2.was

pub returns-in_err-extend_bounds-2 : goal.returns-in_err-extend_bounds-2
returns-in_err-extend_bounds-2 c = let sh = shaped c.args.names.now c.args.bounds.now c.args.types.now c.requires in
    let p = err_from_is_err_and c.from_residual-in_err-extend_bounds-2.result c.from_residual-in_err-extend_bounds-2.ensures.1 in
    rw (p.1, p.2)
    (item_rebound_refused sh c.none-env.ensures.answer c.extend_lifetimes.ensures c.in_ok-extend_lifetimes.was c.extend_bounds.ensures c.in_ok-extend_bounds.was c.extend_lifetimes-2.ensures c.in_ok-extend_lifetimes-2.was c.extend_bounds-2.ensures c.in_err-extend_bounds-2.was)

pub extend_implied-requires : goal.extend_implied-requires
extend_implied-requires c = let sh = shaped c.args.names.now c.args.bounds.now c.args.types.now c.requires in
    record { stands = item_rebound sh c.none-env.ensures.answer c.extend_lifetimes.ensures c.in_ok-extend_lifetimes.was c.extend_bounds.ensures c.in_ok-extend_bounds.was c.extend_lifetimes-2.ensures c.in_ok-extend_lifetimes-2.was c.extend_bounds-2.ensures c.in_ok-extend_bounds-2.was; shaped = sh.in_types }

pub returns-in_err-extend_implied : goal.returns-in_err-extend_implied
returns-in_err-extend_implied c = let sh = shaped c.args.names.now c.args.bounds.now c.args.types.now c.requires in
    let p = err_from_is_err_and c.from_residual-in_err-extend_implied.result c.from_residual-in_err-extend_implied.ensures.1 in
    rw (p.1, p.2)
    (item_implied_refused sh c.none-env.ensures.answer c.extend_lifetimes.ensures c.in_ok-extend_lifetimes.was c.extend_bounds.ensures c.in_ok-extend_bounds.was c.extend_lifetimes-2.ensures c.in_ok-extend_lifetimes-2.was c.extend_bounds-2.ensures c.in_ok-extend_bounds-2.was c.extend_implied.ensures c.in_err-extend_implied.was)

pub returns : goal.returns
returns c = let sh = shaped c.args.names.now c.args.bounds.now c.args.types.now c.requires in
    item_given sh c.none-env.ensures.answer c.extend_lifetimes.ensures c.in_ok-extend_lifetimes.was c.extend_bounds.ensures c.in_ok-extend_bounds.was c.extend_lifetimes-2.ensures c.in_ok-extend_lifetimes-2.was c.extend_bounds-2.ensures c.in_ok-extend_bounds-2.was c.extend_implied.ensures c.in_ok-extend_implied.was
