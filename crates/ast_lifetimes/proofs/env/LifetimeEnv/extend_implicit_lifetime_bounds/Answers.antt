-- `extend_implicit_lifetime_bounds` meets its contract: each way out is a law of proofs/ExtendLaws.antt.
use mathlib.Core.Path.{◌≡◌}
use lib.ListN.{length}
use borrow.Author.Rules.{rules}
use Rattle.std.proofs.lemmas.Result.{err_from_is_err_and}
use Rattle.ast_lifetimes.proofs.ExtendLaws.{valid, extend_malformed, extend_shaped, extend_invalid, extend_stands}
use Rattle.ast_lifetimes.proofs.ExtendLaws.{extend_refused, extend_given}
use Rattle.ast_lifetimes.proofs.env.LifetimeEnv.extend_implicit_lifetime_bounds.Goals as goal

pub returns-in_err-types_shape : goal.returns-in_err-types_shape
returns-in_err-types_shape c = search (extend_malformed, rules)

pub returns-in_err-check : goal.returns-in_err-check
returns-in_err-check c = record {
  answer = let p = err_from_is_err_and c.from_residual-in_err-check.result c.from_residual-in_err-check.ensures.1 in
      rw (p.1, p.2)
      (extend_invalid c.args.self c.args.types.now c.types_shape.ensures.answer c.in_ok-types_shape.was
      c.check.ensures.answer c.in_err-check.was);
}

pub cleared-env-requires : goal.cleared-env-requires
cleared-env-requires c = valid c.args.self c.check.ensures.answer c.in_ok-check.was

pub extend_implied-requires : goal.extend_implied-requires
extend_implied-requires c =
    let full : length c.args.self.names ≡ 32 = search rules in
    let whole : length c.args.self.bounds.list ≡ 256 = search rules in
    record {
      stands = extend_stands c.args.self c.args.types.now c.types_shape.ensures.answer c.in_ok-types_shape.was full whole
          c.check.ensures.answer c.in_ok-check.was c.cleared-env.ensures;
      shaped = extend_shaped c.args.self c.args.types.now c.types_shape.ensures.answer c.in_ok-types_shape.was;
    }

pub returns-in_err-extend_implied : goal.returns-in_err-extend_implied
returns-in_err-extend_implied c =
    let full : length c.args.self.names ≡ 32 = search rules in
    let whole : length c.args.self.bounds.list ≡ 256 = search rules in
    record {
      answer = let p = err_from_is_err_and c.from_residual-in_err-extend_implied.result
          c.from_residual-in_err-extend_implied.ensures.1 in
          rw (p.1, p.2)
          (extend_refused c.args.self c.args.types.now c.types_shape.ensures.answer c.in_ok-types_shape.was full whole
          c.check.ensures.answer c.in_ok-check.was c.cleared-env.ensures c.extend_implied.ensures c.in_err-extend_implied.was);
    }

pub returns : goal.returns
returns c =
    let full : length c.args.self.names ≡ 32 = search rules in
    let whole : length c.args.self.bounds.list ≡ 256 = search rules in
    record {
      answer = extend_given c.args.self c.args.types.now c.types_shape.ensures.answer c.in_ok-types_shape.was full whole
          c.check.ensures.answer c.in_ok-check.was c.cleared-env.ensures c.extend_implied.ensures c.in_ok-extend_implied.was;
    }
