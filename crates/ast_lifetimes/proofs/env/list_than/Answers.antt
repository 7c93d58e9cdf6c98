-- `list_than` meets its contract: each of its answers is that of the first check that is due, or the list.
use mathlib.Core.Path.{◌≡◌, sym, ◌∙◌}
use lib.ListN.{length}
use borrow.Author.Rules.{rules}
use Rattle.answers.proofs.RefusalLaws.{refused_first}
use Rattle.std.proofs.lemmas.Result.{err_from_is_err_and}
use Rattle.ast_lifetimes.specs.Env.{env_checks}
use Rattle.ast_lifetimes.proofs.ExtendLaws.{valid}
use Rattle.ast_lifetimes.proofs.ThanLaws.{few_names, than_refused, than_unknown, than_traversal}
use Rattle.ast_lifetimes.proofs.env.list_than.Goals as goal

pub returns-in_err-check : goal.returns-in_err-check
returns-in_err-check c =
    let it = than_refused c.args.longer c.args.env c.args.name c.args.out.now
    (refused_first (tt {0}) _ (env_checks c.args.env) (sym c.check.ensures.answer ∙ c.in_err-check.was)) in
    let p = err_from_is_err_and c.from_residual.result c.from_residual.ensures.1 in
    record { value = rw (p.1, p.2) it.0; fills = it.1 }

pub id-requires : goal.id-requires
id-requires c = few_names c.args.env (valid c.args.env c.check.ensures.answer c.in_ok-check.was)

pub returns-in_default : goal.returns-in_default
returns-in_default c =
    let full : length c.args.env.names ≡ 32 = search rules in
    let it = than_unknown c.args.longer c.args.env c.args.name c.args.out.now
    (valid c.args.env c.check.ensures.answer c.in_ok-check.was) full c.id.ensures c.in_default.is in
    record { value = it.0; fills = it.1 }

pub returns : goal.returns
returns c =
    let full : length c.args.env.names ≡ 32 = search rules in
    let it = than_traversal c.args.longer c.args.env c.args.name c.args.out.now
    (valid c.args.env c.check.ensures.answer c.in_ok-check.was) full c.id.ensures c.in-Some.is
    c.from_bounds-hir.ensures.answer
    c.new.ensures.answer (c.depth_first_lifetimes.ensures.answer, c.depth_first_lifetimes.ensures.stored) in
    record { value = it.0; fills = it.1 }
