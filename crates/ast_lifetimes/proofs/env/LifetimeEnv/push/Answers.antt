-- `push` meets its contract: a side that is not declared, a 257th, or one more.
use Rattle.std.proofs.lemmas.Result.{err_from_is_err_and}
use Rattle.ast_lifetimes.specs.Env.{names_of}
use Rattle.ast_lifetimes.proofs.NamesLaws.{missing, found}
use Rattle.ast_lifetimes.proofs.StandsLaws.{stands_few, push_longer, push_shorter, push_full, push_given}
use Rattle.ast_lifetimes.proofs.env.LifetimeEnv.push.Goals as goal

pub id-requires : goal.id-requires
id-requires c = stands_few c.requires

pub id-requires-2 : goal.id-requires-2
id-requires-2 c = stands_few c.requires

pub returns-in_err-long-clause-pushed : goal.returns-in_err-long-clause-pushed
returns-in_err-long-clause-pushed c =
    let p = err_from_is_err_and c.from_residual.result c.from_residual.ensures.1 in
    let no = missing (names_of c.args.self.now) c.args.longer c.id.ensures _ c.ok_or.ensures.value c.in_err-long.was in
    rw (p.1, p.2, no.1) (push_longer c.requires _ no.0)

pub returns-in_err-short-clause-pushed : goal.returns-in_err-short-clause-pushed
returns-in_err-short-clause-pushed c =
    let p = err_from_is_err_and c.from_residual-in_err-short.result c.from_residual-in_err-short.ensures.1 in
    let long = found (names_of c.args.self.now) c.args.longer c.id.ensures _ c.ok_or.ensures.value c.in_ok-long.was in
    let no = missing (names_of c.args.self.now) c.args.shorter c.id-2.ensures _ c.ok_or-2.ensures.value c.in_err-short.was in
    rw (p.1, p.2, no.1) (push_shorter c.requires _ long.0 no.0)

pub returns-then-pushed-ge-MAX-clause-pushed : goal.returns-then-pushed-ge-MAX-clause-pushed
returns-then-pushed-ge-MAX-clause-pushed c =
    let long = found (names_of c.args.self.now) c.args.longer c.id.ensures _ c.ok_or.ensures.value c.in_ok-long.was in
    let short = found (names_of c.args.self.now) c.args.shorter c.id-2.ensures _ c.ok_or-2.ensures.value c.in_ok-short.was in
    push_full c.requires _ long.0 short.0 c.if-pushed-ge-MAX.true

pub returns-clause-pushed : goal.returns-clause-pushed
returns-clause-pushed c =
    let long = found (names_of c.args.self.now) c.args.longer c.id.ensures _ c.ok_or.ensures.value c.in_ok-long.was in
    let short = found (names_of c.args.self.now) c.args.shorter c.id-2.ensures _ c.ok_or-2.ensures.value c.in_ok-short.was in
    push_given c.requires _ long.0 short.0 c.if-pushed-ge-MAX.false _ (rw (long.1, short.1))

pub returns-clause-bound : goal.returns-clause-bound
returns-clause-bound c =
    let long = found (names_of c.args.self.now) c.args.longer c.id.ensures _ c.ok_or.ensures.value c.in_ok-long.was in
    let short = found (names_of c.args.self.now) c.args.shorter c.id-2.ensures _ c.ok_or-2.ensures.value c.in_ok-short.was in
    rw (long.1, short.1)
