-- `extend_implied` meets its contract: each turn reads what stands in front of the types that are left.
use native.Mathlib.Omega.{arith}
use Rattle.std.proofs.lemmas.Result.{err_from_is_err_and}
use Rattle.ast_lifetimes.specs.Types.{type_names_of}
use Rattle.ast_lifetimes.proofs.ReadingLaws.{types_encoded}
use Rattle.ast_lifetimes.proofs.ImpliedLaws.{implying_start, implying_end, implying_reference, implying_plain}
use Rattle.ast_lifetimes.proofs.ImpliedLaws.{implying_inside, implying_fits, implying_free, implying_refused, implying_path}
use Rattle.ast_lifetimes.proofs.env.LifetimeEnv.extend_implied.Goals as goal

pub words-init : goal.words-init
words-init c = implying_start (type_names_of c.args.types.now) c.of-reach.result.sets
    (types_encoded c.args.types.now c.requires.shaped) c.requires.stands c.of-reach.ensures

pub bounds-types-at-then-code-eq2 : goal.bounds-types-at-then-code-eq2
bounds-types-at-then-code-eq2 c = (implying_reference c.words.invariant c.words-test.true c.if-code-eq2.true).0

pub words-preserved-then-code-eq2 : goal.words-preserved-then-code-eq2
words-preserved-then-code-eq2 c = (implying_reference c.words.invariant c.words-test.true c.if-code-eq2.true).1

pub words-preserved-then-code-ne1 : goal.words-preserved-then-code-ne1
words-preserved-then-code-ne1 c = implying_plain c.words.invariant c.words-test.true c.if-code-ne1.true c.if-code-eq2.false

pub bounds-types-at-in-words : goal.bounds-types-at-in-words
bounds-types-at-in-words c = implying_inside c.words.invariant c.words-test.true c.if-code-ne1.false

pub overflow_add-at-in-words-2 : goal.overflow_add-at-in-words-2
overflow_add-at-in-words-2 c = omega (arith, implying_fits c.words.invariant c.words-test.true c.if-code-ne1.false)

pub slice_bounds-extend_path-end : goal.slice_bounds-extend_path-end
slice_bounds-extend_path-end c = implying_fits c.words.invariant c.words-test.true c.if-code-ne1.false

pub returns-in_err-extend_path : goal.returns-in_err-extend_path
returns-in_err-extend_path c = let p = err_from_is_err_and c.from_residual.result c.from_residual.ensures.1 in
    rw (p.1, p.2)
    (implying_refused c.words.invariant c.words-test.true c.if-code-ne1.false c.if-behind-ge2.true
    c.extend_path.ensures.pushed c.in_err-extend_path.was)

pub words-preserved-in_ok-extend_path : goal.words-preserved-in_ok-extend_path
words-preserved-in_ok-extend_path c =
    implying_path c.words.invariant c.words-test.true c.if-code-ne1.false c.if-behind-ge2.true
    c.extend_path.ensures.pushed c.in_ok-extend_path.was c.extend_path.new.reach.sets
    (rw c.in_ok-extend_path.was at c.extend_path.ensures.reached)

pub words-preserved : goal.words-preserved
words-preserved c = implying_free c.words.invariant c.words-test.true c.if-code-ne1.false c.if-behind-ge2.false

pub returns : goal.returns
returns c = implying_end c.words.invariant c.words-test.false
