-- `from_sets` meets its contract. The loop's invariant is `Keeping` of proofs/NewLaws.antt.
use mathlib.Core.Path.{◌≡◌, sym, ap, ◌∙◌}
use Rattle.lifetimes.specs.declared.lifetime.Lifetime.{Lifetime}
use Rattle.lifetimes.specs.Sets.{member}
use Rattle.borrowing_param.proofs.NewLaws.{keeping_start, keeping_not, keeping_one, keeping_end}
use Rattle.borrowing_param.proofs.EdgesLoops.{below_64}
use Rattle.borrowing_param.proofs.visitor.BorrowingParamVisitor.from_sets.Goals as goal
use Rattle.borrowing_param.proofs.visitor.BorrowingParamVisitor.from_sets.Goals.{then-contains, else-contains}

pub loop-l-init : goal.loop-l-init
loop-l-init c = (c.past_last-limit.ensures, keeping_start _ _)

pub loop-l-preserved : goal.loop-l-preserved
loop-l-preserved c =
    let test : c.contains.result ≡ member c.args.used c.loop-l.l =
    c.contains.ensures.answer ∙ ap (λ (x : Lifetime). member c.args.used x.0) c.new.ensures.answer in
    elim c.if-contains.branch [
      | then-contains w ↦ rw w.draws-is (
        c.loop-l.invariant.0,
        keeping_one c.loop-l.invariant.1 (below_64 c.loop-l.invariant.0 c.loop-l-test.true) (sym w.if-contains.true ∙ test),
      )
      | else-contains w ↦ rw w.draws-is (
        c.loop-l.invariant.0,
        keeping_not c.loop-l.invariant.1 (sym w.if-contains.false ∙ test),
      )
    ]

pub returns : goal.returns
returns c = record { answer = keeping_end c.loop-l.invariant.1 c.loop-l.invariant.0 c.loop-l-test.false }
