-- `count` meets its contract. The loop's invariant is `CountingAll` of proofs/EdgesLoops.antt.
use mathlib.Core.Path.{◌≡◌, sym, ap, ◌∙◌}
use native.Mathlib.Omega.{arith}
use Rattle.lifetimes.specs.declared.lifetime.Lifetime.{Lifetime}
use Rattle.lifetimes.specs.Sets.{member}
use Rattle.borrowing_param.proofs.EdgesLoops.{below_64, counting_all, counted_few, counting_all_more}
use Rattle.borrowing_param.proofs.EdgesLoops.{counting_all_not, counting_all_end}
use borrow.Author.Rules.{rules}
use Rattle.borrowing_param.proofs.visitor.BorrowingParamVisitor.count.Goals as goal
use Rattle.borrowing_param.proofs.visitor.BorrowingParamVisitor.count.Goals.{then-contains, else-contains}

pub loop-l-init : goal.loop-l-init
loop-l-init c = search (counting_all, rules)

pub overflow_add-n : goal.overflow_add-n
overflow_add-n c = omega (
  arith,
  c.loop-l.invariant.1.few,
  c.loop-l.invariant.0.0,
  c.loop-l-test.true,
  counted_few c.loop-l.invariant.1 c.requires c.count-n.ensures,
)

pub loop-l-preserved : goal.loop-l-preserved
loop-l-preserved c = let below = below_64 c.loop-l.invariant.0 c.loop-l-test.true in
    let test : c.contains.result ≡ member c.args.self.now.used c.loop-l.l =
    c.contains.ensures.answer ∙ ap (λ (x : Lifetime). member c.args.self.now.used x.0) c.new.ensures.answer in
    elim c.if-contains.branch [
      | then-contains w ↦ rw w.n-is (
        c.loop-l.invariant.0,
        counting_all_more c.loop-l.invariant.1 c.requires w.count-n.ensures below (sym w.if-contains.true ∙ test),
      )
      | else-contains w ↦ rw w.n-is (
        c.loop-l.invariant.0,
        counting_all_not c.loop-l.invariant.1 below (sym w.if-contains.false ∙ test),
      )
    ]

pub returns : goal.returns
returns c = search (counting_all_end, rules)
