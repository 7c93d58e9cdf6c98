-- `store` meets its contract. The loop's invariant is `Storing` of proofs/EdgesLoops.antt, over the edges that are left.
use Prim.Native.Nat.{◌+◌}
use mathlib.Core.Path.{◌≡◌, sym, ap, ◌∙◌}
use lib.ListN.{get_or}
use Rattle.lifetimes.specs.declared.lifetime.Lifetime.{Lifetime}
use Rattle.lifetimes.specs.Sets.{member}
use Rattle.borrowing_param.specs.Brings.{bring}
use Rattle.borrowing_param.specs.Visit.{draws_in}
use Rattle.borrowing_param.specs.Inner.{typed}
use Rattle.borrowing_param.proofs.EdgesLoops.{below_64, storing_start, storing_fits, storing_part, storing_none}
use Rattle.borrowing_param.proofs.EdgesLoops.{storing_end, left_all, all_left, all_end, all_here, all_not}
use borrow.Author.Rules.{rules}
use Rattle.borrowing_param.proofs.visitor.BorrowingParamVisitor.store.Goals as goal
use Rattle.borrowing_param.proofs.visitor.BorrowingParamVisitor.store.Goals.{then-contains, else-contains}

pub loop-l-init : goal.loop-l-init
loop-l-init c = search (storing_start, storing_none, all_left, rules)

pub store-next-requires : goal.store-next-requires
store-next-requires c = let v = c.args.self.now in
    let p = c.args.param in
    let h = below_64 c.loop-l.invariant.0 c.loop-l-test.true in
    let split = all_here v.used v.draws (typed p.parts p.path.now) p.number c.loop-l.l h
    (sym c.if-contains.true ∙ c.contains.ensures.answer
    ∙ ap (λ (x : Lifetime). member v.used x.0) c.new.ensures.answer) in record {
      inside = (c.requires.inside, h);
      parts_in_bounds = storing_fits c.loop-l.invariant.1
          (bring (draws_in (get_or v.draws c.loop-l.l 0)) c.loop-l.l p.number (typed p.parts p.path.now))
          (left_all v.used v.draws (typed p.parts p.path.now) p.number (c.loop-l.l + 1)) split;
    }

pub loop-l-preserved : goal.loop-l-preserved
loop-l-preserved c = let v = c.args.self.now in
    let p = c.args.param in
    let h = below_64 c.loop-l.invariant.0 c.loop-l-test.true in
    let test : c.contains.result ≡ member v.used c.loop-l.l =
    c.contains.ensures.answer ∙ ap (λ (x : Lifetime). member v.used x.0) c.new.ensures.answer in
    elim c.if-contains.branch [
      | then-contains w ↦ rw (w.next-is, w.pairs-is, w.edges-is) (
        c.loop-l.invariant.0,
        storing_part c.loop-l.invariant.1
            (bring (draws_in (get_or v.draws c.loop-l.l 0)) c.loop-l.l p.number (typed p.parts p.path.now))
            (left_all v.used v.draws (typed p.parts p.path.now) p.number (c.loop-l.l + 1))
            (all_here v.used v.draws (typed p.parts p.path.now) p.number c.loop-l.l h (sym w.if-contains.true ∙ test))
            w.store-next.ensures,
      )
      | else-contains w ↦ rw (w.next-is, w.pairs-is, w.edges-is) (
        c.loop-l.invariant.0,
        storing_none c.loop-l.invariant.1
            (all_not v.used v.draws (typed p.parts p.path.now) p.number c.loop-l.l h (sym w.if-contains.false ∙ test)),
      )
    ]

pub returns : goal.returns
returns c = search (storing_end, all_end, rules)
