-- `store_listed` meets its contract. The loop's invariant is `Storing` of proofs/EdgesLoops.antt, over the edges that are
-- left.
use Prim.Native.Nat.{◌+◌}
use mathlib.Core.Path.{◌≡◌, sym, ap, ◌∙◌}
use native.Mathlib.Nat.{zero-add}
use lib.ListN.{get_or}
use Rattle.lifetimes.specs.declared.lifetime.Lifetime.{Lifetime}
use Rattle.lifetimes.specs.Sets.{member}
use Rattle.borrowing_param.specs.Visit.{draws_in}
use Rattle.borrowing_param.specs.BorrowMap.{listed_edges}
use Rattle.borrowing_param.specs.InnerMap.{param_types, visitor_in, bring_from}
use Rattle.borrowing_param.proofs.EdgesLoops.{below_64, storing_start, storing_fits, storing_part}
use Rattle.borrowing_param.proofs.EdgesLoops.{storing_none, storing_end}
use Rattle.borrowing_param.proofs.ListedLaws.{left_listed, listed_left, listed_end, listed_here, listed_not}
use Rattle.borrowing_param.proofs.visitor.BorrowingParamVisitor.store_listed.Goals as goal
use Rattle.borrowing_param.proofs.visitor.BorrowingParamVisitor.store_listed.Goals.{then-contains, else-contains}

pub loop-l-init : goal.loop-l-init
loop-l-init c = let v = c.args.self.now in (
  c.past_last-limit.ensures,
  storing_none
      (storing_start (listed_edges (visitor_in v.used v.draws) (param_types c.args.params.now)) 0 _ c.args.edges.now
      (rw zero-add c.requires.1))
      (listed_left v.used v.draws (param_types c.args.params.now)),
)

pub store_to-next-requires : goal.store_to-next-requires
store_to-next-requires c = let v = c.args.self.now in
    let types = param_types c.args.params.now in
    let h = below_64 c.loop-l.invariant.0 c.loop-l-test.true in
    let split = listed_here v.used v.draws types c.loop-l.l h
    (sym c.if-contains.true ∙ c.contains.ensures.answer
    ∙ ap (λ (x : Lifetime). member v.used x.0) c.new.ensures.answer) in record {
      params = (c.requires.0, h);
      params_in_bounds = storing_fits c.loop-l.invariant.1
          (bring_from (draws_in (get_or v.draws c.loop-l.l 0)) c.loop-l.l 0 types)
          (left_listed v.used v.draws types (c.loop-l.l + 1)) split;
    }

pub loop-l-preserved : goal.loop-l-preserved
loop-l-preserved c = let v = c.args.self.now in
    let types = param_types c.args.params.now in
    let h = below_64 c.loop-l.invariant.0 c.loop-l-test.true in
    let test : c.contains.result ≡ member v.used c.loop-l.l =
    c.contains.ensures.answer ∙ ap (λ (x : Lifetime). member v.used x.0) c.new.ensures.answer in
    elim c.if-contains.branch [
      | then-contains w ↦ rw (w.next-is, w.pairs-is, w.edges-is) (
        c.loop-l.invariant.0,
        storing_part c.loop-l.invariant.1
            (bring_from (draws_in (get_or v.draws c.loop-l.l 0)) c.loop-l.l 0 types)
            (left_listed v.used v.draws types (c.loop-l.l + 1))
            (listed_here v.used v.draws types c.loop-l.l h (sym w.if-contains.true ∙ test)) w.store_to-next.ensures,
      )
      | else-contains w ↦ rw (w.next-is, w.pairs-is, w.edges-is) (
        c.loop-l.invariant.0,
        storing_none c.loop-l.invariant.1
            (listed_not v.used v.draws types c.loop-l.l h (sym w.if-contains.false ∙ test)),
      )
    ]

pub returns : goal.returns
returns c = let v = c.args.self.now in
    (storing_end c.loop-l.invariant.1
    (listed_end v.used v.draws (param_types c.args.params.now) c.loop-l.invariant.0 c.loop-l.l c.loop-l-test.false)).stores
