-- `store_struct` meets its contract. The loop's invariant is `Storing` of proofs/EdgesLoops.antt, over the edges that are
-- left.
use mathlib.Core.Path.{refl, sym, ap, ◌∙◌}
use mathlib.Core.List.{[], ◌∷◌}
use native.Mathlib.Omega.{arith}
use Prim.Native.Nat.{◌+◌}
use Rattle.borrowing_param.specs.Edges.{edge}
use Rattle.borrowing_param.specs.Brings.{drawn}
use Rattle.borrowing_param.specs.Visit.{draws_in}
use Rattle.borrowing_param.proofs.EdgesLoops.{storing_fits, storing_part, storing_none}
use Rattle.borrowing_param.proofs.EdgesLoops.{storing_end, left_edges, edges_none, edges_one, edges_skip, option_byte}
use Rattle.borrowing_param.proofs.edges.Param.store_struct.Goals as goal
use Rattle.borrowing_param.proofs.edges.Param.store_struct.Goals.{then-draws, else-draws}

pub put_pair-next-requires : goal.put_pair-next-requires
put_pair-next-requires c = let a = c.args in
    let k = c.loop-def.def in
    let test = c.draws.ensures ∙ ap (drawn (draws_in a.set)) c.linked_lifetime.ensures in
    let split = edges_one (draws_in a.set) a.used a.self.number c.from-option.result a.self.path.now k
    c.loop-def-test.true (sym c.if-draws.true ∙ test) in (
      refl,
      omega (arith, c.requires.inside.0, c.loop-def-test.true),
      c.requires.inside.1,
      storing_fits c.loop-def.invariant (edge a.used a.self.number 3 k c.from-option.result ∷ [])
          (left_edges (draws_in a.set) a.used a.self.number c.from-option.result a.self.path.now (k + 1)) split,
    )

pub loop-def-preserved : goal.loop-def-preserved
loop-def-preserved c = let a = c.args in
    let k = c.loop-def.def in
    let test = c.draws.ensures ∙ ap (drawn (draws_in a.set)) c.linked_lifetime.ensures in
    elim c.if-draws.branch [
      | then-draws w ↦ rw (w.next-is, w.pairs-is, w.edges-is) (storing_part c.loop-def.invariant
          (edge a.used a.self.number 3 k c.from-option.result ∷ [])
          (left_edges (draws_in a.set) a.used a.self.number c.from-option.result a.self.path.now (k + 1))
          (edges_one (draws_in a.set) a.used a.self.number c.from-option.result a.self.path.now k
          c.loop-def-test.true (sym w.if-draws.true ∙ test)) w.put_pair-next.ensures)
      | else-draws w ↦ rw (w.next-is, w.pairs-is, w.edges-is) (storing_none c.loop-def.invariant
          (edges_skip (draws_in a.set) a.used a.self.number c.from-option.result a.self.path.now k
          c.loop-def-test.true (sym w.if-draws.false ∙ test)))
    ]

pub returns : goal.returns
returns c = let a = c.args in
    rw (c.from-option.ensures ∙ option_byte a.self.parts.option)
    at (storing_end c.loop-def.invariant
    (edges_none (draws_in a.set) a.used a.self.number c.from-option.result a.self.path.now c.loop-def.def
    c.loop-def-test.false))
