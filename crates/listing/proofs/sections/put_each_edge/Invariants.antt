-- `put_each_edge` meets its contract: each turn prints one edge.
use mathlib.Core.Path.{◌≡◌}
use Rattle.borrowing_param.specs.Edges.{width}
use Rattle.listing.proofs.SectionsLaws.{Edging}
use Rattle.listing.proofs.sections.put_each_edge.Given as goal

abbrev pub invariant-loop-edge : goal.invariant-loop-edge
invariant-loop-edge l = Edging l.edges l.at l.initial.out l.next l.out l.edge-iterator.rest.now
    × (l.edge-iterator.size ≡ width)
