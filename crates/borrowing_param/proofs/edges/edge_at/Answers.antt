-- `edge_at` meets its contract: the edge's words are there, or the slice ends before.
use Rattle.borrowing_param.proofs.JoinLaws.{edge_absent, edge_there}
use borrow.Author.Rules.{rules}
use Rattle.borrowing_param.proofs.edges.edge_at.Goals as goal

pub returns-then-room-place : goal.returns-then-room-place
returns-then-room-place c = search (edge_absent, rules)

pub returns : goal.returns
returns c = search (edge_there, rules)
