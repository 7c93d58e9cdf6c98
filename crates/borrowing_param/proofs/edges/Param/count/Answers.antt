-- `count` meets its contract: a law of proofs/EdgesLaws.antt for each kind.
use Rattle.borrowing_param.proofs.EdgesLaws.{count_plain, count_opaque, count_slice, count_struct}
use borrow.Author.Rules.{rules}
use Rattle.borrowing_param.proofs.edges.Param.count.Goals as goal

pub returns-in-Plain : goal.returns-in-Plain
returns-in-Plain c = search (count_plain, rules)

pub returns-in-Struct : goal.returns-in-Struct
returns-in-Struct c = search (count_struct, rules)

pub returns-in-Opaque : goal.returns-in-Opaque
returns-in-Opaque c = search (count_opaque, rules)

pub returns-in-Slice : goal.returns-in-Slice
returns-in-Slice c = search (count_slice, rules)
