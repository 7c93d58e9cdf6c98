-- `store` meets its contract: a law of proofs/EdgesLoops.antt for each kind.
use Rattle.borrowing_param.proofs.EdgesLoops.{room_opaque, room_slice, room_struct, for_plain, for_opaque}
use Rattle.borrowing_param.proofs.EdgesLoops.{for_slice, for_struct}
use borrow.Author.Rules.{rules}
use Rattle.borrowing_param.proofs.edges.Param.store.Goals as goal

pub store_one-requires : goal.store_one-requires
store_one-requires c = search (room_opaque, rules)

pub store_one-requires-in-Slice : goal.store_one-requires-in-Slice
store_one-requires-in-Slice c = search (room_slice, rules)

pub store_struct-requires : goal.store_struct-requires
store_struct-requires c = search (room_struct, rules)

pub returns-in-Plain : goal.returns-in-Plain
returns-in-Plain c = search (for_plain, rules)

pub returns-in-Opaque : goal.returns-in-Opaque
returns-in-Opaque c = search (for_opaque, rules)

pub returns-in-Slice : goal.returns-in-Slice
returns-in-Slice c = search (for_slice, rules)

pub returns-in-Struct : goal.returns-in-Struct
returns-in-Struct c = search (for_struct, rules)
