-- `put` meets its contract.
use native.Mathlib.Omega.{arith}
use lib.ListN.{length-set}
use Rattle.borrowing_param.proofs.EdgesLoops.{put_words}
use borrow.Author.Rules.{rules}
use Rattle.borrowing_param.proofs.edges.put.Goals as goal

pub bounds-edges-from-2 : goal.bounds-edges-from-2
bounds-edges-from-2 c = rw (length-set) (omega (arith, c.requires))

pub bounds-edges-from-3 : goal.bounds-edges-from-3
bounds-edges-from-3 c = rw (length-set, length-set) (omega (arith, c.requires))

pub bounds-edges-from-4 : goal.bounds-edges-from-4
bounds-edges-from-4 c = rw (length-set, length-set, length-set) (omega (arith, c.requires))

pub bounds-edges-from-5 : goal.bounds-edges-from-5
bounds-edges-from-5 c = rw (length-set, length-set, length-set, length-set) (omega (arith, c.requires))

pub returns : goal.returns
returns c = search (put_words, rules)
