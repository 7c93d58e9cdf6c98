-- `put_record` meets its contract: a record without words leaves all as it was.
use native.Mathlib.Omega.{arith}
use Rattle.elision.proofs.EmptyLaws.{empty_true}
use Rattle.elision.proofs.PutLoops.{recording_start, recording_end}
use Rattle.elision.proofs.put.SmallLowerer.put_record.Goals as goal

pub returns-then-is_empty-clause-lowers : goal.returns-then-is_empty-clause-lowers
returns-then-is_empty-clause-lowers c =
    recording_end
    (recording_start c.args.names.now c.args.output c.args.words.now c.args.self.now c.args.out.now c.requires.0
    c.requires.1) (omega (arith, empty_true _ c.is_empty.ensures c.if-is_empty.true))
