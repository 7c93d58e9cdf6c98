-- `push` meets its contract, by `pushed` of proofs/LaidLoops.antt.
use Rattle.elision.proofs.LaidLoops.{pushed}
use Rattle.elision.proofs.lowerer.Lifetimes.push.Goals as goal

pub returns : goal.returns
returns c = λ ls e. pushed ls c.args.lifetime c.requires e
