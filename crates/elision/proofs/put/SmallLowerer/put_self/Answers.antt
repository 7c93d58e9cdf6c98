-- `put_self` meets its contract: each way out is one law of proofs/PutLaws.antt.
use Rattle.elision.proofs.PutLaws.{self_first}
use Rattle.elision.proofs.put.SmallLowerer.put_self.Goals as goal

pub returns : goal.returns
returns c = self_first c.args.names.now c.args.words.now c.args.self.now c.args.n c.if-self.false c.in_ok-put.ensures
    c.put_own-2.ensures.stored c.put_own-2.ensures.answer
