-- `put_step` meets its contract: each arm is one law of proofs/PutLaws.antt.
use Rattle.elision.proofs.PartLaws.{part_generics, part_self}
use Rattle.elision.proofs.PutLaws.{puts_lifetime, puts_generics, puts_self}
use Rattle.elision.proofs.put.SmallLowerer.put_step.Goals as goal

pub put_given-requires-in-Generics : goal.put_given-requires-in-Generics
put_given-requires-in-Generics c =
    let part = part_generics c.requires.0.1 c.in-Generics.is in
    (part.1.few, part.0, c.requires.1, c.requires.2)

pub put_self-requires : goal.put_self-requires
put_self-requires c =
    let part = part_self c.requires.0.1 c.in-SelfType.is in
    (part.few, c.requires.1, c.requires.2)

pub returns-in-Lifetime : goal.returns-in-Lifetime
returns-in-Lifetime c = puts_lifetime _ _ _ c.in-Lifetime.is c.put_given.ensures

pub returns-in-Generics : goal.returns-in-Generics
returns-in-Generics c = puts_generics _ _ _ c.in-Generics.is c.put_given-in-Generics.ensures

pub returns-in-SelfType : goal.returns-in-SelfType
returns-in-SelfType c = puts_self _ _ _ c.in-SelfType.is c.put_self.ensures
