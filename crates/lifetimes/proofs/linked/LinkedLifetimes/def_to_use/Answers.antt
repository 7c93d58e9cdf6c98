-- `def_to_use` meets its contract: the code's test is the definition's.
use mathlib.Core.Path.{sym}
use borrow.Author.Rules.{rules}
use Rattle.lifetimes.proofs.LinkedLaws.{word_found, word_unlike}
use Rattle.lifetimes.proofs.linked.LinkedLifetimes.def_to_use.Goals as goal

pub returns-then-self : goal.returns-then-self
returns-then-self c = record { answer = sym (word_unlike c.args.self.words.now c.args.self.count c.if-self.true _) }

pub returns : goal.returns
returns c = record {
  answer = let s = c.args.self in let at = c.index.ensures.answer in let found = c.get.ensures.lookup in
      rw c.copied.ensures
      (word_found s.words.now s.count c.if-self.false c.args.def.0 c.get.result (rw at at found.0) (rw at at found.4 (search rules) 0));
}
