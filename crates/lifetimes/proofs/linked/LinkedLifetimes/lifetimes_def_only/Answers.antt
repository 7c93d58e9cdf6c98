-- `lifetimes_def_only` meets its contract: the code's tests are the definition's.
use mathlib.Core.Path.{sym}
use Rattle.lifetimes.proofs.LinkedLaws.{pair_there, pair_past, pair_unlike}
use Rattle.lifetimes.proofs.linked.LinkedLifetimes.lifetimes_def_only.Goals as goal

pub returns-then-self : goal.returns-then-self
returns-then-self c = record { answer = sym (pair_unlike c.args.self.words.now c.args.self.count c.if-self.true c.args.place) }

pub returns-then-place-self : goal.returns-then-place-self
returns-then-place-self c = record {
  answer = let s = c.args.self in
      rw c.new.ensures.answer (sym (pair_there s.words.now s.count c.if-self.false c.args.place c.if-place-self.true));
}

pub returns : goal.returns
returns c = record {
  answer = sym (pair_past c.args.self.words.now c.args.self.count c.if-self.false c.args.place c.if-place-self.false);
}
