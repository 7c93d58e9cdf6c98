-- `linked_lifetime` meets its contract: the words are as many as the lifetimes, so the link answers a word.
use mathlib.Core.Path.{sym, ap, ◌∙◌}
use Rattle.lifetimes.specs.LoweredWords.{from_word}
use Rattle.borrowing_param.proofs.OutcomeLaws.{ok_same, no_both}
use Rattle.borrowing_param.proofs.EdgesLaws.{linked_is, some_same, none_some}
use Rattle.borrowing_param.proofs.edges.Param.linked_lifetime.Goals as goal

pub returns-in_default : goal.returns-in_default
returns-in_default c = let is = linked_is c.args.self.path.now c.requires c.new.ensures.answer
    c.linked_word.ensures.answer in
    no_both (sym c.in_default.is ∙ is)

pub returns-in_default-linked : goal.returns-in_default-linked
returns-in_default-linked c = let is = linked_is c.args.self.path.now c.requires c.new.ensures.answer
    c.linked_word.ensures.answer in
    none_some (sym c.in_default-linked.is ∙ ok_same (sym c.in-Ok.is ∙ is))

pub returns : goal.returns
returns c = let is = linked_is c.args.self.path.now c.requires c.new.ensures.answer c.linked_word.ensures.answer in
    c.from_word.ensures.answer ∙ ap from_word (some_same (sym c.in-Some.is ∙ ok_same (sym c.in-Ok.is ∙ is)))
