-- `map_params` meets its contract: its three answers are laws of proofs/ListedLaws.antt.
use mathlib.Core.Path.{refl, sym}
use Rattle.borrowing_param.specs.InnerMap.{param_types}
use Rattle.borrowing_param.proofs.ListedLaws.{no_room_answers, no_room_edges, numbers_size, listed_room, mapped}
use borrow.Author.Rules.{rules}
use Rattle.borrowing_param.proofs.visitor.BorrowingParamVisitor.map_params.Goals as goal

pub returns-then-answers-counted : goal.returns-then-answers-counted
returns-then-answers-counted c = search (no_room_answers, rules)

pub returns-then-edges-counted : goal.returns-then-edges-counted
returns-then-edges-counted c = search (no_room_edges, rules)

pub slice_bounds-copy_words-end : goal.slice_bounds-copy_words-end
slice_bounds-copy_words-end c = sym (numbers_size c.args.self.now (param_types c.args.params.now)
    c.count_params-counted.ensures refl)

pub store_listed-requires : goal.store_listed-requires
store_listed-requires c = (
  c.requires,
  listed_room c.args.self.now (param_types c.args.params.now) c.count_params-counted.ensures
      c.if-edges-counted.false,
)

pub returns : goal.returns
returns c = search (mapped, rules)
