-- `borrow_by` meets its contract: each way out is one law of proofs/BorrowLaws.antt.
use mathlib.Core.Path.{refl}
use Rattle.borrowing_param.proofs.OutcomeLaws.{way_out}
use Rattle.borrowing_param.proofs.BorrowLaws.{by_used, by_map_refused, by_given}
use borrow.Author.Rules.{rules}
use Rattle.borrowing_param.proofs.borrows.borrow_by.Goals as goal

pub returns-then-used-count : goal.returns-then-used-count
returns-then-used-count c = search (by_used, rules)

pub returns-in_err-map : goal.returns-in_err-map
returns-in_err-map c = by_map_refused c.args.visitor c.args.structs.now c.args.params.now _ _ _ c.requires
    c.count-count.ensures.answer c.if-used-count.false c.borrow_map.ensures.answer.counts
    c.borrow_map.ensures.answer.answers_filled c.borrow_map.ensures.answer.edges_filled c.in_err-map.was
    (way_out c.from_residual.ensures) refl

pub returns : goal.returns
returns c = by_given c.args.visitor c.args.structs.now c.args.params.now _ _ _ c.requires
    c.count-count.ensures.answer c.if-used-count.false c.borrow_map.ensures.answer.counts
    c.borrow_map.ensures.answer.answers_filled c.borrow_map.ensures.answer.edges_filled c.in_ok-map.was
    c.members.ensures.stored
