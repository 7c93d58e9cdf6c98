-- `borrow_method` meets its contract: each way out is one law of proofs/BorrowLaws.antt.
use mathlib.Core.Path.{refl}
use Rattle.borrowing_param.proofs.OutcomeLaws.{way_out}
use Rattle.borrowing_param.proofs.BorrowLaws.{method_unborrowed, method_of_lem, method_borrowed}
use Rattle.borrowing_param.proofs.borrows.borrow_method.Goals as goal

pub returns-in_err-visitor : goal.returns-in_err-visitor
returns-in_err-visitor c = let s = c.args in record {
  answer = method_unborrowed s.env s.structs.now s.params.now s.output.now s.force.now c.new.ensures.answer
      c.in_err-visitor.was (way_out c.from_residual.ensures) refl refl refl;
}

pub borrow_by-requires : goal.borrow_by-requires
borrow_by-requires c = let s = c.args in
    method_of_lem s.env s.structs.now s.params.now s.output.now s.force.now c.new.ensures.answer c.in_ok-visitor.was

pub returns : goal.returns
returns c = let s = c.args in record {
  answer = method_borrowed s.env s.structs.now s.params.now s.output.now s.force.now c.new.ensures.answer
      c.in_ok-visitor.was c.borrow_by.ensures.counts c.borrow_by.ensures.used_filled c.borrow_by.ensures.answers_filled
      c.borrow_by.ensures.edges_filled;
}
