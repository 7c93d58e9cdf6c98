-- `new` meets its contract: its answers are laws of proofs/NewLaws.antt.
use Rattle.borrowing_param.proofs.NewLaws.{new_refused, new_sets, new_given}
use borrow.Author.Rules.{rules}
use Rattle.borrowing_param.proofs.visitor.BorrowingParamVisitor.new.Goals as goal

pub returns-in_err-used : goal.returns-in_err-used
returns-in_err-used c = search (new_refused, rules)

pub returns-in_err-sets : goal.returns-in_err-sets
returns-in_err-sets c = let a = c.args in
    new_sets a.env a.structs.now a.params.now a.output.now a.force.now c.used_method_lifetimes.ensures.answer
    c.in_ok-used.was c.reach_sets.ensures.answer c.in_err-sets.was

pub returns : goal.returns
returns c = let a = c.args in record {
  answer = new_given a.env a.structs.now a.params.now a.output.now a.force.now c.used_method_lifetimes.ensures.answer
      c.in_ok-used.was c.reach_sets.ensures.answer c.in_ok-sets.was c.from_sets.ensures.answer;
}
