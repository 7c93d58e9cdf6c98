-- `finish` meets its contract: each way out is one law of proofs/EntryLaws.antt.
use Rattle.elision.proofs.OutcomeLaws.{passed_on}
use Rattle.elision.proofs.EntryLaws.{finish_env_lem, finish_refused, finish_given}
use borrow.Author.Rules.{rules}
use Rattle.elision.proofs.method.finish.Goals as goal

pub returns-in_err-check : goal.returns-in_err-check
returns-in_err-check c = record {
  answer = passed_on c.from_residual.ensures.1 (finish_env_lem _ _ c.in_err-check.ensures.answer);
}

pub returns-in_err-check-2 : goal.returns-in_err-check-2
returns-in_err-check-2 c = record {
  answer = passed_on c.from_residual-in_err-check-2.ensures.1
      (finish_refused _ _ c.in_ok-check.ensures.answer c.from_bounds-hir.ensures.answer c.in_err-check-2.ensures.answer);
}

pub returns : goal.returns
returns c = search (finish_given, rules)
