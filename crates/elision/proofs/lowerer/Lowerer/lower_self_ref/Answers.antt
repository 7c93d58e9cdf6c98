-- `lower_self_ref` meets its contract: each way out is one law of proofs/LowererLaws.antt.
use mathlib.Core.List.{[]}
use native.Mathlib.Omega.{arith}
use Rattle.elision.proofs.LaidLoops.{laid_many}
use Rattle.elision.proofs.OutcomeLaws.{passed_on}
use Rattle.elision.proofs.LowererLaws.{self_refused, self_given}
use borrow.Author.Rules.{rules}
use Rattle.elision.proofs.lowerer.Lowerer.lower_self_ref.Goals as goal

pub returns-in_err-done : goal.returns-in_err-done
returns-in_err-done c = record { answer = passed_on c.from_residual.ensures.1 (search (self_refused, rules)) }

pub push-requires : goal.push-requires
push-requires c = omega (arith, laid_many [] c.none-lifetimes.ensures)

pub returns : goal.returns
returns c = record {
  answer = self_given _ _ c.no_self_ref-fresh.ensures.answer c.in_ok-done.ensures c.none-lifetimes.ensures
      c.push.ensures;
}
