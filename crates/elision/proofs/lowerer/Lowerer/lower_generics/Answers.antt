-- `lower_generics` meets its contract: each way out is one law of proofs/LowererLaws.antt.
use mathlib.Core.Logic.{inl, inr}
use Rattle.elision.proofs.OutcomeLaws.{passed_on}
use Rattle.elision.proofs.LowererLaws.{generics_large, generics_long, generics_refused, generics_given}
use borrow.Author.Rules.{rules}
use Rattle.elision.proofs.lowerer.Lowerer.lower_generics.Goals as goal

pub returns-then-generics-gt-MAX_LIST : goal.returns-then-generics-gt-MAX_LIST
returns-then-generics-gt-MAX_LIST c =
    elim c.then-generics-gt-MAX_LIST.either [
      | inl h ↦ record { answer = generics_large _ _ _ _ _ h }
      | inr h ↦ record { answer = generics_long _ _ _ _ _ h.0 h.1 }
    ]

pub returns-in_err-done : goal.returns-in_err-done
returns-in_err-done c = record {
  answer = passed_on c.from_residual.ensures.1
      (generics_refused _ _ _ _ _ c.if-generics-gt-MAX_LIST.false c.if-words-gt-MAX_LIST.false c.standing_in.ensures
      c.in_err-done.ensures);
}

pub returns : goal.returns
returns c = search (generics_given, rules)
