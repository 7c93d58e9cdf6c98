-- `read_step` meets its contract: each way out is one law of proofs/StepLaws.antt.
use mathlib.Core.Path.{sym, ◌∙◌}
use Rattle.records.proofs.EndLaws.{lifetimes_end}
use Rattle.elision.proofs.StepLaws.{step_none, lifetime_short, lifetime_there, generics_short, generics_many}
use Rattle.elision.proofs.StepLaws.{generics_none, generics_whole, self_none, self_whole, step_unknown}
use borrow.Author.Rules.{rules}
use Rattle.elision.proofs.steps.read_step.Goals as goal

pub returns-in_err-kind : goal.returns-in_err-kind
returns-in_err-kind c = rw c.from_residual.ensures (step_none _ _ c.in_err-kind.ensures.lookup.3)

pub returns-in_err-get-in-0 : goal.returns-in_err-get-in-0
returns-in_err-get-in-0 c = let kind = c.in_ok-kind.ensures.lookup.3 in
    rw c.from_residual-in_err-get-in-0.ensures
    (lifetime_short _ _ kind.0 (sym (kind.1 0) ∙ c.in-0.is) c.in_err-get-in-0.ensures.lookup.3)

pub returns-in_ok-get-in-0 : goal.returns-in_ok-get-in-0
returns-in_ok-get-in-0 c =
    let kind = c.in_ok-kind.ensures.lookup.3 in
    let word = c.in_ok-get-in-0.ensures.lookup.3 in
    rw (word.1 0) (lifetime_there _ _ kind.0 (sym (kind.1 0) ∙ c.in-0.is) word.0)

pub returns-in_err-generics-in-1 : goal.returns-in_err-generics-in-1
returns-in_err-generics-in-1 c = let kind = c.in_ok-kind.ensures.lookup.3 in
    rw c.from_residual-in_err-generics-in-1.ensures
    (generics_short _ _ kind.0 (sym (kind.1 0) ∙ c.in-1.is) c.in_err-generics-in-1.ensures.lookup.3)

pub returns-then-generics-gt-MAX_LIST : goal.returns-then-generics-gt-MAX_LIST
returns-then-generics-gt-MAX_LIST c = let kind = c.in_ok-kind.ensures.lookup.3 in
    let g = c.in_ok-generics-in-1.ensures.lookup.3 in
    generics_many _ _ kind.0 (sym (kind.1 0) ∙ c.in-1.is) g.0 (rw (← g.1 0) c.if-generics-gt-MAX_LIST.true)

pub returns-in_err-to-in-1 : goal.returns-in_err-to-in-1
returns-in_err-to-in-1 c = let kind = c.in_ok-kind.ensures.lookup.3 in
    let g = c.in_ok-generics-in-1.ensures.lookup.3 in
    rw c.from_residual-in_err-to-in-1.ensures
    (generics_none _ _ kind.0 (sym (kind.1 0) ∙ c.in-1.is) g.0 (rw (← g.1 0) c.if-generics-gt-MAX_LIST.false)
    (lifetimes_end _ _ c.in_err-to-in-1.ensures.answer))

pub returns-in_ok-to-in-1 : goal.returns-in_ok-to-in-1
returns-in_ok-to-in-1 c = let kind = c.in_ok-kind.ensures.lookup.3 in
    let g = c.in_ok-generics-in-1.ensures.lookup.3 in
    rw (g.1 0)
    (generics_whole _ _ kind.0 (sym (kind.1 0) ∙ c.in-1.is) g.0 (rw (← g.1 0) c.if-generics-gt-MAX_LIST.false)
    (lifetimes_end _ _ c.in_ok-to-in-1.ensures.answer))

pub returns-in_err-to-in-2 : goal.returns-in_err-to-in-2
returns-in_err-to-in-2 c = let kind = c.in_ok-kind.ensures.lookup.3 in
    rw c.from_residual-in_err-to-in-2.ensures
    (self_none _ _ kind.0 (sym (kind.1 0) ∙ c.in-2.is) (lifetimes_end _ _ c.in_err-to-in-2.ensures.answer))

pub returns-in_ok-to-in-2 : goal.returns-in_ok-to-in-2
returns-in_ok-to-in-2 c = let kind = c.in_ok-kind.ensures.lookup.3 in
    self_whole _ _ kind.0 (sym (kind.1 0) ∙ c.in-2.is) (lifetimes_end _ _ c.in_ok-to-in-2.ensures.answer)

pub returns-in_default : goal.returns-in_default
returns-in_default c = let kind = c.in_ok-kind.ensures.lookup.3 in
    step_unknown _ _ kind.0 (λ e. search rules) (λ e. search rules) (λ e. search rules)
