-- `put_steps` meets its contract, by the laws of `Recording` of proofs/PutLoops.antt.
use borrow.Author.Rules.{rules}
use Rattle.elision.proofs.OutcomeLaws.{refused_is}
use Rattle.elision.proofs.StepLaws.{step_lost, step_found}
use Rattle.elision.proofs.PutLoops.{recording_start, recording_torn, recording_refused}
use Rattle.elision.proofs.PutLoops.{recording_more, recording_end}
use Rattle.elision.proofs.put.SmallLowerer.put_steps.Goals as goal

pub loop-at-init : goal.loop-at-init
loop-at-init c = search (recording_start, rules)

pub returns-in_err-step-clause-lowers : goal.returns-in_err-step-clause-lowers
returns-in_err-step-clause-lowers c = let lost = step_lost c.read_step.ensures _ c.ok_or.ensures.value c.in_err-step.was in
    rw (refused_is c.from_residual.ensures.1, lost.1)
    (recording_torn c.loop-at.invariant lost.0 c.loop-at-test.true)

pub returns-in_err-n-clause-lowers : goal.returns-in_err-n-clause-lowers
returns-in_err-n-clause-lowers c =
    let stands = step_found c.read_step.ensures _ c.ok_or.ensures.value c.in_ok-step.was in
    recording_refused c.loop-at.invariant (c.in_err-n.ensures _ stands) c.loop-at-test.true
    (refused_is c.from_residual-in_err-n.ensures.1)

pub loop-at-preserved : goal.loop-at-preserved
loop-at-preserved c =
    let stands = step_found c.read_step.ensures _ c.ok_or.ensures.value c.in_ok-step.was in
    recording_more c.loop-at.invariant stands (c.in_ok-n.ensures _ stands) c.end-at.ensures (search rules)

pub returns-clause-lowers : goal.returns-clause-lowers
returns-clause-lowers c = recording_end c.loop-at.invariant c.loop-at-test.false
