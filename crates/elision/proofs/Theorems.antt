-- The main theorems: for each statement of specs/Theorems.antt a term of exactly its type, and nothing else.
use mathlib.Core.Path.{refl, sym, ap, ◌∙◌}
use native.Mathlib.Omega.{arith}
use Rattle.answers.specs.Refusals as refusals
use Rattle.lifetimes.specs.Bounds as hir
use Rattle.answers.specs.Lists as lists
use Rattle.answers.proofs.RefusalLaws.{due_given, due_refused, refused_due, given_due}
use Rattle.records.specs.Reading as reading
use Rattle.ast_lifetimes.specs.Env as env
use Rattle.elision.specs.Steps as steps
use Rattle.elision.specs.Rfc as rfc
use Rattle.elision.specs.Machine as machine
use Rattle.elision.specs.Lowering as lowering
use Rattle.elision.specs.Theorems.{ElisionIsRfc141, Rfc141Says, StepsOneByOne, LentSteps, StepRefusedIfFirstDue}
use Rattle.elision.specs.Theorems.{ExamplesHold}
use Rattle.elision.proofs.RfcLaws.{method_said}
use Rattle.elision.proofs.ReadingLaws as laws
use Rattle.elision.proofs.LentStepLaws.{steps_whole, steps_together}
use Rattle.elision.proofs.StepCheckLaws.{step_refused, worded_refused, self_refused}

pub elision_is_rfc141 : ElisionIsRfc141
elision_is_rfc141 = method_said

pub rfc141_says : Rfc141Says
unfolding rfc.rfc141
rfc141_says names self steps returns = record {
  elided = laws.elided_is names self;
  undeclared = λ before. omega arith;
  another = laws.another_is names;
  static = laws.static_is names self;
  named = laws.named_is names self;
  returned = λ before l e. rw e;
  source = laws.source_is names self;
  again = laws.again_is names self;
  count = λ m e. sym
      (ap (λ (x : rfc.Method). x.count)
      (given_due (rfc.method_of names self steps returns) m (rfc.elision_checks names self steps returns) e).1);
  few = laws.method_few names self steps returns;
  given = λ m. (
    given_due (rfc.method_of names self steps returns) m (rfc.elision_checks names self steps returns),
    λ h. due_given (rfc.method_of names self steps returns) h.0 ∙ rw h.1,
  );
  refused =
      λ r. (
        refused_due (rfc.method_of names self steps returns) r (rfc.elision_checks names self steps returns),
        due_refused (rfc.method_of names self steps returns),
      );
}

pub steps_one_by_one : StepsOneByOne
steps_one_by_one = laws.steps_one_by_one

pub lent_steps : LentSteps
lent_steps names out words s = record {
  whole = steps_whole words;
  together = steps_together names out words s;
  kept = λ r e. rw e;
}

pub step_refused_if_first_due : StepRefusedIfFirstDue
step_refused_if_first_due names out s = record {
  step = step_refused names out s;
  worded = worded_refused names out s;
  self = self_refused names;
}

pub examples_hold : ExamplesHold
unfolding lowering.lower_records env.named_env env.place lists.all hir.bounds_from refusals.unless rfc.throughout lists.count
    lists.any rfc.own_from steps.read_step reading.read_all reading.in_shape reading.items_of
    machine.in_turn machine.lower_word machine.lower_step machine.one_step machine.worded_step machine.unused
examples_hold = ((refl, (refl, (refl, (refl, (refl, tt))))), (refl, (refl, (refl, tt))))
