-- The main theorem, proved: a term of exactly the type of specs/Theorems.antt.
use mathlib.Core.Path.{◌∙◌}
use Rattle.answers.specs.Theorems.{RefusedIfFirstDue}
use Rattle.answers.proofs.RefusalLaws.{due_given, due_refused, refused_due, given_due}

pub refused_if_first_due : RefusedIfFirstDue
refused_if_first_due A checks a = record {
  refused = λ r. (refused_due a r checks, due_refused a);
  given = λ b. (given_due a b checks, λ h. due_given a h.0 ∙ rw h.1);
}
