-- The main theorem of this crate, stated. Its proof, a term of exactly this type and of the same name in small letters,
-- is in proofs/Theorems.antt.
use Rattle.std.specs.Prelude.{◌≡◌, ◌↔◌, List, Ok, Err}
use Rattle.answers.specs.declared.Refusal.{Refusal}
use Rattle.answers.specs.Refusals.{Check, unless, FirstDue, NoneDue}

-- Refusals ("Each is given in its condition only"): a call answers a refusal exactly if it is the first due in the
-- call's order, and gives its result exactly if none is due.
pub record InOrderDue (A : Type 0) (checks : List Check) (a : A) : Type 0 where
  pub refused : (r : Refusal) → (unless checks a ≡ Err r) ↔ FirstDue r checks
  pub given : (b : A) → (unless checks a ≡ Ok b) ↔ (NoneDue checks × (a ≡ b))

abbrev pub RefusedIfFirstDue : Type 1
RefusedIfFirstDue = (A : Type 0) (checks : List Check) (a : A) → InOrderDue A checks a
