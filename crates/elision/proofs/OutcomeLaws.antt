-- What stands behind an outcome that is made into something else, and what no outcome is.
use Rattle.std.specs.Prelude.{Ok, Err}
use Prim.Native.Nat.{ℕ}
use mathlib.Core.Path.{◌≡◌, refl, ap, ◌∙◌}
use native.Mathlib.Omega.{arith}
use Rattle.std.specs.Result.{IsErrAnd}
use Rattle.std.proofs.lemmas.Result.{err_from_is_err_and}
use Rattle.answers.specs.declared.Refusal.{Refusal}
use Rattle.answers.specs.Refusals.{Outcome, over}

-- no outcome is both
pub both : {A B : Type 0} {a : A} {k : Refusal} → ◌≡◌ {A = Outcome A} (Err k) (Ok a) → B
both e = let z : ◌≡◌ {A = ℕ} 0 1 = cc in absurd (omega arith)

pub same_given : {A : Type 0} {a b : A} → ◌≡◌ {A = Outcome A} (Ok a) (Ok b) → a ≡ b
same_given e = cc

pub same_refused : {A : Type 0} {j k : Refusal} → ◌≡◌ {A = Outcome A} (Err j) (Err k) → j ≡ k
same_refused e = cc

-- a refusal is the same beside any result
pub carried : {A B : Type 0} {j k : Refusal} → ◌≡◌ {A = Outcome A} (Err j) (Err k) → ◌≡◌ {A = Outcome B} (Err j) (Err k)
carried e = ap (λ (r : Refusal). Err r) (same_refused e)

module _ {A B : Type 0} (f : A → B) where
  pub over_refused : (o : Outcome A) {k : Refusal} → Err k ≡ over f o → o ≡ Err k
  over_refused (Ok a) e = both e
  over_refused (Err j) e = cc

  pub over_given : (o : Outcome A) {b : B} → Ok b ≡ over f o → (a : A) × ((o ≡ Ok a) × (b ≡ f a))
  over_given (Ok a) e = (a, (refl, same_given e))
  over_given (Err j) e = let z : ◌≡◌ {A = ℕ} 0 1 = cc in absurd (omega arith)

-- what the way out at a `?` answers: the refusal, and so what is to be answered
pub refused_is : {B : Type 0} {r : Outcome B} {k : Refusal} → IsErrAnd r (λ y. y ≡ k) → r ≡ Err k
refused_is {r = r} h = let p = err_from_is_err_and r h in rw (p.1, p.2)

pub passed_on : {B : Type 0} {r o : Outcome B} {k : Refusal} → IsErrAnd r (λ y. y ≡ k) → Err k ≡ o → r ≡ o
passed_on h e = refused_is h ∙ e
