-- What a `?` tells: what it hands on, and what `ok_or` in front of it was asked.
use Rattle.std.specs.Prelude.{Ok, Err, Some, None, Option, IsErrAnd}
use Rattle.std.specs.Option.{ok_or}
use Rattle.std.proofs.lemmas.Result.{err_from_is_err_and}
use Prim.Native.Nat.{ℕ}
use mathlib.Core.Path.{◌≡◌, refl}
use native.Mathlib.Omega.{arith}
use Rattle.answers.specs.declared.Refusal.{Refusal}
use Rattle.answers.specs.Refusals.{Outcome}

-- a refusal is handed on as it is
pub handed_on : {A : Type 0} {r : Outcome A} {s : Refusal} → IsErrAnd r (λ x. x ≡ s) → r ≡ Err s
handed_on {r = r} h = let p = err_from_is_err_and r h in rw (p.1, p.2)

module _ {A : Type 0} where
  pub was_some : (o : Option A) (s : Refusal) {a : A} → Ok a ≡ ok_or o s → o ≡ Some a
  was_some None s e = let z : ◌≡◌ {A = ℕ} 0 1 = cc in absurd (omega arith)
  was_some (Some b) s e = cc

  pub was_none : (o : Option A) (s : Refusal) {r : Refusal} → Err r ≡ ok_or o s → (o ≡ None) × (r ≡ s)
  was_none None s e = (refl, cc)
  was_none (Some b) s e = let z : ◌≡◌ {A = ℕ} 0 1 = cc in absurd (omega arith)
