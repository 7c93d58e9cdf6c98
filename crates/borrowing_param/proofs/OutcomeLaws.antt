-- What an outcome made into something else says of the checks.
use Rattle.std.specs.Prelude.{Ok, Err, IsErr, IsErrAnd}
use Prim.Native.Nat.{ℕ}
use mathlib.Core.Path.{◌≡◌, refl, sym, ap, ◌∙◌}
use mathlib.Core.List.{List}
use native.Mathlib.Omega.{arith}
use Rattle.answers.specs.declared.Refusal.{Refusal}
use Rattle.answers.specs.Refusals.{Check, Outcome, unless, over, FirstDue, NoneDue}
use Rattle.answers.proofs.RefusalLaws.{given_due, refused_due}

-- an outcome is one or the other
pub ok_same : {A : Type 0} {x y : A} → ◌≡◌ {A = Outcome A} (Ok x) (Ok y) → x ≡ y
ok_same e = cc

pub no_both : {A B : Type 0} {r : Refusal} {x : A} → ◌≡◌ {A = Outcome A} (Err r) (Ok x) → B
no_both e = let z : ◌≡◌ {A = ℕ} 0 1 = cc in absurd (omega arith)

-- what the way out of a `?` returns
pub way_out : {A : Type 0} {k : Refusal} {r : Outcome A} → IsErr r × IsErrAnd r (λ e. e ≡ k) → r ≡ Err k
way_out {r = Ok x} h = absurd h.1
way_out {r = Err e} h = ap (λ (q : Refusal). Err q) h.1

module _ {A B : Type 0} (f : A → B) (a : A) (checks : List Check) where
  pub over_refused : {k : Refusal} → Err k ≡ over f (unless checks a) → FirstDue k checks
  over_refused {k} e = refused_due a k checks (go (unless checks a) e)
    where
      go : (o : Outcome A) → Err k ≡ over f o → o ≡ Err k
      go (Ok x) q = no_both q
      go (Err s) q = cc

  pub over_given : {b : B} → Ok b ≡ over f (unless checks a) → NoneDue checks × (b ≡ f a)
  over_given {b} e = go (unless checks a) refl e
    where
      go : (o : Outcome A) → unless checks a ≡ o → Ok b ≡ over f o → NoneDue checks × (b ≡ f a)
      go (Ok x) u q = let n = given_due a x checks u in (n.0, ok_same q ∙ ap f (sym n.1))
      go (Err s) u q = no_both (sym q)
