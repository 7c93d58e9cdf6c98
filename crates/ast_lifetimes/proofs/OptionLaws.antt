-- What the answer of `ok_or` says of the option.
use Rattle.std.specs.Prelude.{Option, Some, None, Ok, Err}
use mathlib.Core.Path.{◌≡◌, refl, sym, ◌∙◌}
use Rattle.std.specs.Option.{ok_or}
use Rattle.answers.specs.declared.Refusal.{Refusal}
use Rattle.answers.specs.Refusals.{Outcome}

module _ {A : Type 0} {r : Option A} (x : Refusal) {o : Outcome A} (f : o ≡ ok_or r x) where
  pub ok_or_missing : {y : Refusal} → o ≡ Err y → (r ≡ None) × (y ≡ x)
  ok_or_missing {y} k = go r refl
    where
      go : (q : Option A) → r ≡ q → (r ≡ None) × (y ≡ x)
      go None h = (h, let s : ◌≡◌ {A = Outcome A} (Err y) (Err x) = sym k ∙ f ∙ rw h in cc)
      go (Some a) h = absurd (let s : ◌≡◌ {A = Outcome A} (Err y) (Ok a) = sym k ∙ f ∙ rw h in cc)

  pub ok_or_found : {a : A} → o ≡ Ok a → r ≡ Some a
  ok_or_found {a} k = go r refl
    where
      go : (q : Option A) → r ≡ q → r ≡ Some a
      go None h = absurd (let s : ◌≡◌ {A = Outcome A} (Ok a) (Err x) = sym k ∙ f ∙ rw h in cc)
      go (Some b) h = let s : ◌≡◌ {A = Outcome A} (Ok a) (Ok b) = sym k ∙ f ∙ rw h in let same : a ≡ b = cc in rw (h, same)
