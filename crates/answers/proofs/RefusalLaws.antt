-- Laws of the checks: the refusal that `unless` gives is the first due, and both ways; what none being due says; what a
-- verdict says; more checks at the end.
use Rattle.std.specs.Prelude.{Ok, Err}
use mathlib.Core.Bool.{Bool, true, false, cond}
use mathlib.Core.Path.{◌≡◌, refl, ap, ◌∙◌}
use mathlib.Core.List.{List, [], ◌∷◌, ◌++◌}
use Prim.Native.Nat.{ℕ}
use native.Mathlib.Omega.{arith}
use Rattle.answers.specs.declared.Refusal.{Refusal}
use Rattle.answers.specs.Refusals.{Check, Outcome, unless, FirstDue, here, later, NoneDue, end}
use Rattle.answers.specs.Refusals.{next}
use Rattle.answers.specs.Lent.{verdict_of}

module _ {A : Type 0} (a : A) where
  pub due_given : {checks : List Check} → NoneDue checks → unless checks a ≡ Ok a
  unfolding unless
  due_given end = refl
  due_given (next {c} {cs} h n) = rw h (due_given n)

  pub due_refused : {r : Refusal} {checks : List Check} → FirstDue r checks → unless checks a ≡ Err r
  unfolding unless
  due_refused (here {c} {cs} h e) = rw (h, e)
  due_refused (later {c} {cs} h f) = rw h (due_refused f)

  pub refused_due : (r : Refusal) (checks : List Check) → unless checks a ≡ Err r → FirstDue r checks
  unfolding unless
  refused_due r [] e = let z : ◌≡◌ {A = ℕ} 0 1 = cc in absurd (omega arith)
  refused_due r (c ∷ cs) e = go c.due refl (refused_due r cs) e
    where
      go : (t : Bool) → c.due ≡ t → (unless cs a ≡ Err r → FirstDue r cs)
          → cond t (Err c.refusal) (unless cs a) ≡ Err r → FirstDue r (c ∷ cs)
      go true h f e = here {c = c} {cs = cs} h (cc)
      go false h f e = later h (f e)

  pub given_due : (b : A) (checks : List Check) → unless checks a ≡ Ok b → NoneDue checks × (a ≡ b)
  unfolding unless
  given_due b [] e = (end, cc)
  given_due b (c ∷ cs) e = go c.due refl (given_due b cs) e
    where
      go : (t : Bool) → c.due ≡ t → (unless cs a ≡ Ok b → NoneDue cs × (a ≡ b))
          → cond t (Err c.refusal) (unless cs a) ≡ Ok b → NoneDue (c ∷ cs) × (a ≡ b)
      go true h f e = let z : ◌≡◌ {A = ℕ} 0 1 = cc in absurd (omega arith)
      go false h f e = (next h (f e).0, (f e).1)

-- none of a list's first check, and of the others
pub none_first : {c : Check} {cs : List Check} → NoneDue (c ∷ cs) → c.due ≡ false
none_first (next h n) = h

pub none_rest : {c : Check} {cs : List Check} → NoneDue (c ∷ cs) → NoneDue cs
none_rest (next h n) = n

-- what a verdict on the outcome says of the checks
module _ {A : Type 0} (a : A) where
  pub refused_first : (r : Refusal) (checks : List Check) → verdict_of (unless checks a) ≡ Err r → FirstDue r checks
  refused_first r checks e = refused_due a r checks (go (unless checks a) e)
    where
      go : (o : Outcome A) → verdict_of o ≡ Err r → o ≡ Err r
      go (Ok b) e = let z : ◌≡◌ {A = ℕ} 0 1 = cc in absurd (omega arith)
      go (Err s) e = cc

  pub accepted_none : (checks : List Check) → verdict_of (unless checks a) ≡ Ok (tt {0}) → NoneDue checks
  accepted_none checks e = go (unless checks a) refl e
    where
      go : (o : Outcome A) → unless checks a ≡ o → verdict_of o ≡ Ok (tt {0}) → NoneDue checks
      go (Ok b) u e = (given_due a b checks u).0
      go (Err r) u e = let z : ◌≡◌ {A = ℕ} 0 1 = cc in absurd (omega arith)

-- more checks at the end
pub first_more : {r : Refusal} {checks : List Check} (more : List Check) → FirstDue r checks → FirstDue r (checks ++ more)
first_more more (here h e) = here h e
first_more more (later h f) = later h (first_more more f)

pub first_after : {r : Refusal} {checks more : List Check} → NoneDue checks → FirstDue r more → FirstDue r (checks ++ more)
first_after end f = f
first_after (next h n) f = later h (first_after n f)

pub none_more : {checks more : List Check} → NoneDue checks → NoneDue more → NoneDue (checks ++ more)
none_more end m = m
none_more (next h n) m = next h (none_more n m)

-- none is due of the one list, and of the other
pub none_split : (checks more : List Check) → NoneDue (checks ++ more) → NoneDue checks × NoneDue more
none_split [] more n = (end, n)
none_split (c ∷ cs) more n = let k = none_split cs more (none_rest n) in (next (none_first n) k.0, k.1)

-- what is due behind checks of which none is
pub first_behind : {r : Refusal} {checks more : List Check} → NoneDue checks → FirstDue r (checks ++ more) → FirstDue r more
first_behind end f = f
first_behind (next {c} h n) (here d e) = let z : ◌≡◌ {A = ℕ} 0 1 = cc in absurd (omega arith)
first_behind (next h n) (later d f) = first_behind n f

-- further checks of which none is due, if none of the first is
pub further : {A : Type 0} (a : A) (checks more : List Check) → (NoneDue checks → NoneDue more)
    → unless (checks ++ more) a ≡ unless checks a
further {A} a checks more f = go (unless checks a) refl
  where
    go : (o : Outcome A) → unless checks a ≡ o → unless (checks ++ more) a ≡ o
    go (Ok b) e = let n = given_due a b checks e in due_given a (none_more n.0 (f n.0)) ∙ ap (λ (x : A). Ok x) n.1
    go (Err k) e = due_refused a (first_more more (refused_due a k checks e))
