-- Refusals: the number of each (01's, from 11 on 02's), and which one a call gives: the first that is due in one
-- ordered list of checks.
use Rattle.std.specs.Prelude.{ℕ, Bool, true, false, cond, ◌≡◌, List, [], ◌∷◌, Result, Ok, Err}
use Rattle.answers.specs.declared.Refusal.{Refusal}
use Rattle.answers.specs.declared.Refusal.TheVariants.{Malformed, Duplicate, Undeclared, Full, NoSource}
use Rattle.answers.specs.declared.Refusal.TheVariants.{Ambiguous, Mismatch, OutOfRange, NoRoom}
use Rattle.answers.specs.declared.Refusal.TheVariants.{Unreadable, Retired}

abbrev pub number_of : Refusal → ℕ
number_of Malformed = 1
number_of Duplicate = 2
number_of Undeclared = 3
number_of Full = 4
number_of NoSource = 5
number_of Ambiguous = 6
number_of Mismatch = 7
number_of OutOfRange = 8
number_of NoRoom = 9
number_of Unreadable = 10
number_of Retired = 13

-- a check: whether its refusal is due
pub record Check : Type 0 where
  pub due : Bool
  pub refusal : Refusal

abbrev pub check : Bool → Refusal → Check
check t r = record { due = t; refusal = r }

-- what a call gives: its result (`Ok`), or a refusal (`Err`); a call with an outcome of its own answers it as it is
abbrev pub Outcome : Type 0 → Type 0
Outcome A = Result A Refusal

-- the outcome of a call that only judges
abbrev pub Verdict : Type 0
Verdict = Outcome (Unit {0})

-- the result, unless a check is due; then the first such check's refusal
unfoldable pub unless : {A : Type 0} → List Check → A → Outcome A
unless [] a = Ok a
unless (c ∷ cs) a = cond c.due (Err c.refusal) (unless cs a)

-- what is given, made into something else; a refusal stays
abbrev pub over : {A B : Type 0} → (A → B) → Outcome A → Outcome B
over f (Ok a) = Ok (f a)
over f (Err r) = Err r

-- one thing after another, to the first refusal
abbrev pub bind : {A B : Type 0} → Outcome A → (A → Outcome B) → Outcome B
bind (Ok a) next = next a
bind (Err r) next = Err r

-- r is the refusal of the first check that is due
pub data FirstDue (r : Refusal) : List Check → Type 0 where
  here : {c : Check} {cs : List Check} → c.due ≡ true → c.refusal ≡ r → FirstDue r (c ∷ cs)
  later : {c : Check} {cs : List Check} → c.due ≡ false → FirstDue r cs → FirstDue r (c ∷ cs)

-- no check is due
pub data NoneDue : List Check → Type 0 where
  end : NoneDue []
  next : {c : Check} {cs : List Check} → c.due ≡ false → NoneDue cs → NoneDue (c ∷ cs)
