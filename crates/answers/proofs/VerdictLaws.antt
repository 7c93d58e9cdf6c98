-- Laws of `judged`, the verdict of some checks: what the verdict on the first checks says of the verdict on them and
-- more.
use Rattle.std.specs.Prelude.{Ok, Err}
use Prim.Native.Nat.{ℕ}
use mathlib.Core.Path.{◌≡◌, refl}
use mathlib.Core.List.{List, ◌++◌}
use native.Mathlib.Omega.{arith}
use Rattle.answers.specs.declared.Refusal.{Refusal}
use Rattle.answers.specs.Refusals.{Check, unless, FirstDue, NoneDue, end, next}
use Rattle.answers.proofs.RefusalLaws.{due_refused, refused_first, accepted_none, first_more}
use Rattle.answers.specs.Lent.{judged}

-- no verdict is both
pub refused_accepted : {A : Type 0} {r : Refusal} → Err r ≡ Ok (tt {0}) → A
refused_accepted e = let z : ◌≡◌ {A = ℕ} 0 1 = cc in absurd (omega arith)

pub unless_after : {A : Type 0} (a : A) {checks : List Check} (more : List Check) → NoneDue checks
    → unless (checks ++ more) a ≡ unless more a
unfolding unless
unless_after a more end = refl
unless_after a more (next h n) = rw h (unless_after a more n)

module _ (checks more : List Check) where
  pub judged_after : judged checks ≡ Ok (tt {0}) → judged (checks ++ more) ≡ judged more
  judged_after e = rw (unless_after (tt {0}) more (accepted_none (tt {0}) checks e))

  pub judged_stays : {r : Refusal} → judged checks ≡ Err r → judged (checks ++ more) ≡ Err r
  judged_stays {r} e =
      let due : FirstDue r (checks ++ more) = first_more more (refused_first (tt {0}) r checks e) in
      rw (due_refused (tt {0}) due)
