-- What the verdict on a record's shape says; and the environment's checks.
use Rattle.std.specs.Prelude.{Ok, Err}
use Prim.Native.Nat.{◌≤◌, ◌<◌}
use mathlib.Core.Bool.{Bool, true, false}
use mathlib.Core.Path.{◌≡◌, refl, sym, ◌∙◌}
use borrow.Author.Tests.{lt-ltb, le-ltb}
use Rattle.answers.specs.declared.Refusal.{Refusal}
use Rattle.answers.specs.declared.Refusal.TheVariants.{Malformed, Full}
use Rattle.answers.specs.Lists.{all}
use Rattle.answers.specs.Refusals.{unless, Verdict}
use Rattle.answers.specs.Lent.{judged}
use Rattle.lifetimes.specs.Bounds.{bounds_checks}
use Rattle.ast_lifetimes.specs.declared.env.LifetimeEnv.{LifetimeEnv}
use Rattle.records.specs.Reading.{shape_verdict}
use Rattle.ast_lifetimes.specs.Env.{env_checks}
use Rattle.answers.proofs.VerdictLaws.{refused_accepted}

-- ---- a record in shape, or not

module _ {t : Bool} {v : Verdict} (e : v ≡ shape_verdict t) where
  pub in_shape : v ≡ Ok (tt {0}) → t ≡ true
  in_shape k = go t refl
    where
      go : (s : Bool) → t ≡ s → t ≡ true
      go true h = h
      go false h = let f : v ≡ Err Malformed = e ∙ rw h in refused_accepted (sym f ∙ k)

  pub off_shape : {x : Refusal} → v ≡ Err x → (t ≡ false) × (x ≡ Malformed)
  off_shape {x} k = go t refl
    where
      go : (s : Bool) → t ≡ s → (t ≡ false) × (x ≡ Malformed)
      go true h = let f : v ≡ Ok (tt {0}) = e ∙ rw h in refused_accepted (sym k ∙ f)
      go false h = (h, let f : v ≡ Err Malformed = e ∙ rw h in cc)

-- ---- `check`

module _ (e : LifetimeEnv) where
  pub check_names : 32 < e.named → Err Full ≡ judged (env_checks e)
  unfolding unless
  check_names h = rw (lt-ltb 32 e.named h)

  pub check_empty : e.named ≤ 32 → e.bounds.pushed ≡ 0 → Ok (tt {0}) ≡ judged (env_checks e)
  unfolding unless all
  check_empty h none = rw (le-ltb 32 e.named h, none)

  pub check_bounds : e.named ≤ 32 → {v : Verdict} → v ≡ judged (bounds_checks e.named e.bounds) → v ≡ judged (env_checks e)
  unfolding unless
  check_bounds h p = rw (le-ltb 32 e.named h) p
