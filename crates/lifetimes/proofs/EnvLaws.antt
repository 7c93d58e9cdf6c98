-- Laws of the environment's checks: what it says that none is due, and which is the first that is. Then the answers of
-- `LifetimeEnv::check` and `push_bound`.
use Rattle.std.specs.Prelude.{Ok, Err}
use Prim.Native.Nat.{ℕ, ◌+◌, ◌≤◌, ◌<◌}
use mathlib.Core.Bool.{Bool, true, false, not, ◌&&◌}
use mathlib.Core.Path.{◌≡◌, refl, sym, ap, ◌∙◌}
use mathlib.Core.List.{Memᴰ}
use native.Mathlib.Decide.{dec_lt}
use native.Mathlib.Omega.{arith}
use borrow.Author.Tests.{ltb-true, ltb-false, lt-ltb, le-ltb, not-true, not-false}
use lib.ListN.{length}
use Rattle.answers.specs.declared.Refusal.{Refusal}
use Rattle.answers.specs.declared.Refusal.TheVariants.{Full, OutOfRange}
use Rattle.answers.specs.Refusals.{unless, FirstDue, here, later, NoneDue, end, next}
use Rattle.answers.specs.Lists.{all}
use Rattle.answers.specs.Lent.{judged}
use Rattle.answers.proofs.RefusalLaws.{due_given, due_refused, given_due, refused_first, accepted_none, none_first, none_rest}
use Rattle.lifetimes.specs.declared.bounds.Bound.{Bound}
use Rattle.lifetimes.specs.declared.bounds.Bounds.{Bounds}
use Rattle.lifetimes.specs.declared.env.LifetimeEnv.{LifetimeEnv}
use Rattle.lifetimes.specs.Bounds.{both_below, all_below, bounds_checks}
use Rattle.lifetimes.specs.Env.{bounds_of, env_checks, with_bound, push_bound}
use Rattle.lifetimes.specs.Walk.{near, far}
use Rattle.lifetimes.proofs.BoundsLaws.{both_below_lem, all_below_lem, bounds_pushed}

-- what holds of an environment on which no refusal is due
pub record Valid (e : LifetimeEnv) : Type 0 where
  pub counted : e.count ≤ 64
  pub few : e.bounds.pushed ≤ 256
  pub declares : e.declared ≤ e.count
  pub below : (b : Bound) → Memᴰ b (bounds_of e) → (b.longer < e.declared) × (b.shorter < e.declared)

pub valid : (e : LifetimeEnv) → NoneDue (env_checks e) → Valid e
valid e n = record {
  counted = ltb-false 64 e.count (none_first n);
  few = ltb-false 256 e.bounds.pushed (none_first (none_rest n));
  declares = ltb-false e.count e.declared (none_first (none_rest (none_rest n)));
  below = all_below_lem e.declared (bounds_of e) (not-false _ (none_first (none_rest (none_rest (none_rest n)))));
}

pub near_declared : (d : Bool) {e : LifetimeEnv} → Valid e → (b : Bound) → Memᴰ b (bounds_of e) → near d b < e.declared
near_declared true v b k = (v.below b k).1
near_declared false v b k = (v.below b k).0

pub far_declared : (d : Bool) {e : LifetimeEnv} → Valid e → (b : Bound) → Memᴰ b (bounds_of e) → far d b < e.declared
far_declared true v b k = (v.below b k).0
far_declared false v b k = (v.below b k).1

-- the first check that is due, where those before it are not; and that none is due
module _ (e : LifetimeEnv) where
  pub lifetimes_due : 64 < e.count → FirstDue Full (env_checks e)
  lifetimes_due h = here (lt-ltb 64 e.count h) refl

  module _ (lifetimes : e.count ≤ 64) where
    pub bounds_due : 256 < e.bounds.pushed → FirstDue Full (env_checks e)
    bounds_due h = later (le-ltb 64 e.count lifetimes) (here (lt-ltb 256 e.bounds.pushed h) refl)

    module _ (few : e.bounds.pushed ≤ 256) where
      pub declared_due : e.count < e.declared → FirstDue OutOfRange (env_checks e)
      declared_due h =
          later (le-ltb 64 e.count lifetimes)
          (later (le-ltb 256 e.bounds.pushed few) (here (lt-ltb e.count e.declared h) refl))

      module _ (declares : e.declared ≤ e.count) where
        pub side_due : all_below e.declared (bounds_of e) ≡ false → FirstDue OutOfRange (env_checks e)
        side_due f =
            later (le-ltb 64 e.count lifetimes)
            (later (le-ltb 256 e.bounds.pushed few)
            (later (le-ltb e.count e.declared declares) (here (ap not f) refl)))

        pub none_due : all_below e.declared (bounds_of e) ≡ true → NoneDue (env_checks e)
        none_due t =
            next (le-ltb 64 e.count lifetimes)
            (next (le-ltb 256 e.bounds.pushed few)
            (next (le-ltb e.count e.declared declares) (next (ap not t) end)))

      -- a side past the declared is 8, however many are declared
      pub outside_due : all_below e.declared (bounds_of e) ≡ false → FirstDue OutOfRange (env_checks e)
      outside_due f = elim (dec_lt e.count e.declared) [
        | yes l ↦ declared_due l
        | no g ↦ side_due (omega arith) f
      ]

pub accepted_valid : (e : LifetimeEnv) → unless (env_checks e) e ≡ Ok e → NoneDue (env_checks e)
accepted_valid e h = (given_due e e (env_checks e) h).0

-- what the verdict says that `check` answers
pub check_passed : (e : LifetimeEnv) → Ok (tt {0}) ≡ judged (env_checks e) → NoneDue (env_checks e)
check_passed e k = accepted_none (tt {0}) (env_checks e) (sym k)

pub check_failed : (e : LifetimeEnv) {r : Refusal} → Err r ≡ judged (env_checks e) → FirstDue r (env_checks e)
check_failed e {r} k = refused_first (tt {0}) r (env_checks e) (sym k)

-- ---- `check`

module _ (e : LifetimeEnv) where
  pub check_lifetimes : 64 < e.count → Err Full ≡ judged (env_checks e)
  check_lifetimes h = rw (due_refused (tt {0}) (lifetimes_due e h))

  module _ (lifetimes : e.count ≤ 64) where
    pub check_bounds : {r : Refusal} → Err r ≡ judged (bounds_checks e.declared e.bounds) → Err r ≡ judged (env_checks e)
    check_bounds {r} k =
        rw (due_refused (tt {0}) (go (refused_first (tt {0}) r (bounds_checks e.declared e.bounds) (sym k))))
      where
        go : FirstDue r (bounds_checks e.declared e.bounds) → FirstDue r (env_checks e)
        go (here h q) = later (le-ltb 64 e.count lifetimes) (here h q)
        go (later d (here h q)) = rw (← q) (outside_due e lifetimes (ltb-false 256 e.bounds.pushed d) (not-true _ h))
        go (later d (later _ x9)) = elim x9 [ ]

    -- the bounds pass, as they do where there are none
    module _ (inside : NoneDue (bounds_checks e.declared e.bounds)) where
      few : e.bounds.pushed ≤ 256
      few = ltb-false 256 e.bounds.pushed (none_first inside)

      pub check_declared : e.count < e.declared → Err OutOfRange ≡ judged (env_checks e)
      check_declared h = rw (due_refused (tt {0}) (declared_due e lifetimes few h))

      pub check_given : e.declared ≤ e.count → Ok (tt {0}) ≡ judged (env_checks e)
      check_given h = rw (due_given (tt {0}) (none_due e lifetimes few h (not-false _ (none_first (none_rest inside)))))

-- what the bounds' verdict says
pub bounds_passed : (n : ℕ) (b : Bounds) → Ok (tt {0}) ≡ judged (bounds_checks n b) → NoneDue (bounds_checks n b)
bounds_passed n b k = accepted_none (tt {0}) (bounds_checks n b) (sym k)

pub bounds_none : (n : ℕ) (b : Bounds) → b.pushed ≡ 0 → NoneDue (bounds_checks n b)
unfolding all
bounds_none n b h = next (rw h) (next (rw h) end)

-- ---- `push_bound`

module _ (e : LifetimeEnv) (b : Bound) where
  refused_with : {r : Refusal} → FirstDue r (env_checks (with_bound e b))
      → Err r ≡ push_bound e b
  unfolding push_bound
  refused_with due = sym (due_refused (with_bound e b) due)

  pub push_full : 256 ≤ e.bounds.pushed → Err Full ≡ push_bound e b
  push_full h = refused_with (elim (dec_lt 64 e.count) [
    | yes l ↦ lifetimes_due (with_bound e b) l
    | no g ↦ bounds_due (with_bound e b) (omega arith) (omega arith)
  ])

  module _ (full : length e.bounds.list ≡ 256) (room : e.bounds.pushed < 256) where
    sides : all_below e.declared (bounds_of (with_bound e b)) ≡ all_below e.declared (bounds_of e) && both_below e.declared b
    sides = bounds_pushed e.declared e.bounds b full room

    pub push_refused : {r : Refusal} → Err r ≡ judged (env_checks e) → Err r ≡ push_bound e b
    push_refused {r} k = refused_with (go (check_failed e k))
      where
        go : FirstDue r (env_checks e) → FirstDue r (env_checks (with_bound e b))
        go (here h q) = here h q
        go (later c (here h q)) = absurd (omega (arith, ltb-true 256 e.bounds.pushed h))
        go (later c (later d (here h q))) = later c (later (le-ltb 256 (e.bounds.pushed + 1) (omega arith)) (here h q))
        go (later c (later d (later l (here h q)))) =
            let past : all_below e.declared (bounds_of (with_bound e b)) ≡ false = sides ∙ rw (not-true (all_below e.declared (bounds_of e)) h) in
            later c (later (le-ltb 256 (e.bounds.pushed + 1) (omega arith)) (later l (here (ap not past) q)))
        go (later c (later d (later l (later _ x15)))) = elim x15 [ ]

    module _ (passed : Ok (tt {0}) ≡ judged (env_checks e)) where
      fine : Valid e
      fine = valid e (check_passed e passed)

      inside : all_below e.declared (bounds_of e) ≡ true
      inside = not-false _ (none_first (none_rest (none_rest (none_rest (check_passed e passed)))))

      pub push_outside : both_below e.declared b ≡ false → Err OutOfRange ≡ push_bound e b
      push_outside f = refused_with (side_due (with_bound e b) fine.counted (omega arith) fine.declares (sides ∙ rw (inside, f)))

      -- a bound that is taken has numbers that fit a byte
      pub push_small : both_below e.declared b ≡ true → (b.longer < 256) × (b.shorter < 256)
      push_small t =
          let both = both_below_lem b t in
          (omega (arith, both.0, fine.counted, fine.declares), omega (arith, both.1, fine.counted, fine.declares))

      pub push_given : both_below e.declared b ≡ true → Ok (with_bound e b) ≡ push_bound e b
      unfolding push_bound
      push_given t =
          let fits = none_due (with_bound e b) fine.counted (omega arith) fine.declares (sides ∙ rw (inside, t)) in
          sym (due_given (with_bound e b) fits)
