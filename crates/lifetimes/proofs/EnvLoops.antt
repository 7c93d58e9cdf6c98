-- Pairs longer, shorter as words: how a loop reads them, and the loops of `pairs_below` and `filled`. Then the answers
-- of `LifetimeEnv::new`.
use Rattle.std.specs.Prelude.{Ok, Err}
use Prim.Native.Nat.{ℕ, suc, ◌+◌, ◌*◌, ◌-◌, ◌/◌, ◌%◌, ◌≤◌, ◌<◌}
use mathlib.Core.Bool.{Bool, true, false, and-eq-true_iff}
use mathlib.Core.Path.{◌≡◌, refl, sym, ◌∙◌}
use mathlib.Core.List.{List, [], ◌∷◌, ◌++◌}
use native.Mathlib.Nat.{zero-add}
use native.Mathlib.Numerals.{add-one}
use native.Mathlib.Omega.{arith}
use borrow.Author.Tests.{eq-eqb, ne_eqb}
use lib.ListN.{length, get_or, drop, set, replicate, drop_of_length-le}
use lib.Seq.{drop-cons, sets, sets-eq}
use Rattle.answers.specs.Lists.{all}
use Rattle.answers.specs.declared.Refusal.{Refusal}
use Rattle.answers.specs.declared.Refusal.TheVariants.{Malformed, Full, OutOfRange}
use Rattle.lifetimes.specs.declared.bounds.Bound.{Bound}
use Rattle.lifetimes.specs.declared.bounds.Bounds.{Bounds}
use Rattle.lifetimes.specs.declared.env.LifetimeEnv.{LifetimeEnv}
use Rattle.answers.specs.Refusals.{FirstDue, here, later, NoneDue, next}
use Rattle.lifetimes.specs.Bounds.{above, bounds_from, both_below, all_below}
use Rattle.lifetimes.specs.Env.{bounds_of, env_checks, bounds_of_pairs, new_checks, env_of, new_env}
use Rattle.lifetimes.proofs.BoundsLaws.{both_below_lem, bounds_made}
use Rattle.lifetimes.proofs.EnvLaws.{lifetimes_due, bounds_due, declared_due, side_due, none_due}
use Rattle.answers.proofs.RefusalLaws.{due_given, due_refused}
use Rattle.answers.proofs.Copying.{drop_replicate}

-- ---- reading the pairs, from the first to the last

-- at most a bound for every two words, and one for each two if no word is left over
pairs_few : (words : List ℕ) → length (bounds_of_pairs words) + length (bounds_of_pairs words) ≤ length words
unfolding bounds_of_pairs
pairs_few [] = omega arith
pairs_few (l ∷ []) = omega arith
pairs_few (l ∷ s ∷ words) = let r = pairs_few words in omega arith

pairs_many : (words : List ℕ) → length words ≤ length (bounds_of_pairs words) + length (bounds_of_pairs words) + 1
unfolding bounds_of_pairs
pairs_many [] = omega arith
pairs_many (l ∷ []) = omega arith
pairs_many (l ∷ s ∷ words) = let r = pairs_many words in omega arith

-- where no word is left over, there are half as many bounds
pairs_half : (words : List ℕ) → length words % 2 ≡ 0 → length (bounds_of_pairs words) ≡ length words / 2
pairs_half words even = omega (arith, pairs_few words, pairs_many words)

module _ (words : List ℕ) (even : length words % 2 ≡ 0) (i : ℕ) where
  pairs_end : length words / 2 ≤ i → bounds_of_pairs (drop (2 * i) words) ≡ []
  unfolding bounds_of_pairs
  pairs_end h = rw (drop_of_length-le words {i = 2 * i} (omega arith))

  pair_read : i < length words / 2 → bounds_of_pairs (drop (2 * i) words)
      ≡ above (get_or words (2 * i) 0) (get_or words (2 * i + 1) 0) ∷ bounds_of_pairs (drop (2 * (i + 1)) words)
  unfolding bounds_of_pairs
  pair_read h =
      let two : 2 * (i + 1) ≡ suc (suc (2 * i)) = omega arith in
      let first : 2 * i < length words = omega arith in
      let second : suc (2 * i) < length words = omega arith in
      rw (two, add-one (2 * i), drop-cons words (2 * i) 0 first, drop-cons words (suc (2 * i)) 0 second)

-- ---- `pairs_below`

pub record Below (limit : ℕ) (words : List ℕ) (i : ℕ) : Type 0 where
  pub even : length words % 2 ≡ 0
  pub left : all_below limit (bounds_of_pairs words) ≡ all_below limit (bounds_of_pairs (drop (2 * i) words))

module _ {limit : ℕ} {words : List ℕ} {i : ℕ} (inv : Below limit words i) where
  pub below_end : length words / 2 ≤ i → true ≡ all_below limit (bounds_of_pairs words)
  unfolding all
  below_end h = rw (inv.left, pairs_end words inv.even i h)

  module _ (h : i < length words / 2) where
    pub below_refused : both_below limit (above (get_or words (2 * i) 0) (get_or words (2 * i + 1) 0)) ≡ false
        → false ≡ all_below limit (bounds_of_pairs words)
    unfolding all
    below_refused f = rw (inv.left, pair_read words inv.even i h, f)

    pub below_more : both_below limit (above (get_or words (2 * i) 0) (get_or words (2 * i + 1) 0)) ≡ true
        → Below limit words (i + 1)
    unfolding all
    below_more t = record { even = inv.even; left = inv.left ∙ rw (pair_read words inv.even i h, t) }

-- ---- `filled`

-- what is left to store, stored from here, gives what all pairs give from the array's start
pub record Filling (words : List ℕ) (bounds : List Bound) (i : ℕ) : Type 0 where
  pub even : length words % 2 ≡ 0
  pub stored : sets bounds i (bounds_of_pairs (drop (2 * i) words)) ≡ sets (replicate 256 (above 0 0)) 0 (bounds_of_pairs words)
  pub small : all_below 256 (bounds_of_pairs (drop (2 * i) words)) ≡ true

module _ {words : List ℕ} {bounds : List Bound} {i : ℕ} (inv : Filling words bounds i) where
  module _ (h : i < length words / 2) where
    sides_here : (both_below 256 (above (get_or words (2 * i) 0) (get_or words (2 * i + 1) 0)) ≡ true)
        × (all_below 256 (bounds_of_pairs (drop (2 * (i + 1)) words)) ≡ true)
    unfolding all
    sides_here = (and-eq-true_iff _ _).0 (rw (pair_read words inv.even i h) at inv.small)

    pub filling_small : (get_or words (2 * i) 0 < 256) × (get_or words (2 * i + 1) 0 < 256)
    filling_small = both_below_lem (above (get_or words (2 * i) 0) (get_or words (2 * i + 1) 0)) sides_here.0

    pub filling_more : {b : Bound} → b ≡ above (get_or words (2 * i) 0) (get_or words (2 * i + 1) 0)
        → Filling words (set bounds i b) (i + 1)
    filling_more {b} q = record {
      even = inv.even;
      stored = rw (q, add-one i) (rw (pair_read words inv.even i h, add-one i) at inv.stored);
      small = sides_here.1;
    }

  pub filling_end : length words ≤ 512 → length words / 2 ≤ i
      → record { pushed = length words / 2; list = bounds } ≡ bounds_from (bounds_of_pairs words)
  unfolding bounds_from
  filling_end few h =
      let half = pairs_half words inv.even in
      let all : bounds ≡ bounds_of_pairs words ++ replicate (256 - length (bounds_of_pairs words)) (above 0 0) =
      rw (pairs_end words inv.even i h) at inv.stored
      ∙ sets-eq (bounds_of_pairs words) (replicate 256 (above 0 0)) 0 (omega (arith, half))
      ∙ rw (zero-add, drop_replicate (length (bounds_of_pairs words)) 256 (above 0 0)) in
      rw (← half, all)

-- ---- `LifetimeEnv::new`

module _ (declared count : ℕ) (words : List ℕ) where
  abbrev asked : LifetimeEnv
  asked = env_of declared count (bounds_of_pairs words)

  refused_by_lem : {r : Refusal} → FirstDue r (new_checks declared count words) → Err r ≡ new_env declared count words
  unfolding new_env
  refused_by_lem f = sym (due_refused asked f)

  pub new_half : length words % 2 ≡ 1 → Err Malformed ≡ new_env declared count words
  new_half h = refused_by_lem (here (eq-eqb (length words % 2) 1 h) refl)

  module _ (even : length words % 2 ≡ 1 → ⊥) where
    new_refused : {r : Refusal} → FirstDue r (env_checks asked) → Err r ≡ new_env declared count words
    new_refused f = refused_by_lem (later (ne_eqb (length words % 2) 1 even) f)

    pub new_lifetimes : 64 < count → Err Full ≡ new_env declared count words
    unfolding env_of
    new_lifetimes h = new_refused (lifetimes_due asked h)

    module _ (lifetimes : count ≤ 64) where
      pub new_bounds : 256 < length words / 2 → Err Full ≡ new_env declared count words
      unfolding env_of bounds_from
      new_bounds h = new_refused (bounds_due asked lifetimes (omega (arith, pairs_many words)))

      module _ (few : length words / 2 ≤ 256) where
        few_pairs : length (bounds_of_pairs words) ≤ 256
        few_pairs = omega (arith, pairs_few words)

        pub new_declared : count < declared → Err OutOfRange ≡ new_env declared count words
        unfolding env_of bounds_from
        new_declared h = new_refused (declared_due asked lifetimes few_pairs h)

        module _ (declares : declared ≤ count) where
          sides : {t : Bool} → all_below declared (bounds_of_pairs words) ≡ t → all_below declared (bounds_of asked) ≡ t
          unfolding env_of
          sides h = rw (bounds_made (bounds_of_pairs words)) h

          pub new_outside : all_below declared (bounds_of_pairs words) ≡ false → Err OutOfRange ≡ new_env declared count words
          unfolding env_of bounds_from
          new_outside h = new_refused (side_due asked lifetimes few_pairs declares (sides h))

          pub new_given : {b : Bounds} → all_below declared (bounds_of_pairs words) ≡ true → b ≡ bounds_from (bounds_of_pairs words)
              → Ok (record { declared = declared; count = count; bounds = b }) ≡ new_env declared count words
          unfolding new_env env_of bounds_from
          new_given h e =
              let none : NoneDue (new_checks declared count words) =
              next (ne_eqb (length words % 2) 1 even) (none_due asked lifetimes few_pairs declares (sides h)) in
              rw (due_given asked none, e)
