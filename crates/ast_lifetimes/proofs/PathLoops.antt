-- A path's lifetimes, one after another: what is left of its pairs, while the sets of outliving are kept. The loop of
-- `extend_path`.
use Rattle.std.specs.Prelude.{Ok, Err}
use Prim.Native.Nat.{ℕ, ◌+◌, ◌≤◌, ◌<◌}
use mathlib.Core.Bool.{Bool, true, false, ◌&&◌, not}
use mathlib.Core.Path.{◌≡◌, sym, ap, ◌∙◌}
use mathlib.Core.List.{List, [], ◌∷◌, ◌++◌}
use native.Mathlib.Omega.{arith}
use borrow.Author.Tests.{ltb-true, not-false}
use lib.ListN.{length, get_or, drop}
use Rattle.answers.specs.declared.Refusal.{Refusal}
use Rattle.answers.specs.Refusals.{Outcome}
use Rattle.answers.proofs.RefusalLaws.{given_due, none_first, none_rest}
use Rattle.lifetimes.specs.declared.bounds.Bound.{Bound}
use Rattle.ast_lifetimes.specs.declared.env.LifetimeEnv.{LifetimeEnv}
use Rattle.ast_lifetimes.specs.Shapes.{Pair, is_name, pair}
use Rattle.ast_lifetimes.specs.Env.{place, is_declared, pair_checks, bound_of, names_of, bounds_of, among, path_pairs}
use Rattle.ast_lifetimes.specs.Entries.{SoFar, so_far, fold, push_pair}
use Rattle.ast_lifetimes.specs.Inner.{so_far_of, StandsIn, Leaves, OutliveSets, outlived_by, is_implied}
use Rattle.ast_lifetimes.proofs.StandsLaws.{stands_named, leaves_stands, Folding, folding_same, folding_end}
use Rattle.ast_lifetimes.proofs.StandsLaws.{folding_more, folding_refused}
use Rattle.ast_lifetimes.proofs.PathLaws.{implied_test, path_next, path_end}

-- what one more pair is, once it is pushed
pub record More (p : Pair) (e e₁ : LifetimeEnv) : Type 0 where
  pub names : names_of e₁ ≡ names_of e
  pub bounds : bounds_of e₁ ≡ bounds_of e ++ (bound_of (names_of e) p ∷ [])
  pub named : e₁.named ≡ e.named
  pub longer : place (names_of e) p.longer < e.named
  pub shorter : place (names_of e) p.shorter < e.named

pub pushed_more : {A : Type 0} {p : Pair} {e e₁ : LifetimeEnv} {r : Outcome A} → StandsIn (so_far_of e) e
    → Leaves (push_pair (so_far_of e) p) e₁ r → {a : A} → r ≡ Ok a → More p e e₁
pushed_more {p = p} {e} {e₁} h one q =
    let l = leaves_stands one q in
    let g = given_due (so_far (names_of e) (bounds_of e ++ (bound_of (names_of e) p ∷ []))) (so_far_of e₁)
    (pair_checks (names_of e) (length (bounds_of e)) p) l.0 in
    let long : not (is_declared (names_of e) p.longer) ≡ false = none_first g.0 in
    let short : not (is_declared (names_of e) p.shorter) ≡ false = none_first (none_rest g.0) in
    let names : names_of e₁ ≡ names_of e = sym (ap (λ (s : SoFar). s.names) g.1) in
    record {
      names = names;
      bounds = sym (ap (λ (s : SoFar). s.bounds) g.1);
      named = stands_named l.1 ∙ ap length names ∙ sym (stands_named h);
      longer = omega (arith, ltb-true _ _ (not-false _ long), stands_named h);
      shorter = omega (arith, ltb-true _ _ (not-false _ short), stands_named h);
    }

pub record Pathing (behind : ℕ) (lifetimes : List ℕ) (e₀ e : LifetimeEnv) (sets : List ℕ) (i : ℕ) : Type 0 where
  pub names : names_of e ≡ names_of e₀
  pub run : Folding push_pair (fold push_pair (so_far_of e₀) (path_pairs (names_of e₀) (bounds_of e₀) behind lifetimes))
      (path_pairs (names_of e₀) (bounds_of e₀) behind (drop i lifetimes)) e
  pub reaches : OutliveSets (bounds_of e) e.named sets

module _ {behind : ℕ} {lifetimes : List ℕ} {e₀ e : LifetimeEnv} {sets : List ℕ} {i : ℕ}
    (inv : Pathing behind lifetimes e₀ e sets i) where
  pub pathing_end : length lifetimes ≤ i
      → Leaves (fold push_pair (so_far_of e₀) (path_pairs (names_of e₀) (bounds_of e₀) behind lifetimes)) e (Ok (tt {0}))
  pathing_end h = folding_end inv.run (path_end (names_of e₀) (bounds_of e₀) behind lifetimes i h)

  module _ (inside : i < length lifetimes) (h : StandsIn (so_far_of e₀) e₀) (sets₀ : List ℕ)
      (r : OutliveSets (bounds_of e₀) e₀.named sets₀) {taken : ℕ} (t : taken ≡ outlived_by (names_of e₀) sets₀ behind)
      {test : Bool} (q : test ≡ is_implied (names_of e) taken (get_or lifetimes i 0)) where
    tested : test ≡ (is_name (get_or lifetimes i 0) && not (among (names_of e₀) (bounds_of e₀) behind (get_or lifetimes i 0)))
    tested =
        let reaches : OutliveSets (bounds_of e₀) (length (names_of e₀)) sets₀ = rw (← stands_named h) r in
        q ∙ rw (inv.names, t) (implied_test (names_of e₀) (bounds_of e₀) sets₀ reaches behind (get_or lifetimes i 0))

    pub pathing_passed : test ≡ false → Pathing behind lifetimes e₀ e sets (i + 1)
    pathing_passed k = record {
      names = inv.names;
      run = folding_same inv.run
          (path_next (names_of e₀) (bounds_of e₀) behind lifetimes i inside ∙ rw (sym tested ∙ k));
      reaches = inv.reaches;
    }

    module _ (k : test ≡ true) {r₁ : Outcome Bound} {e₁ : LifetimeEnv}
        (one : Leaves (push_pair (so_far_of e) (pair (get_or lifetimes i 0) behind)) e₁ r₁) where
      next : path_pairs (names_of e₀) (bounds_of e₀) behind (drop i lifetimes)
          ≡ pair (get_or lifetimes i 0) behind ∷ path_pairs (names_of e₀) (bounds_of e₀) behind (drop (i + 1) lifetimes)
      next = path_next (names_of e₀) (bounds_of e₀) behind lifetimes i inside ∙ rw (sym tested ∙ k)

      pub pathing_refused : {x : Refusal} → r₁ ≡ Err x
          → Leaves {A = Unit {0}} (fold push_pair (so_far_of e₀) (path_pairs (names_of e₀) (bounds_of e₀) behind lifetimes)) e₁ (Err x)
      pathing_refused n = folding_refused inv.run next one n

      -- the pushed bound is between names, and joined to the sets
      pub pathing_below : {b : Bound} → r₁ ≡ Ok b → b ≡ bound_of (names_of e) (pair (get_or lifetimes i 0) behind)
          → (b.longer < e₁.named) × (b.shorter < e₁.named)
      pathing_below n is = let m = pushed_more inv.run.stands one n in rw (is, m.named) (m.longer, m.shorter)

      pub pathing_pushed : {b : Bound} → r₁ ≡ Ok b → b ≡ bound_of (names_of e) (pair (get_or lifetimes i 0) behind)
          → (sets₁ : List ℕ) → ((bs : List Bound) → OutliveSets bs e₁.named sets → OutliveSets (bs ++ (b ∷ [])) e₁.named sets₁)
          → Pathing behind lifetimes e₀ e₁ sets₁ (i + 1)
      pathing_pushed {b} n is sets₁ joins =
          let m = pushed_more inv.run.stands one n in
          let all : bounds_of e₁ ≡ bounds_of e ++ (b ∷ []) = m.bounds ∙ rw is in
          record {
            names = m.names ∙ inv.names;
            run = folding_more inv.run next one n;
            reaches = rw all (joins (bounds_of e) (rw m.named inv.reaches));
          }
