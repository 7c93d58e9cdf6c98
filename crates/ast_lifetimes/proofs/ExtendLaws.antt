-- `extend_implicit_lifetime_bounds`: what types imply on an environment that was checked is what their paths push, and
-- the answers.
use Rattle.std.specs.Prelude.{Ok, Err}
use Prim.Native.Nat.{ℕ, ◌≤◌}
use mathlib.Core.Bool.{Bool, true, false, cond, not}
use mathlib.Core.Path.{◌≡◌, refl, sym, ap, ◌∙◌}
use mathlib.Core.List.{List, [], ◌∷◌, ◌++◌}
use borrow.Author.Tests.{ltb-false}
use lib.ListN.{length}
use lib.Seq.{length-take-le}
use Rattle.answers.specs.declared.Refusal.{Refusal}
use Rattle.answers.specs.declared.Refusal.TheVariants.{Malformed}
use Rattle.answers.specs.Lent.{judged}
use Rattle.answers.specs.Refusals as refusals
use Rattle.answers.specs.Refusals.{Check, unless, over, FirstDue, later, NoneDue, next, Outcome, Verdict}
use Rattle.answers.proofs.RefusalLaws.{due_refused, refused_first, accepted_none, none_first, none_rest, first_more}
use Rattle.answers.proofs.VerdictLaws.{unless_after}
use Rattle.records.specs.Reading.{shape_verdict}
use Rattle.ast_lifetimes.specs.declared.env.LifetimeEnv.{LifetimeEnv}
use Rattle.ast_lifetimes.specs.Types.{types_in_shape, type_names_of}
use Rattle.ast_lifetimes.specs.Env.{all_pair_checks, bounds_for, names_of, bounds_of, named_env, env_checks}
use Rattle.ast_lifetimes.specs.Env.{implied_on, extended_with, extend_checks, extend_implied}
use Rattle.ast_lifetimes.specs.Entries.{SoFar, so_far, all_paths, fold, step}
use Rattle.ast_lifetimes.specs.Inner.{so_far_of, StandsIn, Leaves}
use Rattle.ast_lifetimes.proofs.EnvLaws.{in_shape, off_shape}
use Rattle.ast_lifetimes.proofs.EntryLaws.{fold_types}
use Rattle.ast_lifetimes.proofs.StandsLaws.{stands_same, stands_here, leaves_stands, leaves_refused, cleared_stands}

-- the environment of some names and bounds
abbrev env_of : SoFar → LifetimeEnv
env_of s = named_env s.names s.bounds

unless_over : {A B : Type 0} (f : A → B) (a : A) (checks : List Check) → over f (unless checks a) ≡ unless checks (f a)
unfolding unless
unless_over f a [] = refl
unless_over {A} {B} f a (c ∷ cs) = go c.due (unless_over f a cs)
  where
    go : (t : Bool) → over f (unless cs a) ≡ unless cs (f a)
        → over f (cond t (Err c.refusal) (unless cs a)) ≡ cond t (Err c.refusal) (unless cs (f a))
    go true h = refl
    go false h = h

-- an environment that was checked
pub valid : (e : LifetimeEnv) {v : Verdict} → v ≡ judged (env_checks e) → v ≡ Ok (tt {0}) → NoneDue (env_checks e)
valid e p q = accepted_none (tt {0}) (env_checks e) (sym p ∙ q)

module _ (e : LifetimeEnv) (types : List ℕ) {v : Verdict} (shape : v ≡ shape_verdict (types_in_shape types)) where
  pub extend_malformed : {x : Refusal} → v ≡ Err x → Err x ≡ extend_implied e types
  unfolding extend_implied unless
  extend_malformed q = let o = off_shape shape q in rw (o.0, o.1)

  module _ (good : v ≡ Ok (tt {0})) where
    pub extend_shaped : types_in_shape types ≡ true
    extend_shaped = in_shape shape good

    pub extend_invalid : {w : Verdict} {x : Refusal} → w ≡ judged (env_checks e) → w ≡ Err x → Err x ≡ extend_implied e types
    unfolding extend_implied
    extend_invalid {w} {x} p q =
        let due : FirstDue x (extend_checks e types) =
        later {c = refusals.check (not (types_in_shape types)) Malformed} (rw extend_shaped)
        (first_more _ (refused_first (tt {0}) x (env_checks e) (sym p ∙ q))) in
        sym (due_refused (extended_with e types) due)

    module _ (full : length e.names ≡ 32) (whole : length e.bounds.list ≡ 256) {w : Verdict} (p : w ≡ judged (env_checks e))
        (q : w ≡ Ok (tt {0})) {d : LifetimeEnv} (is : d ≡ named_env (names_of e) (bounds_of e)) where
      stands : StandsIn (so_far_of e) d
      stands = cleared_stands e full whole (valid e p q) is

      pub extend_stands : StandsIn (so_far_of d) d
      extend_stands = stands_here stands

      outcome : over env_of (fold step (so_far_of d) (all_paths types)) ≡ extend_implied e types
      unfolding extend_implied
      outcome =
          let few : e.bounds.pushed ≤ 256 = ltb-false 256 e.bounds.pushed (none_first (none_rest (valid e p q))) in
          let count : length (bounds_of e) ≡ e.bounds.pushed = length-take-le e.bounds.pushed e.bounds.list (rw whole few) in
          let front : NoneDue (refusals.check (not (types_in_shape types)) Malformed ∷ env_checks e) =
          next (rw extend_shaped) (valid e p q) in
          rw (stands_same stands, fold_types (names_of e) (bounds_of e) (type_names_of types), count)
          (unless_over env_of (so_far (names_of e) (bounds_of e ++ bounds_for (names_of e) (implied_on e types)))
          (all_pair_checks (names_of e) e.bounds.pushed (implied_on e types))
          ∙ sym (unless_after (extended_with e types) (all_pair_checks (names_of e) e.bounds.pushed (implied_on e types)) front))

      module _ {d₁ : LifetimeEnv} {r : Verdict} (l : Leaves (fold step (so_far_of d) (all_paths types)) d₁ r) where
        pub extend_refused : {x : Refusal} → r ≡ Err x → Err x ≡ extend_implied e types
        extend_refused k = sym (ap (over env_of) (leaves_refused l k)) ∙ outcome

        pub extend_given : r ≡ Ok (tt {0}) → Ok d₁ ≡ extend_implied e types
        extend_given k =
            let g = leaves_stands l k in
            ap (λ (x : LifetimeEnv). Ok x) g.1.is ∙ sym (ap (over env_of) g.0) ∙ outcome
