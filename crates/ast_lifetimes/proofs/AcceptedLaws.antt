-- What `from_method_item` gives is an environment on which nothing is due: the names are at most 32, the bounds at most
-- 256, each between names.
use Prim.Native.Nat.{ℕ, suc, ◌+◌, ◌≤◌}
use mathlib.Core.Bool.{true, not}
use mathlib.Core.Path.{◌≡◌, refl, ap}
use mathlib.Core.List.{List, [], ◌∷◌, ◌++◌}
use native.Mathlib.Omega.{arith}
use borrow.Author.Tests.{leb-false, le-ltb, not-false}
use lib.ListN.{length, length-append, length-map}
use lib.Seq.{take-append_seam}
use Rattle.answers.specs.Lists.{all}
use Rattle.answers.specs.Refusals.{NoneDue, next, end}
use Rattle.lifetimes.specs.Bounds.{all_below, bounds_from}
use Rattle.answers.proofs.RefusalLaws.{none_first, none_rest, none_split}
use Rattle.ast_lifetimes.specs.Shapes.{impl_names, method_names, Pair, impl_pairs, method_pairs}
use Rattle.ast_lifetimes.specs.Env.{is_declared, name_checks, all_pair_checks, bounds_for, names_of, bounds_of, named_env, env_checks, all_names_of}
use Rattle.ast_lifetimes.specs.Env.{implied_pairs, item_place_checks, method_bounds}
use Rattle.lifetimes.proofs.BoundsLaws.{below_larger, below_append, bounds_made}

names_few : (before names : List ℕ) → NoneDue (name_checks before names) → length before ≤ 32 → length before + length names ≤ 32
unfolding name_checks
names_few before [] n h = omega arith
names_few before (name ∷ names) n h =
    let k = leb-false 32 (length before) (none_first n) in
    let e = length-append before (name ∷ []) in
    let m = names_few (before ++ (name ∷ [])) names (none_rest (none_rest n)) (omega (arith, k, e)) in
    omega (arith, m, e)

pairs_few : (names : List ℕ) (pushed : ℕ) (ps : List Pair) → NoneDue (all_pair_checks names pushed ps) → pushed ≤ 256
    → pushed + length ps ≤ 256
unfolding all_pair_checks
pairs_few names pushed [] n h = omega arith
pairs_few names pushed (p ∷ ps) n h =
    let k = leb-false 256 pushed (none_first (none_rest (none_rest n))) in
    let m = pairs_few names (suc pushed) ps (none_rest (none_rest (none_rest n))) (omega (arith, k)) in
    omega (arith, m)

-- accepted pairs are between names
pairs_below : (names : List ℕ) (pushed : ℕ) (ps : List Pair) → NoneDue (all_pair_checks names pushed ps)
    → all_below (length names) (bounds_for names ps) ≡ true
unfolding all_pair_checks all
pairs_below names pushed [] d = refl
pairs_below names pushed (p ∷ ps) (next a (next b (next c d))) =
    rw (not-false (is_declared names p.longer) a, not-false (is_declared names p.shorter) b)
    (pairs_below names (suc pushed) ps d)

module _ (names bounds types : List ℕ) (n : NoneDue (item_place_checks names bounds types)) where
  abbrev impls : ℕ
  impls = length (impl_pairs bounds)

  abbrev owns : ℕ
  owns = length (method_pairs bounds)

  parts : NoneDue (name_checks [] (impl_names names))
      × NoneDue (all_pair_checks (impl_names names) 0 (impl_pairs bounds))
      × NoneDue (name_checks (impl_names names) (method_names names))
      × NoneDue (all_pair_checks (all_names_of names) impls (method_pairs bounds))
      × NoneDue (all_pair_checks (all_names_of names) (impls + owns) (implied_pairs names bounds types))
  parts =
      let p = none_split (name_checks [] (impl_names names)) _ n in
      let q = none_split (all_pair_checks (impl_names names) 0 (impl_pairs bounds)) _ p.1 in
      let r = none_split (name_checks (impl_names names) (method_names names)) _ q.1 in
      let s = none_split (all_pair_checks (all_names_of names) impls (method_pairs bounds)) _ r.1 in
      (p.0, q.0, r.0, s.0, s.1)

  pub accepted_names : length (all_names_of names) ≤ 32
  accepted_names =
      let i = names_few [] (impl_names names) parts.0 (omega arith) in
      rw length-append (names_few (impl_names names) (method_names names) parts.2 (omega (arith, i)))

  accepted_pushed : length (method_bounds names bounds types) ≤ 256
  accepted_pushed =
      let a = pairs_few (impl_names names) 0 (impl_pairs bounds) parts.1 (omega arith) in
      let b = pairs_few (all_names_of names) impls (method_pairs bounds) parts.3 (omega (arith, a)) in
      let c = pairs_few (all_names_of names) (impls + owns) (implied_pairs names bounds types) parts.4 (omega (arith, b)) in
      rw (length-append, length-append, length-map, length-map, length-map) c

  accepted_below : all_below (length (all_names_of names)) (method_bounds names bounds types) ≡ true
  accepted_below =
      let wide : length (impl_names names) ≤ length (all_names_of names) = rw length-append (omega arith) in
      below_append _ _ _
      (below_append _ _ _
      (below_larger _ _ wide _ (pairs_below (impl_names names) 0 (impl_pairs bounds) parts.1))
      (pairs_below (all_names_of names) impls (method_pairs bounds) parts.3))
      (pairs_below (all_names_of names) (impls + owns) (implied_pairs names bounds types) parts.4)

  pub accepted_names_of : names_of (named_env (all_names_of names) (method_bounds names bounds types)) ≡ all_names_of names
  unfolding named_env
  accepted_names_of = take-append_seam (all_names_of names) _

  pub accepted_bounds_of : bounds_of (named_env (all_names_of names) (method_bounds names bounds types)) ≡ method_bounds names bounds types
  unfolding named_env
  accepted_bounds_of = bounds_made (method_bounds names bounds types)

  pub accepted_valid : NoneDue (env_checks (named_env (all_names_of names) (method_bounds names bounds types)))
  unfolding named_env bounds_from
  accepted_valid =
      let below : all_below (length (all_names_of names))
      (bounds_of (named_env (all_names_of names) (method_bounds names bounds types))) ≡ true =
      rw accepted_bounds_of accepted_below in
      next (le-ltb 32 (length (all_names_of names)) accepted_names)
      (next (le-ltb 256 (length (method_bounds names bounds types)) accepted_pushed) (next (ap not below) end))
