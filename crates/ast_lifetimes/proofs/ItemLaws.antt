-- `from_method_item` stage by stage: what records in shape say, and what is left of a method's entries after each stage.
use Rattle.std.specs.Prelude.{Ok, Err}
use Prim.Native.Nat.{ℕ, zero, suc, ◌+◌, ◌-◌, ◌*◌, ◌/◌, ◌%◌, ◌≤◌, ◌<◌}
use mathlib.Core.Bool.{true, ◌&&◌, and-eq-true_iff}
use mathlib.Core.Path.{◌≡◌, refl, sym, ap, ◌∙◌}
use mathlib.Core.List.{List, [], ◌∷◌, ◌++◌, map}
use native.Mathlib.Omega.{arith}
use borrow.Author.Tests.{leb-true}
use lib.Dec.{eqb, leb}
use lib.ListN.{length, get_or, take, drop}
use lib.Seq.{take-nil, drop-nil}
use Rattle.std.specs.List.{between}
use Rattle.std.proofs.lemmas.Slice.{between_to_end}
use Rattle.answers.specs.declared.Refusal.{Refusal}
use Rattle.answers.specs.Lists.{all}
use Rattle.answers.specs.Refusals.{unless, Outcome, Verdict}
use Rattle.records.specs.Reading.{shape_verdict, few_words}
use Rattle.lifetimes.specs.Bounds.{bounds_from}
use Rattle.ast_lifetimes.specs.declared.env.LifetimeEnv.{LifetimeEnv}
use Rattle.ast_lifetimes.specs.Shapes.{is_name, names_in_shape, impl_names, method_names, pairs_of}
use Rattle.ast_lifetimes.specs.Shapes.{bounds_in_shape, impl_pairs, method_pairs}
use Rattle.ast_lifetimes.specs.Types.{types_in_shape}
use Rattle.ast_lifetimes.specs.Env.{named_env, from_method_item}
use Rattle.ast_lifetimes.specs.Entries.{Name, Bounded, all_paths, entries, SoFar, so_far, fold, declare, push_pair}
use Rattle.ast_lifetimes.specs.Entries.{step}
use Rattle.ast_lifetimes.specs.Inner.{so_far_of, StandsIn, Leaves}
use Rattle.ast_lifetimes.proofs.EnvLaws.{in_shape, off_shape}
use Rattle.ast_lifetimes.proofs.EntryLaws.{fold_named, fold_bounded, built_in_order}
use Rattle.ast_lifetimes.proofs.StandsLaws.{stands_here, leaves_same, leaves_stands, leaves_refused, Folding, folding_part}
use Rattle.ast_lifetimes.proofs.StandsLaws.{folding_part_refused}

-- ---- what records in shape say

-- the record `names`: the impl's names, then the method's
pub record NamesSay (names : List ℕ) : Type 0 where
  pub some : 0 < length names
  pub few : length names ≤ 1024
  pub fits : 1 + get_or names 0 0 ≤ length names
  pub impl : between 1 (1 + get_or names 0 0) names ≡ impl_names names
  pub method : between (1 + get_or names 0 0) (length names) names ≡ method_names names

names_say : (names : List ℕ) → names_in_shape names ≡ true → NamesSay names
unfolding names_in_shape
names_say [] e = let z : ◌≡◌ {A = ℕ} 0 1 = cc in absurd (omega arith)
names_say (w ∷ ws) e =
    let p = (and-eq-true_iff (few_words (w ∷ ws)) (leb w (length ws) && all is_name ws)).0 e in
    let few : length (w ∷ ws) ≤ 1024 = leb-true (length (w ∷ ws)) 1024 p.0 in
    let fits : w ≤ length ws = leb-true w (length ws) ((and-eq-true_iff (leb w (length ws)) (all is_name ws)).0 p.1).0 in
    let a : 1 + w - 1 ≡ w = omega arith in
    let b : 1 + w ≡ suc w = omega arith in
    record {
      some = omega arith;
      few = few;
      fits = omega arith;
      impl = rw a;
      method = between_to_end (w ∷ ws) (1 + w) (length (w ∷ ws)) (omega arith) ∙ rw b;
    }

-- pairs of the first words, and of the others
pairs_take : (n : ℕ) (words : List ℕ) → pairs_of (take (2 * n) words) ≡ take n (pairs_of words)
unfolding pairs_of
pairs_take zero words = refl
pairs_take (suc n) [] = rw (take-nil {A = ℕ} (2 * suc n))
pairs_take (suc n) (l ∷ []) = let e : 2 * suc n ≡ suc (suc (2 * n)) = omega arith in rw e
pairs_take (suc n) (l ∷ s ∷ words) = let e : 2 * suc n ≡ suc (suc (2 * n)) = omega arith in rw (e, pairs_take n words)

pairs_drop : (n : ℕ) (words : List ℕ) → pairs_of (drop (2 * n) words) ≡ drop n (pairs_of words)
unfolding pairs_of
pairs_drop zero words = refl
pairs_drop (suc n) [] = rw (drop-nil {A = ℕ} (2 * suc n))
pairs_drop (suc n) (l ∷ []) = let e : 2 * suc n ≡ suc (suc (2 * n)) = omega arith in rw e
pairs_drop (suc n) (l ∷ s ∷ words) = let e : 2 * suc n ≡ suc (suc (2 * n)) = omega arith in rw (e, pairs_drop n words)

-- the record `bounds`: the impl's pairs, then the method's
pub record BoundsSay (bounds : List ℕ) : Type 0 where
  pub some : 0 < length bounds
  pub few : length bounds ≤ 1024
  pub fits : 1 + 2 * get_or bounds 0 0 ≤ length bounds
  pub impl : pairs_of (between 1 (1 + 2 * get_or bounds 0 0) bounds) ≡ impl_pairs bounds
  pub method : pairs_of (between (1 + 2 * get_or bounds 0 0) (length bounds) bounds) ≡ method_pairs bounds

bounds_say : (bounds : List ℕ) → bounds_in_shape bounds ≡ true → BoundsSay bounds
unfolding bounds_in_shape
bounds_say [] e = let z : ◌≡◌ {A = ℕ} 0 1 = cc in absurd (omega arith)
bounds_say (f ∷ ws) e =
    let p = (and-eq-true_iff (few_words (f ∷ ws)) (eqb (length ws % 2) 0 && leb f (length ws / 2))).0 e in
    let q = (and-eq-true_iff (eqb (length ws % 2) 0) (leb f (length ws / 2))).0 p.1 in
    let few : length (f ∷ ws) ≤ 1024 = leb-true (length (f ∷ ws)) 1024 p.0 in
    let fits : f ≤ length ws / 2 = leb-true f (length ws / 2) q.1 in
    let a : 1 + 2 * f - 1 ≡ 2 * f = omega arith in
    let b : 1 + 2 * f ≡ suc (2 * f) = omega arith in
    record {
      some = omega arith;
      few = few;
      fits = omega arith;
      impl = rw a (pairs_take f ws);
      method = ap pairs_of (between_to_end (f ∷ ws) (1 + 2 * f) (length (f ∷ ws)) (omega arith)) ∙ rw b (pairs_drop f ws);
    }

pub record Shaped (names bounds types : List ℕ) : Type 0 where
  pub in_names : NamesSay names
  pub in_bounds : BoundsSay bounds
  pub in_types : types_in_shape types ≡ true
  pub all : names_in_shape names && (bounds_in_shape bounds && types_in_shape types) ≡ true

pub shaped : (names bounds types : List ℕ) → names_in_shape names && (bounds_in_shape bounds && types_in_shape types) ≡ true
    → Shaped names bounds types
shaped names bounds types e =
    let p = (and-eq-true_iff (names_in_shape names) (bounds_in_shape bounds && types_in_shape types)).0 e in
    let q = (and-eq-true_iff (bounds_in_shape bounds) (types_in_shape types)).0 p.1 in
    record { in_names = names_say names p.0; in_bounds = bounds_say bounds q.0; in_types = q.1; all = e }

-- ---- the shapes: the first record that is not in shape refuses

module _ (names bounds types : List ℕ) {v : Verdict} (e : v ≡ shape_verdict (names_in_shape names)) where
  pub item_names : {x : Refusal} → v ≡ Err x → Err x ≡ from_method_item names bounds types
  unfolding from_method_item unless
  item_names k = let o = off_shape e k in rw (o.0, o.1)

  module _ (k : v ≡ Ok (tt {0})) {w : Verdict} (f : w ≡ shape_verdict (bounds_in_shape bounds)) where
    pub item_bounds : {x : Refusal} → w ≡ Err x → Err x ≡ from_method_item names bounds types
    unfolding from_method_item unless
    item_bounds l = let o = off_shape f l in rw (in_shape e k, o.0, o.1)

    module _ (l : w ≡ Ok (tt {0})) {u : Verdict} (g : u ≡ shape_verdict (types_in_shape types)) where
      pub item_types : {x : Refusal} → u ≡ Err x → Err x ≡ from_method_item names bounds types
      unfolding from_method_item unless
      item_types m = let o = off_shape g m in rw (in_shape e k, in_shape f l, o.0, o.1)

-- ---- the stages: what is left of the entries, done from here, gives what all give from the start

module _ {names bounds types : List ℕ} (sh : Shaped names bounds types) where
  abbrev whole : Outcome SoFar
  whole = fold step (so_far [] []) (entries names bounds types)

  refused : {x : Refusal} → whole ≡ Err x → Err x ≡ from_method_item names bounds types
  refused q = sym (built_in_order names bounds types sh.all ∙ rw q)

  module _ {e₀ : LifetimeEnv} (none : e₀ ≡ named_env [] []) where
    pub item_stands : StandsIn (so_far_of e₀) e₀
    unfolding all bounds_from
    item_stands = stands_here (record { is = none; few_names = omega arith; few_bounds = omega arith; below = refl })

    start : Folding step whole (entries names bounds types) e₀
    unfolding named_env bounds_from
    start = record { stands = item_stands; rest = rw none }

    module _ {e₁ : LifetimeEnv} {r₁ : Verdict} (d : Leaves (fold declare (so_far_of e₀) (between 1 (1 + get_or names 0 0) names)) e₁ r₁) where
      named : Leaves (fold step (so_far_of e₀) (map Name (impl_names names))) e₁ r₁
      named = leaves_same (ap (fold declare (so_far_of e₀)) sh.in_names.impl ∙ sym (fold_named (so_far_of e₀) (impl_names names))) d

      pub item_named_refused : {x : Refusal} → r₁ ≡ Err x → Err x ≡ from_method_item names bounds types
      item_named_refused q = refused (folding_part_refused start (map Name (impl_names names)) _ refl named q)

      module _ (ok₁ : r₁ ≡ Ok (tt {0})) where
        one : Folding step whole (map Bounded (impl_pairs bounds)
            ++ (map Name (method_names names) ++ (map Bounded (method_pairs bounds) ++ all_paths types))) e₁
        one = folding_part start (map Name (impl_names names)) _ refl named ok₁

        pub item_named : StandsIn (so_far_of e₁) e₁
        item_named = one.stands

        module _ {e₂ : LifetimeEnv} {r₂ : Verdict}
            (p : Leaves (fold push_pair (so_far_of e₁) (pairs_of (between 1 (1 + 2 * get_or bounds 0 0) bounds))) e₂ r₂) where
          bound : Leaves (fold step (so_far_of e₁) (map Bounded (impl_pairs bounds))) e₂ r₂
          bound = leaves_same (ap (fold push_pair (so_far_of e₁)) sh.in_bounds.impl
              ∙ sym (fold_bounded (so_far_of e₁) (impl_pairs bounds))) p

          pub item_bound_refused : {x : Refusal} → r₂ ≡ Err x → Err x ≡ from_method_item names bounds types
          item_bound_refused q = refused (folding_part_refused one (map Bounded (impl_pairs bounds)) _ refl bound q)

          module _ (ok₂ : r₂ ≡ Ok (tt {0})) where
            two : Folding step whole (map Name (method_names names) ++ (map Bounded (method_pairs bounds) ++ all_paths types)) e₂
            two = folding_part one (map Bounded (impl_pairs bounds)) _ refl bound ok₂

            pub item_bound : StandsIn (so_far_of e₂) e₂
            item_bound = two.stands

            module _ {e₃ : LifetimeEnv} {r₃ : Verdict}
                (d₃ : Leaves (fold declare (so_far_of e₂) (between (1 + get_or names 0 0) (length names) names)) e₃ r₃) where
              renamed : Leaves (fold step (so_far_of e₂) (map Name (method_names names))) e₃ r₃
              renamed = leaves_same (ap (fold declare (so_far_of e₂)) sh.in_names.method
                  ∙ sym (fold_named (so_far_of e₂) (method_names names))) d₃

              pub item_renamed_refused : {x : Refusal} → r₃ ≡ Err x → Err x ≡ from_method_item names bounds types
              item_renamed_refused q = refused (folding_part_refused two (map Name (method_names names)) _ refl renamed q)

              module _ (ok₃ : r₃ ≡ Ok (tt {0})) where
                three : Folding step whole (map Bounded (method_pairs bounds) ++ all_paths types) e₃
                three = folding_part two (map Name (method_names names)) _ refl renamed ok₃

                pub item_renamed : StandsIn (so_far_of e₃) e₃
                item_renamed = three.stands

                module _ {e₄ : LifetimeEnv} {r₄ : Verdict}
                    (p₄ : Leaves (fold push_pair (so_far_of e₃) (pairs_of (between (1 + 2 * get_or bounds 0 0) (length bounds) bounds))) e₄ r₄) where
                  rebound : Leaves (fold step (so_far_of e₃) (map Bounded (method_pairs bounds))) e₄ r₄
                  rebound = leaves_same (ap (fold push_pair (so_far_of e₃)) sh.in_bounds.method
                      ∙ sym (fold_bounded (so_far_of e₃) (method_pairs bounds))) p₄

                  pub item_rebound_refused : {x : Refusal} → r₄ ≡ Err x → Err x ≡ from_method_item names bounds types
                  item_rebound_refused q = refused (folding_part_refused three (map Bounded (method_pairs bounds)) _ refl rebound q)

                  module _ (ok₄ : r₄ ≡ Ok (tt {0})) where
                    four : Folding step whole (all_paths types) e₄
                    four = folding_part three (map Bounded (method_pairs bounds)) _ refl rebound ok₄

                    pub item_rebound : StandsIn (so_far_of e₄) e₄
                    item_rebound = four.stands

                    module _ {e₅ : LifetimeEnv} {r₅ : Verdict} (i : Leaves (fold step (so_far_of e₄) (all_paths types)) e₅ r₅) where
                      pub item_implied_refused : {x : Refusal} → r₅ ≡ Err x → Err x ≡ from_method_item names bounds types
                      item_implied_refused q = refused (sym four.rest ∙ leaves_refused i q)

                      pub item_given : r₅ ≡ Ok (tt {0}) → Ok e₅ ≡ from_method_item names bounds types
                      item_given ok₅ =
                          let g = leaves_stands i ok₅ in
                          sym (built_in_order names bounds types sh.all ∙ rw (sym four.rest ∙ g.0) (ap (λ (e : LifetimeEnv). Ok e) (sym g.1.is)))
