-- The sets of those that outlive each lifetime: with no bound, with one bound more (the loop of `join`), with all
-- bounds of an environment (the loop of `of`).
use Prim.Native.Nat.{ℕ, ◌+◌, ◌≤◌, ◌<◌}
use mathlib.Core.Bool.{Bool, true, false, cond, ◌||◌, true≢false}
use mathlib.Core.Path.{◌≡◌, refl, sym, subst, ◌∙◌}
use mathlib.Core.Logic.{◌⊎◌, inl, inr, ⊎_elim, ◌↔◌}
use mathlib.Core.List.Memᴰ
use mathlib.Core.List.{List, [], ◌∷◌, ◌++◌}
use native.Mathlib.Decide.{ℕ_discrete}
use native.Mathlib.Omega.{arith}
use native.Mathlib.Numerals.{add-one}
use lib.ListN.{length, get_or, take, set, length-set}
use lib.Seq.{get_or-set_same, get_or-set_other, take-suc}
use Rattle.lifetimes.specs.declared.bounds.Bound.{Bound}
use Rattle.lifetimes.specs.Sets.{empty, member, insert, union}
use Rattle.lifetimes.specs.Bounds.{above}
use Rattle.lifetimes.specs.Outlives.{Outlives, itself}
use Rattle.lifetimes.proofs.SetLaws.{member_empty, member_insert_same, member_insert_true, member_union}
use Rattle.lifetimes.proofs.OutlivesLaws.{least, outlives_added}
use Rattle.ast_lifetimes.specs.Inner.{OutliveSets}

-- with no bound each outlives itself only
alone : {x y : ℕ} → Outlives [] x y → x ≡ y
alone = least [] (λ x y. x ≡ y) (λ x. refl) (λ x y z p q. p ∙ q) (λ b k. absurd (Memᴰ.not-nil k))

pub reaches_none : (named : ℕ) (reach : List ℕ) → ((x : ℕ) → x < named → get_or reach x 0 ≡ insert empty x) → OutliveSets [] named reach
reaches_none named reach h a i b = (there, back)
  where
    there : member (get_or reach a 0) b ≡ true → Outlives [] b a
    there m =
        ⊎_elim (λ e. subst (λ (z : ℕ). Outlives [] z a) e itself) (λ k. absurd (true≢false (sym k ∙ member_empty b)))
        (member_insert_true empty a b (rw (h a i) at m))

    back : Outlives [] b a → member (get_or reach a 0) b ≡ true
    back o = rw (h a i, alone o) (member_insert_same empty a)

-- one set with one bound more, long above short
unfoldable pub joined_at : List ℕ → ℕ → ℕ → ℕ → ℕ
joined_at before long short x = cond (member (get_or before x 0) short) (union (get_or before x 0) (get_or before long 0)) (get_or before x 0)

either : (s t b : ℕ) → (member (union s t) b ≡ true) ↔ ((member s b ≡ true) ⊎ (member t b ≡ true))
either s t b = rw (member_union s t b) (split (member s b) (member t b))
  where
    split : (p q : Bool) → (p || q ≡ true) ↔ ((p ≡ true) ⊎ (q ≡ true))
    split true q = (λ h. inl refl, λ h. refl)
    split false q = (λ h. inr h, λ h. ⊎_elim (λ e. absurd (true≢false (sym e))) (λ e. e) h)

pub reaches_joined : (named long short : ℕ) (before after : List ℕ) → long < named
    → ((x : ℕ) → x < named → get_or after x 0 ≡ joined_at before long short x)
    → (bs : List Bound) → OutliveSets bs named before → OutliveSets (bs ++ (above long short ∷ [])) named after
unfolding joined_at
reaches_joined named long short before after inside h bs r a i b = rw (h a i) (go (member (get_or before a 0) short) refl)
  where
    added : Outlives (bs ++ (above long short ∷ [])) b a ↔ (Outlives bs b a ⊎ (Outlives bs short a × Outlives bs b long))
    added = outlives_added bs (above long short) b a

    go : (t : Bool) → member (get_or before a 0) short ≡ t
        → (member (cond t (union (get_or before a 0) (get_or before long 0)) (get_or before a 0)) b ≡ true)
        ↔ Outlives (bs ++ (above long short ∷ [])) b a
    go true m = (
      λ k. added.1
          (⊎_elim (λ u. inl ((r a i b).0 u)) (λ u. inr ((r a i short).0 m, (r long inside b).0 u))
          ((either (get_or before a 0) (get_or before long 0) b).0 k)),
      λ o. (either (get_or before a 0) (get_or before long 0) b).1
          (⊎_elim (λ u. inl ((r a i b).1 u)) (λ u. inr ((r long inside b).1 u.1)) (added.0 o)),
    )
    go false m = (
      λ k. added.1 (inl ((r a i b).0 k)),
      λ o. ⊎_elim (λ u. (r a i b).1 u) (λ u. absurd (true≢false (sym ((r a i short).1 u.0) ∙ m))) (added.0 o),
    )

-- the loop of `join`: the sets of the first x lifetimes have the bound, the others are as they were
pub record Joining (long short : ℕ) (before now : List ℕ) (x : ℕ) : Type 0 where
  pub size : length now ≡ 32
  pub done : (j : ℕ) → j < x → get_or now j 0 ≡ joined_at before long short j
  pub left : (j : ℕ) → x ≤ j → get_or now j 0 ≡ get_or before j 0

module _ {long short : ℕ} {before now : List ℕ} {x : ℕ} (inv : Joining long short before now x) where
  -- a set that does not hold the shorter side stays
  pub joining_stays : member (get_or now x 0) short ≡ false → Joining long short before now (x + 1)
  unfolding joined_at
  joining_stays m = record {
    size = inv.size;
    done = λ j h. elim (ℕ_discrete j x) [
      | yes e ↦ rw (e, inv.left x (omega arith), (rw (inv.left x (omega arith)) at m))
      | no e ↦ inv.done j (omega arith)
    ];
    left = λ j h. inv.left j (omega arith);
  }

  pub joining_joins : x < 32 → member (get_or now x 0) short ≡ true → (joined : ℕ) → joined ≡ get_or before long 0
      → Joining long short before (set now x (union (get_or now x 0) joined)) (x + 1)
  unfolding joined_at
  joining_joins small m joined e = record {
    size = length-set now x _ ∙ inv.size;
    done = λ j h. elim (ℕ_discrete j x) [
      | yes q ↦
          rw (
            q,
            get_or-set_same now x (union (get_or now x 0) joined) 0 (omega (arith, inv.size)),
            inv.left x (omega arith),
            (rw (inv.left x (omega arith)) at m),
            e,
          )
      | no q ↦ rw (get_or-set_other now x j (union (get_or now x 0) joined) 0 q) (inv.done j (omega arith))
    ];
    left = λ j h. rw (get_or-set_other now x j (union (get_or now x 0) joined) 0 (λ q. omega arith)) (inv.left j (omega arith));
  }

  pub joining_end : (named : ℕ) → named ≤ x → long < named
      → (bs : List Bound) → OutliveSets bs named before → OutliveSets (bs ++ (above long short ∷ [])) named now
  joining_end named h inside = reaches_joined named long short before now inside (λ j k. inv.done j (omega arith))

-- the loop of `each_itself`
pub record Starting (now : List ℕ) (x : ℕ) : Type 0 where
  pub size : length now ≡ 32
  pub done : (j : ℕ) → j < x → get_or now j 0 ≡ insert empty j

-- the loop of `of`: the sets of the first bounds
pub reaching_more : (named i : ℕ) (bounds : List Bound) (before after : List ℕ) → i < length bounds
    → ((bs : List Bound) → OutliveSets bs named before → OutliveSets (bs ++ (get_or bounds i (above 0 0) ∷ [])) named after)
    → OutliveSets (take i bounds) named before → OutliveSets (take (i + 1) bounds) named after
reaching_more named i bounds before after h joins r = rw (add-one i, take-suc bounds i (above 0 0) h) (joins (take i bounds) r)
