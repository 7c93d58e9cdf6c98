-- Steps in a record: the ways out of `read_step`, and where a step ends that stands somewhere.
use Rattle.std.specs.Prelude.{Some, None, Option, Ok, Err}
use Rattle.std.specs.Option.{ok_or}
use Prim.Native.Nat.{ℕ, suc, ◌+◌, ◌-◌, ◌≤◌, ◌<◌}
use mathlib.Core.Path.{◌≡◌, sym, ap, subst, ◌∙◌}
use mathlib.Core.List.{List, ◌∷◌, ◌++◌}
use native.Mathlib.Numerals.{add-one}
use native.Mathlib.Omega.{arith}
use borrow.Author.Tests.{eq-eqb, ne_eqb, le-leb, lt-leb}
use lib.ListN.{length, get_or, take, drop, length-append, length-drop, drop_of_length-le}
use lib.Seq.{drop-cons, take_at}
use Rattle.answers.specs.declared.Refusal.{Refusal}
use Rattle.answers.specs.Refusals.{Outcome}
use Rattle.records.specs.Reading.{Reading, Read, onward, read_lifetimes}
use Rattle.records.specs.Ends.{EndsAt, ends, missing}
use Rattle.records.proofs.ReadingLaws.{Holds, LifetimesIn, holds_read, lifetimes_read}
use Rattle.ast_lifetimes.proofs.OptionLaws.{ok_or_missing, ok_or_found}
use Rattle.elision.specs.declared.steps.StepAt.{StepAt}
use Rattle.elision.specs.declared.steps.StepAt.TheVariants as standing
use Rattle.elision.specs.Steps.{Step, Generics, SelfType, read_step}
use Rattle.elision.specs.Inner.{StandsAt, step_end}
use Rattle.elision.specs.Inner as inner

-- a run of words between two places
part_between : (f t : ℕ) (words ls : List ℕ) → drop f words ≡ ls ++ drop t words → f ≤ t → t ≤ length words
    → take (t - f) (drop f words) ≡ ls
part_between f t words ls e h k =
    let size : length words - f ≡ length ls + (length words - t) =
    sym (length-drop f words) ∙ ap length e ∙ length-append ls (drop t words) ∙ ap (λ (n : ℕ). length ls + n) (length-drop t words) in
    ap (take (t - f)) e ∙ take_at ls (drop t words) (t - f) (omega arith)

-- a list of lifetimes stands behind its count
lifetimes_slice : (words : List ℕ) (p to : ℕ) (ls rest : List ℕ) → length ls ∷ (ls ++ rest) ≡ drop p words
    → drop to words ≡ rest → p < to → to ≤ length words → take (to - (p + 1)) (drop (p + 1) words) ≡ ls
lifetimes_slice words p to ls rest q d b e =
    let behind : drop (suc p) words ≡ ls ++ drop to words = ap (drop 1) (sym (drop-cons words p 0 (omega arith)) ∙ sym q) ∙ rw d in
    rw (add-one p) (part_between (suc p) to words ls behind (omega arith) e)

self_there : {words : List ℕ} {at p to : ℕ} {reading : Reading (List ℕ)} → at ≤ p → EndsAt words p reading (Some to)
    → Holds (LifetimesIn (drop p words)) reading
    → StandsAt words at (onward reading (λ ls rest. Read (SelfType ls) rest)) (Some (standing.SelfType (p + 1) to))
self_there {words} {at} {p} {to} l (ends {a} {rest} d b e) h =
    inner.self_type {from = p + 1} {to = to}
    (lifetimes_slice words p to a rest (holds_read (LifetimesIn (drop p words)) a rest h) d b e) d (omega arith)
    (omega arith) e

self_missing : {words : List ℕ} {at p : ℕ} {reading : Reading (List ℕ)} → EndsAt words p reading None
    → StandsAt words at (onward reading (λ ls rest. Read (SelfType ls) rest)) None
self_missing missing = inner.missing

generics_there : (g : ℕ) {words : List ℕ} {at p to : ℕ} {reading : Reading (List ℕ)} → at ≤ p
    → EndsAt words p reading (Some to) → Holds (LifetimesIn (drop p words)) reading
    → StandsAt words at (onward reading (λ ls rest. Read (Generics g ls) rest)) (Some (standing.Generics g (p + 1) to))
generics_there g {words} {at} {p} {to} l (ends {a} {rest} d b e) h =
    inner.generics {from = p + 1} {to = to}
    (lifetimes_slice words p to a rest (holds_read (LifetimesIn (drop p words)) a rest h) d b e) d (omega arith)
    (omega arith) e

generics_missing : (g : ℕ) {words : List ℕ} {at p : ℕ} {reading : Reading (List ℕ)} → EndsAt words p reading None
    → StandsAt words at (onward reading (λ ls rest. Read (Generics g ls) rest)) None
generics_missing g missing = inner.missing

module _ (words : List ℕ) (at : ℕ) where
  abbrev Stands : Option StepAt → Type 0
  Stands r = StandsAt words at (read_step (drop at words)) r

  pub step_none : length words ≤ at → Stands None
  unfolding read_step
  step_none h = rw (drop_of_length-le words {i = at} h) inner.missing

  module _ (h : at < length words) where
    pub lifetime_short : get_or words at 0 ≡ 0 → length words ≤ at + 1 → Stands None
    unfolding read_step
    lifetime_short k m =
        rw (drop-cons words at 0 h, eq-eqb (get_or words at 0) 0 k, drop_of_length-le words {i = suc at} (omega arith))
        inner.missing

    pub lifetime_there : get_or words at 0 ≡ 0 → at + 1 < length words → Stands (Some (standing.Lifetime (get_or words (at + 1) 0) (at + 1 + 1)))
    unfolding read_step
    lifetime_there k m =
        let e : drop (suc at + 1) words ≡ drop (suc (suc at)) words = rw (add-one (suc at)) in
        let back : suc at + 1 - 1 ≡ suc at = omega arith in
        let word : drop (suc at + 1 - 1) words ≡ get_or words (suc at) 0 ∷ drop (suc (suc at)) words =
        rw back (drop-cons words (suc at) 0 (omega arith)) in
        rw (drop-cons words at 0 h, eq-eqb (get_or words at 0) 0 k, drop-cons words (suc at) 0 (omega arith), add-one at)
        (inner.lifetime {to = suc at + 1} {rest = drop (suc (suc at)) words} word e (omega arith) (omega arith))

    module _ (k : get_or words at 0 ≡ 1) where
      pub generics_short : length words ≤ at + 1 → Stands None
      unfolding read_step
      generics_short m = rw (drop-cons words at 0 h, k, drop_of_length-le words {i = suc at} (omega arith)) inner.missing

      module _ (m : at + 1 < length words) where
        pub generics_many : 16 < get_or words (at + 1) 0 → Stands None
        unfolding read_step
        generics_many g =
            let g₁ : 16 < get_or words (suc at) 0 = rw (add-one at) at g in
            rw (
              drop-cons words at 0 h,
              k,
              drop-cons words (suc at) 0 (omega arith),
              lt-leb (get_or words (suc at) 0) 16 g₁,
            ) inner.missing

        pub generics_none : get_or words (at + 1) 0 ≤ 16
            → EndsAt words (at + 1 + 1) (read_lifetimes (drop (at + 1 + 1) words)) None → Stands None
        unfolding read_step
        generics_none g r =
            let g₁ : get_or words (suc at) 0 ≤ 16 = rw (add-one at) at g in
            let r₁ : EndsAt words (suc (suc at)) (read_lifetimes (drop (suc (suc at)) words)) None =
            rw (add-one at, add-one (suc at)) at r in
            rw (
              drop-cons words at 0 h,
              k,
              drop-cons words (suc at) 0 (omega arith),
              le-leb (get_or words (suc at) 0) 16 g₁,
            ) (generics_missing (get_or words (suc at) 0) r₁)

        pub generics_whole : {to : ℕ} → get_or words (at + 1) 0 ≤ 16
            → EndsAt words (at + 1 + 1) (read_lifetimes (drop (at + 1 + 1) words)) (Some to)
            → Stands (Some (standing.Generics (get_or words (at + 1) 0) (at + 1 + 1 + 1) to))
        unfolding read_step
        generics_whole g r =
            let g₁ : get_or words (suc at) 0 ≤ 16 = rw (add-one at) at g in
            let r₁ : EndsAt words (suc (suc at)) (read_lifetimes (drop (suc (suc at)) words)) (Some _) =
            rw (add-one at, add-one (suc at)) at r in
            rw (
              drop-cons words at 0 h,
              k,
              drop-cons words (suc at) 0 (omega arith),
              le-leb (get_or words (suc at) 0) 16 g₁,
              add-one at,
              add-one (suc at),
            )
            (generics_there (get_or words (suc at) 0) (omega arith) r₁ (lifetimes_read (drop (suc (suc at)) words)))

    module _ (k : get_or words at 0 ≡ 2) where
      pub self_none : EndsAt words (at + 1) (read_lifetimes (drop (at + 1) words)) None → Stands None
      unfolding read_step
      self_none r =
          let r₁ : EndsAt words (suc at) (read_lifetimes (drop (suc at) words)) None = rw (add-one at) at r in
          rw (drop-cons words at 0 h, k) (self_missing r₁)

      pub self_whole : {to : ℕ} → EndsAt words (at + 1) (read_lifetimes (drop (at + 1) words)) (Some to)
          → Stands (Some (standing.SelfType (at + 1 + 1) to))
      unfolding read_step
      self_whole r =
          let r₁ : EndsAt words (suc at) (read_lifetimes (drop (suc at) words)) (Some _) = rw (add-one at) at r in
          rw (drop-cons words at 0 h, k, add-one at) (self_there (omega arith) r₁ (lifetimes_read (drop (suc at) words)))

    pub step_unknown : (get_or words at 0 ≡ 0 → ⊥) → (get_or words at 0 ≡ 1 → ⊥) → (get_or words at 0 ≡ 2 → ⊥) → Stands None
    unfolding read_step
    step_unknown a b d =
        rw (
          drop-cons words at 0 h,
          ne_eqb (get_or words at 0) 0 a,
          ne_eqb (get_or words at 0) 1 b,
          ne_eqb (get_or words at 0) 2 d,
        ) inner.missing

-- ---- where it ends

stands_end : {words : List ℕ} {at : ℕ} {reading : Reading Step} {r : StepAt} → StandsAt words at reading (Some r)
    → EndsAt words at reading (Some (step_end r))
stands_end (inner.lifetime w d b e) = ends d b e
stands_end (inner.generics l d b m e) = ends d b e
stands_end (inner.self_type l d b m e) = ends d b e

-- what a `?` tells of the step that was read in front of it
module _ {words : List ℕ} {at : ℕ} {reading : Reading Step} {r : Option StepAt} (stands : StandsAt words at reading r)
    (x : Refusal) {o : Outcome StepAt} (f : o ≡ ok_or r x) where
  pub step_lost : {y : Refusal} → o ≡ Err y → StandsAt words at reading None × (y ≡ x)
  step_lost k = let none = ok_or_missing x f k in
      (subst (λ (q : Option StepAt). StandsAt words at reading q) none.0 stands, none.1)

  pub step_found : {q : StepAt} → o ≡ Ok q → StandsAt words at reading (Some q)
  step_found k = subst (λ (q : Option StepAt). StandsAt words at reading q) (ok_or_found x f k) stands

pub ends_there : {words : List ℕ} {at : ℕ} {reading : Reading Step} {r : StepAt} → StandsAt words at reading (Some r)
    → {to : ℕ} → to ≡ step_end r → EndsAt words at reading (Some to)
ends_there {words} {at} {reading} stands e = subst (λ (x : ℕ). EndsAt words at reading (Some x)) (sym e) (stands_end stands)

pub missing_end : {words : List ℕ} {at : ℕ} {reading : Reading Step} → StandsAt words at reading None
    → EndsAt words at reading None
missing_end inner.missing = missing
