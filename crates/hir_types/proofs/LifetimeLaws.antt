-- The lifetimes of one type: what stands at an index, and the ways out of `type_lifetimes`.
use Rattle.std.specs.Prelude.{Ok, Err, Some, None, Option, slice_get}
use Prim.Native.Nat.{ℕ, zero, suc, ◌+◌, ◌-◌, ◌≤◌, ◌<◌}
use mathlib.Core.Path.{◌≡◌, refl, sym, ◌∙◌, ap}
use mathlib.Core.List.{List, [], ◌∷◌, ◌++◌, map}
use native.Mathlib.Omega.{arith}
use lib.ListN.{length, get_or, drop_of_length-le}
use lib.Seq.{drop-cons}
use Rattle.answers.specs.declared.Refusal.TheVariants.{Malformed}
use Rattle.lifetimes.specs.declared.lifetime.Lifetime.{Lifetime}
use Rattle.lifetimes.specs.declared.maybe_static.MaybeStatic.{MaybeStatic}
use Rattle.lifetimes.specs.LoweredWords.{from_word}
use Rattle.records.specs.Reading.{Fails}
use Rattle.hir_types.specs.declared.types.Own.{Own}
use Rattle.hir_types.specs.declared.types.Own.TheVariants as own
use Rattle.hir_types.specs.declared.types.Parts.{Parts}
use Rattle.hir_types.specs.LoweredTypes.{LoweredType, read_lowered, own_lifetimes, lifetimes_of}
use Rattle.hir_types.specs.LoweredTypes.{own_lifetime, one_or_none, type_lifetimes}
use Rattle.answers.specs.Refusals.{over}
use Rattle.hir_types.specs.Theorems.{ListsLifetimes}
use Rattle.hir_types.proofs.FoundLaws.{Found, path_word}

-- ---- the entry at an index

entry_path : (l : List ℕ) (m : List (MaybeStatic Lifetime)) (i : ℕ) → i < length l
    → slice_get (map from_word l ++ m) i ≡ Some (from_word (get_or l i 0))
entry_path [] m i h = absurd (omega arith)
entry_path (w ∷ l) m zero h = refl
entry_path (w ∷ l) m (suc i) h = entry_path l m i (omega arith)

entry_past : (l : List ℕ) (m : List (MaybeStatic Lifetime)) (i : ℕ) → length l ≤ i
    → slice_get (map from_word l ++ m) i ≡ slice_get m (i - length l)
entry_past [] m i h = let e : i - 0 ≡ i = omega arith in rw e
entry_past (w ∷ l) m zero h = absurd (omega arith)
entry_past (w ∷ l) m (suc i) h = let e : suc i - suc (length l) ≡ i - length l = omega arith in rw e (entry_past l m i (omega arith))

entry_one : (o : Own) (i : ℕ) → 0 < i → slice_get (own_lifetimes o) i ≡ None
entry_one own.Absent i h = refl
entry_one (own.Word w) zero h = absurd (omega arith)
entry_one (own.Word w) (suc i) h = refl
entry_one own.Strs zero h = absurd (omega arith)
entry_one own.Strs (suc i) h = refl

entry_own : (o : Own) → slice_get (own_lifetimes o) 0 ≡ own_lifetime o
entry_own own.Absent = refl
entry_own (own.Word w) = refl
entry_own own.Strs = refl

-- all of it

pub in_order : (t : LoweredType) → ListsLifetimes t
in_order t =
    let at_end : slice_get (lifetimes_of t) (length t.path) ≡ slice_get (own_lifetimes t.own) 0 =
    entry_past t.path (own_lifetimes t.own) (length t.path) (omega arith)
    ∙ let z : length t.path - length t.path ≡ 0 = omega arith in rw z in
    record {
      path = λ i h. entry_path t.path (own_lifetimes t.own) i h;
      borrow = λ word e. at_end ∙ rw e;
      strs = λ e. at_end ∙ rw e;
      unborrowed = λ e. at_end ∙ rw e;
      past = λ i h. entry_past t.path (own_lifetimes t.own) i (omega arith)
          ∙ entry_one t.own (i - length t.path) (omega arith);
    }

-- ---- a type's own lifetime: what the answer of `Own::lifetime` says

module _ {r : Option (MaybeStatic Lifetime)} (o : Own) (is : r ≡ own_lifetime o) where
  pub own_one : {m : MaybeStatic Lifetime} → r ≡ Some m → own_lifetimes o ≡ m ∷ []
  own_one e = ap one_or_none (sym is ∙ e)

  pub own_none : r ≡ None → own_lifetimes o ≡ []
  own_none e = ap one_or_none (sym is ∙ e)

-- ---- `type_lifetimes`

module _ (words : List ℕ) (index : ℕ) where
  pub lifetimes_none : read_lowered words ≡ Fails → Err Malformed ≡ over (λ l. slice_get l index) (type_lifetimes words)
  unfolding type_lifetimes
  lifetimes_none e = rw e

  module _ {p : Parts} (f : Found words 0 (read_lowered words) p) where
    pub lifetimes_over : (p.next ≡ length words → ⊥) → Err Malformed ≡ over (λ l. slice_get l index) (type_lifetimes words)
    unfolding type_lifetimes
    lifetimes_over e =
        let s = f.stands in
        rw (f.reads, ← s.left, drop-cons words p.next 0 (omega (arith, s.within, e)))

    module _ (e : p.next ≡ length words) where
      all_read : type_lifetimes words ≡ Ok (lifetimes_of f.type)
      unfolding type_lifetimes
      all_read = rw (f.reads, ← f.stands.left, e, drop_of_length-le words {i = length words} (omega arith))

      pub lifetimes_path : {m : MaybeStatic Lifetime} → index < p.count → m ≡ from_word (get_or words (p.from + index) 0)
          → Ok (Some m) ≡ over (λ l. slice_get l index) (type_lifetimes words)
      lifetimes_path h k =
          let s = f.stands in
          rw (
            k,
            all_read,
            path_word s index h,
            entry_path f.type.path (own_lifetimes f.type.own) index (omega (arith, s.count)),
          )

      pub lifetimes_own : {r : Option (MaybeStatic Lifetime)} → index ≡ p.count → r ≡ own_lifetime p.own
          → Ok r ≡ over (λ l. slice_get l index) (type_lifetimes words)
      lifetimes_own h k =
          let s = f.stands in
          let z : index - length f.type.path ≡ 0 = omega (arith, s.count) in
          rw (
            k,
            all_read,
            entry_past f.type.path (own_lifetimes f.type.own) index (omega (arith, s.count)),
            z,
            entry_own f.type.own,
            s.own,
          )

      pub lifetimes_past : p.count ≤ index → (index ≡ p.count → ⊥)
          → Ok None ≡ over (λ l. slice_get l index) (type_lifetimes words)
      lifetimes_past h k =
          let s = f.stands in
          rw (
            all_read,
            entry_past f.type.path (own_lifetimes f.type.own) index (omega (arith, s.count)),
            entry_one f.type.own (index - length f.type.path) (omega (arith, s.count, k)),
          )
