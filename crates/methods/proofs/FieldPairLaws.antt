-- The pairs of a field: which they are, and that they ascend.
use Prim.Native.Nat.{ℕ, zero, suc, ◌+◌, ◌<◌}
use mathlib.Core.Bool.{Bool, true, false, cond}
use mathlib.Core.Path.{◌≡◌, refl, ap}
use mathlib.Core.Logic.{⊎_elim, ∥∥₁_elim}
use mathlib.Core.List.Memᴰ
use mathlib.Core.List.{List, [], ◌∷◌, ◌++◌, Memᴰ}
use mathlib.Core.List.{Pairwise}
use native.Mathlib.Bridge.{le_prop}
use native.Mathlib.Nat.{zero-add}
use native.Mathlib.Omega.{arith}
use lib.Dec.{ltb}
use lib.ListN.{length, get_or}
use borrow.Author.Tests.{ltb-true, lt-ltb}
use Rattle.lifetimes.specs.declared.def_lifetime.DefLifetime.{DefLifetime}
use Rattle.lifetimes.specs.declared.maybe_static.MaybeStatic.{MaybeStatic}
use Rattle.lifetimes.specs.declared.maybe_static.MaybeStatic.TheVariants.{Static, NonStatic}
use Rattle.lifetimes.specs.Numbers.{def_lifetime}
use Rattle.lifetimes.specs.LoweredWords.{def_from_word}
use Rattle.answers.proofs.RefusalLaws.{given_due}
use Rattle.hir_types.specs.Rows.{rows_of}
use Rattle.methods.specs.declared.fields.FieldPair.{FieldPair}
use Rattle.methods.specs.Method.{row_at}
use Rattle.methods.specs.Fields.{field_at, field_pair, filled_by, pairs_from, field_checks, field_pairs}
use Rattle.methods.specs.Theorems.{PairsByDef, FieldFilled, FieldPairsAre}
use Rattle.answers.specs.Lists.{numbered}

module _ (declared : ℕ) where
  -- one word

  filled_from : (at j k : ℕ) (m : MaybeStatic DefLifetime) → Memᴰ (field_pair j k) (filled_by declared at m)
      → (j ≡ at) × (m ≡ NonStatic (def_lifetime k)) × (k < declared)
  filled_from at j k Static m = absurd (Memᴰ.not-nil m)
  filled_from at j k (NonStatic l) m = go (ltb l.0 declared) refl m
    where
      go : (b : Bool) → ltb l.0 declared ≡ b → Memᴰ (field_pair j k) (cond b (field_pair at l.0 ∷ []) [])
          → (j ≡ at) × (NonStatic l ≡ NonStatic (def_lifetime k)) × (k < declared)
      go false e m = absurd (Memᴰ.not-nil m)
      go true e m =
          ⊎_elim
          (λ q.
          let a : j ≡ at = ap (λ (p : FieldPair). p.def.0) q in
          let b : k ≡ l.0 = ap (λ (p : FieldPair). p.outer.0) q in
          (a, rw b, rw b (ltb-true l.0 declared e)))
          (λ r. absurd (Memᴰ.not-nil r))
          (Memᴰ.cases_cons m)

  filled_to : (at k : ℕ) (m : MaybeStatic DefLifetime) → m ≡ NonStatic (def_lifetime k) → k < declared
      → Memᴰ (field_pair at k) (filled_by declared at m)
  filled_to at k m e h = rw (e, lt-ltb k declared h) (Memᴰ.head refl)

  -- path words, the first for the lifetime numbered `at`

  pairs_from_lem : (at j k : ℕ) (path : List ℕ) → Memᴰ (field_pair j k) (pairs_from declared at path)
      → (i : ℕ) × (j ≡ at + i) × (i < length path) × (def_from_word (get_or path i 0) ≡ NonStatic (def_lifetime k)) × (k < declared)
  unfolding numbered
  pairs_from_lem at j k [] m = absurd (Memᴰ.not-nil m)
  pairs_from_lem at j k (word ∷ path) m =
      ⊎_elim
      (λ a. let f = filled_from at j k (def_from_word word) a in (0, omega (arith, f.0), omega arith, f.1, f.2))
      (λ b. let r = pairs_from_lem (suc at) j k path b in (suc r.0, omega (arith, r.1), omega (arith, r.2), r.3, r.4))
      (Memᴰ.append_cases (filled_by declared at (def_from_word word)) m)

  pairs_to : (at i k : ℕ) (path : List ℕ) → i < length path → def_from_word (get_or path i 0) ≡ NonStatic (def_lifetime k)
      → k < declared → Memᴰ (field_pair (at + i) k) (pairs_from declared at path)
  unfolding numbered
  pairs_to at i k [] h e l = absurd (omega arith)
  pairs_to at zero k (word ∷ path) h e l =
      let z : at + 0 ≡ at = omega arith in
      rw z (Memᴰ.append_left (pairs_from declared (suc at) path) (filled_to at k (def_from_word word) e l))
  pairs_to at (suc i) k (word ∷ path) h e l =
      let z : at + suc i ≡ suc at + i = omega arith in
      rw z (Memᴰ.append_right (filled_by declared at (def_from_word word)) (pairs_to (suc at) i k path (omega arith) e l))

  -- they ascend

  pairs_ascend : (at : ℕ) (path : List ℕ) → Pairwise PairsByDef (pairs_from declared at path)
  unfolding numbered
  pairs_ascend at [] = Pairwise.nil
  pairs_ascend at (word ∷ path) = go (def_from_word word) (pairs_ascend (suc at) path)
    where
      more : List FieldPair
      more = pairs_from declared (suc at) path

      two : (b : Bool) (k : ℕ) → Pairwise PairsByDef more → Pairwise PairsByDef (cond b (field_pair at k ∷ []) [] ++ more)
      two true k r =
          Pairwise.cons {a = field_pair at k}
          (λ p m. ∥∥₁_elim m le_prop (λ d.
          let found = pairs_from_lem (suc at) p.def.0 p.outer.0 path d in
          omega (arith, found.1)))
          r
      two false k r = r

      go : (m : MaybeStatic DefLifetime) → Pairwise PairsByDef more → Pairwise PairsByDef (filled_by declared at m ++ more)
      go Static r = r
      go (NonStatic l) r = two (ltb l.0 declared) l.0 r

  all_filled : (path : List ℕ) → FieldFilled declared path (pairs_from declared 0 path)
  all_filled path = record {
    members = λ j k. (
      λ m. let r = pairs_from_lem 0 j k path m in
          let e : r.0 ≡ j = omega (arith, r.1) in
          (omega (arith, r.2), rw (← e) r.3, r.4),
      λ h. let z : 0 + j ≡ j = zero-add j in rw z at (pairs_to 0 j k path h.0 h.1 h.2),
    );
    ascending = pairs_ascend 0 path;
  }

pub pairs_are : FieldPairsAre
unfolding field_pairs
pairs_are structs row field pairs e =
    let g = given_due (pairs_from (row_at (rows_of structs) row).lifetimes 0 (field_at (rows_of structs) row field).path)
    pairs (field_checks structs row field) e in
    rw (← g.1) (all_filled (row_at (rows_of structs) row).lifetimes (field_at (rows_of structs) row field).path)
