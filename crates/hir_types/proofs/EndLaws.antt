-- Where a type, some types, a row end: the ways out of `type_end`, `types_end` and `row_end`.
use Rattle.std.specs.Prelude.{Some, None, Option}
use Prim.Native.Nat.{ℕ, suc, ◌+◌, ◌-◌, ◌≤◌, ◌<◌}
use mathlib.Core.Bool.{true, false}
use mathlib.Core.Logic.{◌⊎◌, ⊎_elim}
use mathlib.Core.Path.{◌≡◌, refl}
use mathlib.Core.List.{List, ◌∷◌}
use native.Mathlib.Omega.{arith}
use lib.ListN.{length, drop, drop_of_length-le}
use borrow.Author.Tests.{le-leb, lt-leb}
use Rattle.records.specs.Reading.{Reading, Read, Fails, onward}
use Rattle.records.specs.Ends.{EndsAt}
use Rattle.records.specs.Ends as at
use Rattle.records.proofs.EndLaws.{ends_past, ends_within}
use Rattle.hir_types.specs.declared.types.Parts.{Parts}
use Rattle.hir_types.specs.LoweredTypes.{LoweredType, read_lowered, knows}
use Rattle.hir_types.specs.Rows.{read_known, read_types, read_row, row_with}
use Rattle.hir_types.specs.Inner.{EndsFrom, ends, missing}
use Rattle.hir_types.proofs.PathLaws.{WordAt, word_here, word_behind, missing_fails}
use Rattle.hir_types.proofs.FoundLaws.{Found}

-- ---- `type_end`

module _ (words : List ℕ) (place rows : ℕ) where
  pub known_missing : read_lowered (drop place words) ≡ Fails → EndsAt words place (read_known rows (drop place words)) None
  unfolding read_known
  known_missing e = rw e at.missing

  module _ {p : Parts} (f : Found words place (read_lowered (drop place words)) p) where
    pub known_no_row : knows rows p.kind ≡ false → EndsAt words place (read_known rows (drop place words)) None
    unfolding read_known
    known_no_row e = rw (f.reads, ← f.stands.kind, e) at.missing

    pub known_ends : knows rows p.kind ≡ true → EndsAt words place (read_known rows (drop place words)) (Some p.next)
    unfolding read_known
    known_ends e = let s = f.stands in rw (f.reads, ← s.kind, e) (at.ends {next = p.next} s.left s.past s.within)

-- ---- `types_end`: what is left to read, read from here, ends where all ends

chain : {words : List ℕ} {place next : ℕ} {reading : Reading LoweredType} {r : Option ℕ}
    → EndsAt words place reading (Some next) → (more : List ℕ → Reading (List LoweredType))
    → EndsFrom words next (more (drop next words)) r
    → EndsFrom words place (onward reading (λ t rest. onward (more rest) (λ ts end. Read (t ∷ ts) end))) r
chain {words} {place} {next} (at.ends {a} {rest} d b e) more k = rw (← d) (wrap b k)
  where
    wrap : {reading : Reading (List LoweredType)} {r : Option ℕ} → place < next → EndsFrom words next reading r
        → EndsFrom words place (onward reading (λ ts end. Read (a ∷ ts) end)) r
    wrap h (ends {next = last} d b e) = ends {next = last} d (omega arith) e
    wrap h missing = missing

pub record Ending (words : List ℕ) (rows count from place i : ℕ) : Type 0 where
  pub past : from ≤ place
  pub within : place ≤ length words
  pub counted : i ≤ count
  pub onto : (r : Option ℕ) → EndsFrom words place (read_types rows (count - i) (drop place words)) r
      → EndsFrom words from (read_types rows count (drop from words)) r

pub ending_start : (words : List ℕ) (rows count from : ℕ) → from ≤ length words → Ending words rows count from from 0
ending_start words rows count from h =
    record {
      past = omega arith;
      within = h;
      counted = omega arith;
      onto = λ r k. let e : count - 0 ≡ count = omega arith in rw e at k;
    }

module _ {words : List ℕ} {rows count from place i : ℕ} (inv : Ending words rows count from place i) where
  module _ (h : i < count) where
    one_more : count - i ≡ suc (count - (i + 1))
    one_more = omega arith

    pub ending_missing : EndsAt words place (read_known rows (drop place words)) None
        → EndsFrom words from (read_types rows count (drop from words)) None
    unfolding read_types
    ending_missing k = inv.onto None (rw (one_more, missing_fails k) missing)

    pub ending_more : {next : ℕ} → EndsAt words place (read_known rows (drop place words)) (Some next)
        → Ending words rows count from next (i + 1)
    unfolding read_types
    ending_more {next} k = record {
      past = omega (arith, inv.past, ends_past k);
      within = ends_within k;
      counted = omega arith;
      onto = λ r m. inv.onto r (rw one_more (chain k (read_types rows (count - (i + 1))) m));
    }

  pub ending_end : count ≤ i → EndsFrom words from (read_types rows count (drop from words)) (Some place)
  unfolding read_types
  ending_end h = let e : count - i ≡ 0 = omega arith in
      inv.onto (Some place) (rw e (ends {next = place} refl (omega arith) inv.within))

-- ---- `row_end`

module _ (words : List ℕ) (place number : ℕ) where
  pub row_none : length words ≤ place → EndsAt words place (read_row number (drop place words)) None
  unfolding read_row
  row_none h = rw (drop_of_length-le words {i = place} h) at.missing

  module _ {declared : ℕ} (w : WordAt words place declared) where
    pub row_short : length words ≤ place + 1 → EndsAt words place (read_row number (drop place words)) None
    unfolding read_row
    row_short k = rw (word_here words place w, drop_of_length-le words {i = place + 1} k) at.missing

    module _ {fields : ℕ} (v : WordAt words (place + 1) fields) where
      pub row_large : (16 < declared) ⊎ ((declared ≤ 16) × (16 < fields))
          → EndsAt words place (read_row number (drop place words)) None
      unfolding read_row
      row_large h =
          rw (word_here words place w, word_behind words place v)
          (⊎_elim (λ a. rw (lt-leb declared 16 a) at.missing)
          (λ b. rw (le-leb declared 16 b.0, lt-leb fields 16 b.1) at.missing)
          h)

      module _ (d : declared ≤ 16) where
        pub row_ends : fields ≤ 16 → {r : Option ℕ}
            → EndsFrom words (place + 2) (read_types number fields (drop (place + 2) words)) r
            → EndsAt words place (read_row number (drop place words)) r
        unfolding read_row
        row_ends b m =
            rw (word_here words place w, word_behind words place v, le-leb declared 16 d, le-leb fields 16 b) (go m)
          where
            go : {reading : Reading (List LoweredType)} {r : Option ℕ} → EndsFrom words (place + 2) reading r
                → EndsAt words place (onward reading (λ fields end. Read (row_with declared fields) end)) r
            go (ends {next = last} d b e) = at.ends {next = last} d (omega arith) e
            go missing = at.missing
