-- Where a list of lifetimes stands, and a flag; what is said of a type whose path words stand there.
use Rattle.std.specs.Prelude.{Some, None, Option}
use Prim.Native.Nat.{ℕ, zero, suc, ◌+◌, ◌-◌, ◌≤◌, ◌<◌}
use mathlib.Core.Bool.{Bool, true, false, cond, ◌&&◌}
use mathlib.Core.Path.{◌≡◌, refl, ap, ◌∙◌}
use mathlib.Core.List.{List, [], ◌∷◌, ◌++◌}
use native.Mathlib.Numerals.{add-one}
use native.Mathlib.Omega.{arith}
use lib.Dec.{leb}
use lib.ListN.{length, get_or, take, drop, length-drop, length-append}
use lib.Seq.{drop-cons, take_at}
use borrow.Author.Tests.{ne_eqb, leb-true}
use Rattle.records.specs.Reading.{Reading, Read, Fails, read_lifetimes, end_of}
use Rattle.records.specs.Ends.{EndsAt, ends, missing}
use Rattle.records.proofs.ReadingLaws.{LifetimesIn, holds_read, lifetimes_read}
use Rattle.records.proofs.EndLaws.{ends_told, ends_past, ends_within, lifetimes_end}
use Rattle.hir_types.specs.declared.types.Kind.{Kind}
use Rattle.hir_types.specs.declared.types.Own.{Own}
use Rattle.hir_types.specs.LoweredTypes.{lowered_type, read_flag}
use Rattle.hir_types.specs.Places.{Stands}

-- ---- the word at a place, and those behind it

-- what `get` tells of a place that holds a word
abbrev pub WordAt : List ℕ → ℕ → ℕ → Type 0
WordAt words at word = (at < length words) × ((d : ℕ) → word ≡ get_or words at d)

pub word_here : (words : List ℕ) (at : ℕ) {word : ℕ} → WordAt words at word → drop at words ≡ word ∷ drop (at + 1) words
word_here words at w = rw (w.1 0, add-one) (drop-cons words at 0 w.0)

pub word_behind : (words : List ℕ) (at : ℕ) {word : ℕ} → WordAt words (at + 1) word
    → drop (at + 1) words ≡ word ∷ drop (at + 2) words
word_behind words at w = let e : at + 2 ≡ suc (at + 1) = omega arith in rw (w.1 0, e) (drop-cons words (at + 1) 0 w.0)

-- ---- what a reading leaves

pub missing_fails : {A : Type 0} {words : List ℕ} {at : ℕ} {reading : Reading A} → EndsAt words at reading None → reading ≡ Fails
missing_fails missing = refl

pub ends_reads : {A : Type 0} {words : List ℕ} {at next : ℕ} {reading : Reading A} → EndsAt words at reading (Some next)
    → (a : A) × (reading ≡ Read a (drop next words))
ends_reads (ends {a} {rest} d b e) = (a, rw d)

-- ---- a list of lifetimes

pub record PathAt (words : List ℕ) (at behind : ℕ) (path : List ℕ) : Type 0 where
  pub reads : read_lifetimes (drop at words) ≡ Read path (drop behind words)
  pub size : behind ≡ at + 1 + length path
  pub few : length path ≤ 16
  pub stands : take (length path) (drop (at + 1) words) ≡ path
  pub within : behind ≤ length words

few_read : (path rest : List ℕ) → read_lifetimes (length path ∷ (path ++ rest)) ≡ Read path rest → length path ≤ 16
few_read path rest e = go (leb (length path) 16) refl e
  where
    go : (b : Bool) → leb (length path) 16 ≡ b
        → cond (b && leb (length path) (length (path ++ rest)))
        (Read (take (length path) (path ++ rest)) (drop (length path) (path ++ rest))) Fails ≡ Read path rest
        → length path ≤ 16
    go true q e = leb-true (length path) 16 q
    go false q e = let z : ◌≡◌ {A = ℕ} 0 1 = cc in absurd (omega arith)

path_there : (words : List ℕ) (at behind : ℕ) (path : List ℕ)
    → read_lifetimes (drop at words) ≡ Read path (drop behind words) → at < behind → behind ≤ length words
    → PathAt words at behind path
path_there words at behind path e past within =
    let here : length path ∷ (path ++ drop behind words) ≡ drop at words =
    holds_read (LifetimesIn (drop at words)) path (drop behind words) (rw e at (lifetimes_read (drop at words))) in
    let sizes : suc (length path + (length words - behind)) ≡ length words - at =
    simp (length-append, length-drop) at (ap length here) in
    let cell : length path ∷ (path ++ drop behind words) ≡ get_or words at 0 ∷ drop (at + 1) words =
    here ∙ rw add-one (drop-cons words at 0 (omega arith)) in
    let rest : path ++ drop behind words ≡ drop (at + 1) words = cc in
    record {
      reads = e;
      size = omega arith;
      few = few_read path (drop behind words) (rw (← here) at e);
      stands = rw (← rest) (take_at path (drop behind words) (length path) refl);
      within = within;
    }

module _ (words : List ℕ) (at : ℕ) {r : Option ℕ} (q : r ≡ end_of (length words) (read_lifetimes (drop at words))) where
  pub path_at : {behind : ℕ} → r ≡ Some behind → (path : List ℕ) × PathAt words at behind path
  path_at {behind} e =
      let k : EndsAt words at (read_lifetimes (drop at words)) (Some behind) = ends_told (lifetimes_end words at q) e in
      let got = ends_reads k in
      (got.0, path_there words at behind got.0 got.1 (ends_past k) (ends_within k))

  pub path_past : {behind : ℕ} → r ≡ Some behind → at < behind
  path_past {behind} e = ends_past (ends_told (lifetimes_end words at q) e)

  pub path_missing : r ≡ None → read_lifetimes (drop at words) ≡ Fails
  path_missing e = missing_fails (ends_told (lifetimes_end words at q) e)

-- ---- a flag

pub flag_read : (word : ℕ) (words : List ℕ) → word ≤ 1 → (flag : Bool) × (read_flag (word ∷ words) ≡ Read flag words)
flag_read zero words h = (false, refl)
flag_read (suc zero) words h = (true, refl)
flag_read (suc (suc word)) words h = absurd (omega arith)

pub flag_fails : (word : ℕ) (words : List ℕ) → 1 < word → read_flag (word ∷ words) ≡ Fails
flag_fails word words h = rw (ne_eqb word 0 (λ e. omega arith), ne_eqb word 1 (λ e. omega arith))

-- ---- a type without path words, and one with

pub stands_none : {words : List ℕ} {at : ℕ} (option : Bool) (kind : Kind) (own : Own) (from next : ℕ) → at < next
    → next ≤ length words
    → Stands words at (lowered_type option kind [] own) (drop next words)
    (record { option = option; kind = kind; from = from; count = 0; own = own; next = next })
stands_none option kind own from next past within =
    record {
      option = refl;
      kind = refl;
      count = refl;
      few = omega arith;
      path = refl;
      own = refl;
      left = refl;
      past = past;
      within = within;
    }

pub stands_path : {words path : List ℕ} {at behind : ℕ} → PathAt words (at + 2) behind path
    → (option : Bool) (kind : Kind) (own : Own) (next : ℕ) → behind ≤ next → next ≤ length words
    → Stands words at (lowered_type option kind path own) (drop next words)
    (record { option = option; kind = kind; from = at + 3; count = behind - (at + 3); own = own; next = next })
stands_path {words} {path} {at} {behind} there option kind own next past within =
    let n : behind - (at + 3) ≡ length path = omega (arith, there.size) in
    let f : at + 3 ≡ at + 2 + 1 = omega arith in
    record {
      option = refl;
      kind = refl;
      count = n;
      few = omega (arith, there.few);
      path = rw (n, f) there.stands;
      own = refl;
      left = refl;
      past = omega (arith, there.size);
      within = within;
    }
