-- The loop of `headed`: a prefix compared byte by byte.
use Prim.Native.Nat.{ℕ, ◌+◌, ◌≤◌, ◌<◌}
use mathlib.Core.Bool.{Bool, true, false, cond, ◌&&◌}
use mathlib.Core.Path.{◌≡◌, refl, sym, ◌∙◌}
use mathlib.Core.List.{List, [], ◌∷◌}
use Rattle.std.specs.Prelude.{None, Some}
use native.Mathlib.Numerals.{add-one}
use native.Mathlib.Omega.{arith}
use borrow.Author.Tests.{eq-eqb, ne_eqb, eqb-true, eqb-false}
use lib.Dec.{eqb}
use lib.ListN.{length, get_or, drop, drop_of_length-le}
use lib.Seq.{drop-cons}
use Rattle.sheet.specs.Reading.{strip_prefix}

-- too few bytes
pub behind_short : (prefix bytes : List ℕ) → length bytes < length prefix → strip_prefix prefix bytes ≡ None
unfolding strip_prefix
behind_short [] bytes h = absurd (omega arith)
behind_short (p ∷ prefix) [] h = refl
behind_short (p ∷ prefix) (b ∷ bytes) h = go (eqb p b) (behind_short prefix bytes (omega arith))
  where
    go : (t : Bool) → strip_prefix prefix bytes ≡ None → cond t (strip_prefix prefix bytes) None ≡ None
    go true e = e
    go false e = refl

-- what is left to compare
pub record Matching (prefix bytes : List ℕ) (i : ℕ) : Type 0 where
  pub rest : strip_prefix prefix bytes ≡ strip_prefix (drop i prefix) (drop i bytes)
  pub here : i ≤ length prefix
  pub long : length prefix ≤ length bytes

pub matching_start : (prefix bytes : List ℕ) → length prefix ≤ length bytes → Matching prefix bytes 0
matching_start prefix bytes h = record { rest = refl; here = omega arith; long = h }

module _ {prefix bytes : List ℕ} {i : ℕ} (inv : Matching prefix bytes i) where
  pub matching_end : length prefix ≤ i → strip_prefix prefix bytes ≡ Some (drop i bytes)
  unfolding strip_prefix
  matching_end h = inv.rest ∙ rw (drop_of_length-le prefix {i = i} h)

  module _ (h : i < length prefix) where
    pub matching_not : (get_or bytes i 0 ≡ get_or prefix i 0 → ⊥) → strip_prefix prefix bytes ≡ None
    unfolding strip_prefix
    matching_not n =
        inv.rest
        ∙ rw (
          drop-cons prefix i 0 h,
          drop-cons bytes i 0 (omega (arith, inv.long)),
          ne_eqb (get_or prefix i 0) (get_or bytes i 0) (λ e. n (sym e)),
        )

    pub matching_more : get_or bytes i 0 ≡ get_or prefix i 0 → Matching prefix bytes (i + 1)
    unfolding strip_prefix
    matching_more e = record {
      rest = inv.rest
          ∙ rw (
            drop-cons prefix i 0 h,
            drop-cons bytes i 0 (omega (arith, inv.long)),
            eq-eqb (get_or prefix i 0) (get_or bytes i 0) (sym e),
            add-one i,
          );
      here = omega arith;
      long = inv.long;
    }

-- and what a comparison of all bytes knows: so far they are the same, and then what is left decides; or one differed
abbrev pub Comparing : Bool → List ℕ → List ℕ → ℕ → Type 0
Comparing true prefix bytes i = Matching prefix bytes i
Comparing false prefix bytes i = (strip_prefix prefix bytes ≡ None) × (i ≤ length prefix) × (length prefix ≤ length bytes)

module _ (prefix bytes : List ℕ) (i : ℕ) where
  pub comparing_here : (same : Bool) → Comparing same prefix bytes i → (i ≤ length prefix) × (length prefix ≤ length bytes)
  comparing_here true inv = (inv.here, inv.long)
  comparing_here false inv = (inv.1, inv.2)

  pub comparing_more : (same : Bool) → Comparing same prefix bytes i → i < length prefix → (also : Bool)
      → also ≡ same && eqb (get_or bytes i 0) (get_or prefix i 0) → Comparing also prefix bytes (i + 1)
  comparing_more false inv h also e = rw e (inv.0, omega arith, inv.2)
  comparing_more true inv h also e = go (eqb (get_or bytes i 0) (get_or prefix i 0)) refl
    where
      go : (t : Bool) → eqb (get_or bytes i 0) (get_or prefix i 0) ≡ t → Comparing also prefix bytes (i + 1)
      go true q = rw (e, q) (matching_more inv h (eqb-true (get_or bytes i 0) (get_or prefix i 0) q))
      go false q = rw (e, q) (matching_not inv h (eqb-false (get_or bytes i 0) (get_or prefix i 0) q), omega arith, inv.long)

  pub comparing_end : (same : Bool) → Comparing same prefix bytes i → length prefix ≤ i
      → strip_prefix prefix bytes ≡ cond same (Some (drop i bytes)) None
  comparing_end true inv h = matching_end inv h
  comparing_end false inv h = inv.0
