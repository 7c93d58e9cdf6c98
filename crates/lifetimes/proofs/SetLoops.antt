-- The loop of `set::members`: it looks at the lifetimes below 64 in turn and stores those that are members. What is
-- left to store, stored from here, gives what all members give from the start of the slice. Assumes nothing.
use Rattle.std.specs.Prelude.{Ok, Err}
use Prim.Native.Nat.{ℕ, suc, ◌+◌, ◌-◌, ◌≤◌, ◌<◌}
use mathlib.Core.Bool.{true, false}
use mathlib.Core.Path.{◌≡◌, refl, ap, ◌∙◌}
use mathlib.Core.List.{List, ◌∷◌}
use native.Mathlib.Nat.{zero-add}
use native.Mathlib.Numerals.{add-one}
use native.Mathlib.Omega.{arith}
use lib.ListN.{length, set, length-set}
use lib.Seq.{sets, sets-eq}
use borrow.Author.Tests.{lt-ltb, le-ltb}
use Rattle.answers.specs.declared.Refusal.TheVariants.{NoRoom}
use Rattle.answers.specs.Lists.{range, filter}
use Rattle.answers.specs.Refusals.{unless}
use Rattle.answers.specs.Lent.{counted, written}
use Rattle.lifetimes.specs.Sets.{member, members, cardinality, list_members}

-- ---- the members for a slice: refused where they are too many, all of them otherwise

no_room : (s room : ℕ) → room < cardinality s → list_members s room ≡ Err NoRoom
unfolding list_members unless cardinality
no_room s room h = rw (lt-ltb room (length (members s)) h)

enough_room : (s room : ℕ) → cardinality s ≤ room → list_members s room ≡ Ok (members s)
unfolding list_members unless cardinality
enough_room s room h = rw (le-ltb room (length (members s)) h)

pub too_short : (s : ℕ) (slice : List ℕ) {n : ℕ} → n ≡ cardinality s → length slice < n
    → (Err NoRoom ≡ counted (list_members s (length slice))) × (slice ≡ written (list_members s (length slice)) slice)
too_short s slice e h =
    let r : list_members s (length slice) ≡ Err NoRoom = no_room s (length slice) (omega arith) in (rw r, rw r)

-- ---- the members from x on

unfoldable pub left : ℕ → ℕ → List ℕ
left s x = filter (member s) (range x (64 - x))

module _ (s x : ℕ) (h : x < 64) where
  row : range x (64 - x) ≡ x ∷ range (x + 1) (64 - (x + 1))
  unfolding range
  row = let e : 64 - x ≡ suc (64 - (x + 1)) = omega arith in rw (e, add-one x)

  left_member : member s x ≡ true → left s x ≡ x ∷ left s (x + 1)
  unfolding left filter
  left_member m = rw (row, m)

  left_other : member s x ≡ false → left s x ≡ left s (x + 1)
  unfolding left filter
  left_other m = rw (row, m)

-- ---- the invariant: x is next, and the members before it stand in the slice's first places

pub record Listing (s : ℕ) (entry out : List ℕ) (at x : ℕ) : Type 0 where
  pub within : x ≤ 64
  pub places : at + length (left s x) ≡ cardinality s
  pub words : sets out at (left s x) ≡ sets entry 0 (members s)
  pub size : length out ≡ length entry
  pub room : cardinality s ≤ length entry

pub listing_start : (s : ℕ) (entry : List ℕ) {n : ℕ} → n ≡ cardinality s → n ≤ length entry → Listing s entry entry 0 0
unfolding left cardinality members
listing_start s entry e h =
    record { within = omega arith; places = zero-add (cardinality s); words = refl; size = refl; room = omega arith }

module _ {s : ℕ} {entry out : List ℕ} {at x : ℕ} (inv : Listing s entry out at x) where
  -- a member has its place in the slice
  pub listing_room : x < 64 → member s x ≡ true → at < length out
  listing_room h m = omega (arith, inv.places, inv.size, inv.room, ap length (left_member s x h m))

  pub listing_member : x < 64 → member s x ≡ true → Listing s entry (set out at x) (at + 1) (x + 1)
  listing_member h m =
      let e : left s x ≡ x ∷ left s (x + 1) = left_member s x h m in
      record {
        within = omega arith;
        places = omega (arith, inv.places, ap length e);
        words = rw (add-one at) (rw e at inv.words);
        size = length-set out at x ∙ inv.size;
        room = inv.room;
      }

  pub listing_other : x < 64 → member s x ≡ false → Listing s entry out at (x + 1)
  listing_other h m =
      let e : left s x ≡ left s (x + 1) = left_other s x h m in
      record {
        within = omega arith;
        places = rw e at inv.places;
        words = rw e at inv.words;
        size = inv.size;
        room = inv.room;
      }

  -- nothing is left
  done : 64 ≤ x → out ≡ sets entry 0 (members s)
  unfolding left range filter
  done h = let e : x ≡ 64 = omega (arith, inv.within) in rw e at inv.words

  pub listing_end : {n : ℕ} → n ≡ cardinality s → 64 ≤ x
      → (Ok n ≡ counted (list_members s (length entry))) × (out ≡ written (list_members s (length entry)) entry)
  unfolding cardinality
  listing_end {n} e h =
      let r : list_members s (length entry) ≡ Ok (members s) = enough_room s (length entry) inv.room in
      let all : sets entry 0 (members s) ≡ written (Ok (members s)) entry =
      rw (sets-eq (members s) entry 0 (omega (arith, inv.room)), zero-add) in
      (rw (r, e), rw r (done h ∙ all))
