-- Reading one number: what is found behind some of its digits, and the loop of number.rt.
use Prim.Native.Nat.{ℕ, suc, ◌+◌, ◌*◌, ◌-◌, ◌/◌, ◌≤◌, ◌<◌}
use mathlib.Core.Bool.{Bool, true, false, cond, ◌&&◌, ◌||◌, and-eq-true_iff}
use mathlib.Core.Path.{◌≡◌, refl, sym, ◌∙◌}
use mathlib.Core.List.{List, [], ◌∷◌}
use Rattle.std.specs.Prelude.{Option, None, Some}
use native.Mathlib.Nat.{div-add-mod', mod-lt}
use native.Mathlib.Numerals.{add-one}
use native.Mathlib.Omega.{arith}
use borrow.Author.Tests.{ltb-true, ltb-false, lt-ltb, le-ltb, leb-true, leb-false, le-leb, lt-leb}
use lib.Dec.{ltb, leb}
use lib.ListN.{length, get_or, drop, drop_of_length-le}
use lib.Seq.{drop-cons}
use Rattle.text.specs.declared.number.Found.{Found}
use Rattle.text.specs.Number.{is_digit, digits_in, is_decimal, value_behind, number_in, found_to, found_at}

-- ---- bytes that are digits, and bytes that are none

pub is_digit_lem : {b : ℕ} → 48 ≤ b → b ≤ 57 → is_digit b ≡ true
is_digit_lem {b} p q = rw (le-leb 48 b p, le-leb b 57 q)

pub low_byte : (b : ℕ) → b < 48 → false ≡ is_digit b
low_byte b h = rw (lt-leb 48 b h)

pub other_byte : (b : ℕ) → 48 ≤ b → leb b 57 ≡ is_digit b
other_byte b h = rw (le-leb 48 b h)

pub digit_range : (b : ℕ) → is_digit b ≡ true → (48 ≤ b) × (b ≤ 57)
digit_range b e = let s = (and-eq-true_iff (leb 48 b) (leb b 57)).0 e in (leb-true 48 b s.0, leb-true b 57 s.1)

-- the digits in front, by the first byte
module _ (b : ℕ) (bytes : List ℕ) where
  pub digits_in_lem : is_digit b ≡ true → digits_in (b ∷ bytes) ≡ b ∷ digits_in bytes
  unfolding digits_in
  digits_in_lem e = rw e

  pub no_digits_in : is_digit b ≡ false → digits_in (b ∷ bytes) ≡ []
  unfolding digits_in
  no_digits_in e = rw e

-- ---- one digit more, and a limit

module _ (value digit limit tenth : ℕ) (is : (digit ≤ 9) × (tenth ≡ limit / 10)) where
  pub far_below : value < tenth → true ≡ leb (value * 10 + digit) limit
  far_below h = sym (le-leb (value * 10 + digit) limit (omega (arith, h, is.0, is.1, div-add-mod' limit 10)))

  pub far_above : tenth < value → false ≡ leb (value * 10 + digit) limit
  far_above h =
      sym (lt-leb (value * 10 + digit) limit
      (omega (arith, h, is.1, div-add-mod' limit 10, mod-lt limit {m = 10} (omega arith))))

  pub just_below : value ≤ tenth → leb digit (limit - value * 10) ≡ leb (value * 10 + digit) limit
  just_below q = go (leb (value * 10 + digit) limit) refl
    where
      go : (t : Bool) → leb (value * 10 + digit) limit ≡ t → leb digit (limit - value * 10) ≡ t
      go true e = le-leb digit (limit - value * 10) (omega (arith, leb-true (value * 10 + digit) limit e))
      go false e =
          lt-leb digit (limit - value * 10)
          (omega (arith, leb-false (value * 10 + digit) limit e, q, is.1, div-add-mod' limit 10))

-- ---- what is found behind digits of a value: the digits that are left, at a place

abbrev is_empty : List ℕ → Bool
is_empty [] = true
is_empty (d ∷ ds) = false

-- the digits go on to a number within the limit
abbrev pub goes_on : ℕ → ℕ → List ℕ → Bool
goes_on limit value ds = (ltb 0 value || is_empty ds) && leb (value_behind value ds) limit

abbrev pub found_on : ℕ → ℕ → ℕ → List ℕ → Option Found
found_on limit value at ds = found_to (at + length ds) (cond (goes_on limit value ds) (Some (value_behind value ds)) None)

pub value_grows : (value : ℕ) (ds : List ℕ) → value ≤ value_behind value ds
unfolding value_behind
value_grows value [] = omega arith
value_grows value (d ∷ ds) = omega (arith, value_grows (value * 10 + (d - 48)) ds)

or_true : (a : Bool) → a || true ≡ true
or_true true = refl
or_true false = refl

and_false : (a : Bool) → a && false ≡ false
and_false true = refl
and_false false = refl

module _ (limit value : ℕ) where
  -- above the limit: so is every number that begins so
  pub goes_above : (ds : List ℕ) → limit < value → goes_on limit value ds ≡ false
  goes_above ds h =
      rw (lt-leb (value_behind value ds) limit (omega (arith, h, value_grows value ds))) (and_false (ltb 0 value || is_empty ds))

  -- no digit is left
  pub goes_no_further : value ≤ limit → (goes_on limit value [] ≡ true) × (value_behind value [] ≡ value)
  unfolding value_behind
  goes_no_further h = (rw (le-leb value limit h, or_true (ltb 0 value)), refl)

  module _ (d : ℕ) (ds : List ℕ) where
    -- one is left behind a nought
    pub nought_leads : value ≡ 0 → goes_on limit value (d ∷ ds) ≡ false
    nought_leads e = rw e

    -- one is left, and the number with it is above the limit, or within
    pub one_above : limit < value * 10 + (d - 48) → goes_on limit value (d ∷ ds) ≡ false
    unfolding value_behind
    one_above h =
        rw (lt-leb (value_behind (value * 10 + (d - 48)) ds) limit (omega (arith, h, value_grows (value * 10 + (d - 48)) ds)))
        (and_false (ltb 0 value || false))

    pub one_more : 0 < value → (goes_on limit value (d ∷ ds) ≡ goes_on limit (value * 10 + (d - 48)) ds)
        × (value_behind value (d ∷ ds) ≡ value_behind (value * 10 + (d - 48)) ds)
    unfolding value_behind
    one_more h = (rw (lt-ltb 0 value h, lt-ltb 0 (value * 10 + (d - 48)) (omega (arith, h))), refl)

-- a first digit
first_decimal : (d : ℕ) (ds : List ℕ) → 48 ≤ d → is_decimal (d ∷ ds) ≡ (ltb 0 (d - 48) || is_empty ds)
first_decimal d [] h = sym (or_true (ltb 0 (d - 48)))
first_decimal d (e ∷ ds) h = go (ltb 48 d) refl
  where
    go : (t : Bool) → ltb 48 d ≡ t → t ≡ (ltb 0 (d - 48) || false)
    go true q = rw (lt-ltb 0 (d - 48) (omega (arith, ltb-true 48 d q)))
    go false q = rw (le-ltb 0 (d - 48) (omega (arith, ltb-false 48 d q)))

module _ (limit d : ℕ) (ds : List ℕ) (h : 48 ≤ d) where
  pub first_value : value_behind 0 (d ∷ ds) ≡ value_behind (d - 48) ds
  unfolding value_behind
  first_value = let e : 0 * 10 + (d - 48) ≡ d - 48 = omega arith in rw e

  first_goes : (is_decimal (d ∷ ds) && leb (value_behind 0 (d ∷ ds)) limit) ≡ goes_on limit (d - 48) ds
  first_goes = rw (first_decimal d ds h, first_value)

pub first_value_one : (d : ℕ) → value_behind 0 (d ∷ []) ≡ d - 48
unfolding value_behind
first_value_one d = omega arith

-- the number in front of bytes by its first byte
module _ (limit : ℕ) (bytes : List ℕ) where
  pub none_in : digits_in bytes ≡ [] → number_in limit bytes ≡ None
  unfolding number_in
  none_in e = rw e

  pub number_in_lem : (d : ℕ) (ds : List ℕ) → digits_in bytes ≡ d ∷ ds → 48 ≤ d
      → number_in limit bytes ≡ cond (goes_on limit (d - 48) ds) (Some (value_behind (d - 48) ds)) None
  unfolding number_in
  number_in_lem d ds e h = rw (e, first_goes limit d ds h, first_value limit d ds h)

-- a number that was found, and the place behind it
abbrev pub found : ℕ → ℕ → Found
found value at = record { value = value; at = at }

-- ---- from a place on

module _ (limit : ℕ) (bytes : List ℕ) (from : ℕ) where
  none_found : digits_in (drop from bytes) ≡ [] → None ≡ found_at limit bytes from
  unfolding found_at
  none_found e = rw (none_in limit (drop from bytes) e)

  pub found_past : length bytes ≤ from → None ≡ found_at limit bytes from
  unfolding digits_in
  found_past h = none_found (rw (drop_of_length-le bytes {i = from} h))

  module _ {d : ℕ} (byte : d ≡ get_or bytes from 0) (h : from < length bytes) where
    pub found_none : is_digit d ≡ false → None ≡ found_at limit bytes from
    found_none f =
        none_found
        (rw (drop-cons bytes from 0 h) (no_digits_in (get_or bytes from 0) (drop (suc from) bytes) (rw byte at f)))

    module _ (f : is_digit d ≡ true) where
      found_first : found_at limit bytes from ≡ found_on limit (d - 48) (from + 1) (digits_in (drop (from + 1) bytes))
      unfolding found_at
      found_first =
          let rest = digits_in (drop (suc from) bytes) in
          let g : is_digit (get_or bytes from 0) ≡ true = rw byte at f in
          let e : digits_in (drop from bytes) ≡ get_or bytes from 0 ∷ rest =
          rw (drop-cons bytes from 0 h) (digits_in_lem (get_or bytes from 0) (drop (suc from) bytes) g) in
          let p : from + suc (length rest) ≡ suc from + length rest = omega arith in
          rw (
            number_in_lem limit (drop from bytes) (get_or bytes from 0) rest e (digit_range (get_or bytes from 0) g).0,
            e,
            p,
            add-one from,
            byte,
          )

-- the loop of `read_number`: the number so far, and what is found behind it
pub record Numbering (limit : ℕ) (bytes : List ℕ) (from value at : ℕ) : Type 0 where
  pub reads : found_at limit bytes from ≡ found_on limit value at (digits_in (drop at bytes))
  pub after : from < at
  pub inside : at ≤ length bytes
  pub small : value ≤ limit

module _ (limit : ℕ) (bytes : List ℕ) (from : ℕ) {d : ℕ} (byte : d ≡ get_or bytes from 0) (h : from < length bytes)
    (f : is_digit d ≡ true) where
  pub first_above : limit < d - 48 → None ≡ found_at limit bytes from
  first_above m =
      sym
      (found_first limit bytes from byte h f
      ∙ rw (goes_above limit (d - 48) (digits_in (drop (from + 1) bytes)) m))

  pub numbering_start : d - 48 ≤ limit → Numbering limit bytes from (d - 48) (from + 1)
  numbering_start m =
      record { reads = found_first limit bytes from byte h f; after = omega arith; inside = omega (arith, h); small = m }

module _ {limit : ℕ} {bytes : List ℕ} {from value at : ℕ} (inv : Numbering limit bytes from value at) where
  stops : digits_in (drop at bytes) ≡ [] → Some (found value at) ≡ found_at limit bytes from
  stops e =
      let g = goes_no_further limit value inv.small in
      let p : at + 0 ≡ at = omega arith in
      sym (inv.reads ∙ rw (e, g.0, g.1, p))

  pub numbering_end : length bytes ≤ at → Some (found value (length bytes)) ≡ found_at limit bytes from
  unfolding digits_in
  numbering_end h =
      let e : length bytes ≡ at = omega (arith, inv.inside) in
      rw e (stops (rw (drop_of_length-le bytes {i = at} h)))

  module _ {b : ℕ} (byte : b ≡ get_or bytes at 0) (h : at < length bytes) where
    pub numbering_stop : is_digit b ≡ false → Some (found value at) ≡ found_at limit bytes from
    numbering_stop f =
        stops (rw (drop-cons bytes at 0 h) (no_digits_in (get_or bytes at 0) (drop (suc at) bytes) (rw byte at f)))

    module _ (f : is_digit b ≡ true) where
      rest_of : digits_in (drop at bytes) ≡ b ∷ digits_in (drop (suc at) bytes)
      rest_of =
          rw (drop-cons bytes at 0 h, byte) (digits_in_lem (get_or bytes at 0) (drop (suc at) bytes) (rw byte at f))

      nothing : goes_on limit value (b ∷ digits_in (drop (suc at) bytes)) ≡ false → None ≡ found_at limit bytes from
      nothing g = sym (inv.reads ∙ rw (rest_of, g))

      pub numbering_nought : value ≡ 0 → None ≡ found_at limit bytes from
      numbering_nought z = nothing (nought_leads limit value b (digits_in (drop (suc at) bytes)) z)

      pub numbering_above : limit < value * 10 + (b - 48) → None ≡ found_at limit bytes from
      numbering_above m = nothing (one_above limit value b (digits_in (drop (suc at) bytes)) m)

      pub numbering_more : (value ≡ 0 → ⊥) → value * 10 + (b - 48) ≤ limit
          → Numbering limit bytes from (value * 10 + (b - 48)) (at + 1)
      numbering_more z m =
          let rest = digits_in (drop (suc at) bytes) in
          let g = one_more limit value b rest (omega (arith, z)) in
          let p : at + suc (length rest) ≡ suc at + length rest = omega arith in
          record {
            reads = inv.reads ∙ rw (rest_of, g.0, g.1, p, add-one at);
            after = omega (arith, inv.after);
            inside = omega (arith, h);
            small = m;
          }
