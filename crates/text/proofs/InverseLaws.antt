-- Reading a number is the inverse of printing its digits.
use Prim.Native.Nat.{ℕ, zero, suc, ◌+◌, ◌*◌, ◌-◌, ◌/◌, ◌%◌, ◌≤◌, ◌<◌}
use mathlib.Core.Bool.{Bool, true, false, cond, ◌&&◌}
use mathlib.Core.Path.{◌≡◌, refl, sym, ap, ◌∙◌}
use mathlib.Core.List.{List, [], ◌∷◌, ◌++◌, append_assoc, append-nil}
use Rattle.std.specs.Prelude.{None, Some}
use native.Mathlib.Nat.{div-add-mod', mod-lt}
use native.Mathlib.Omega.{arith}
use borrow.Author.Tests.{ltb-true, ltb-false, lt-ltb, leb-true, le-leb}
use lib.Dec.{ltb, leb}
use lib.ListN.{length, drop}
use lib.Seq.{drop-append_seam}
use Rattle.text.specs.Decimal.{digits}
use Rattle.text.specs.Number.{is_digit, digits_in, behind_digits, is_decimal, value_behind, number_in}
use Rattle.text.specs.Theorems.{NoDigit}
use Rattle.text.proofs.DigitLaws.{tenth_less, digits_single, digits_more, digits_push}
use Rattle.text.proofs.NumberLaws.{is_digit_lem, digit_range, digits_in_lem, first_value, first_value_one}

-- the digits in front, and what is behind them
pub digits_front : (bytes : List ℕ) → digits_in bytes ++ behind_digits bytes ≡ bytes
unfolding digits_in
digits_front [] = refl
digits_front (b ∷ bytes) = go (is_digit b) (digits_front bytes)
  where
    go : (t : Bool) → digits_in bytes ++ behind_digits bytes ≡ bytes
        → cond t (b ∷ digits_in bytes) [] ++ drop (length (cond t (b ∷ digits_in bytes) [])) (b ∷ bytes) ≡ b ∷ bytes
    go true e = ap (λ (l : List ℕ). b ∷ l) e
    go false e = refl

pub none_behind : (bytes : List ℕ) → NoDigit (behind_digits bytes)
unfolding digits_in
none_behind [] = refl
none_behind (b ∷ bytes) = go (is_digit b) refl (none_behind bytes)
  where
    go : (t : Bool) → is_digit b ≡ t → digits_in (behind_digits bytes) ≡ []
        → digits_in (drop (length (cond t (b ∷ digits_in bytes) [])) (b ∷ bytes)) ≡ []
    go true e ih = ih
    go false e ih = rw e

-- a digit's byte
digit_is : {d : ℕ} → d < 10 → is_digit (48 + d) ≡ true
digit_is {d} h = is_digit_lem {b = 48 + d} (omega arith) (omega (arith, h))

-- the digits of a number are all digits; fuel is any number above it
all_digits_for : (fuel n : ℕ) (rest : List ℕ) → n < fuel → digits_in (digits n ++ rest) ≡ digits n ++ digits_in rest
all_digits_for zero n rest p = absurd (omega arith)
all_digits_for (suc fuel) n rest p = go (ltb n 10) refl (λ r. all_digits_for fuel (n / 10) r)
  where
    go : (t : Bool) → ltb n 10 ≡ t
        → ((r : List ℕ) → n / 10 < fuel → digits_in (digits (n / 10) ++ r) ≡ digits (n / 10) ++ digits_in r)
        → digits_in (digits n ++ rest) ≡ digits n ++ digits_in rest
    go true e ih =
        let h = ltb-true n 10 e in rw (digits_single h) (digits_in_lem (48 + n) rest (digit_is h))
    go false e ih =
        let h = ltb-false n 10 e in
        let m = mod-lt n {m = 10} (omega arith) in
        rw (digits_more h, append_assoc, append_assoc)
        (ih ((48 + n % 10) ∷ rest) (omega (arith, tenth_less h))
        ∙ ap (λ (l : List ℕ). digits (n / 10) ++ l) (digits_in_lem (48 + n % 10) rest (digit_is m)))

pub all_digits : (n : ℕ) (rest : List ℕ) → digits_in (digits n ++ rest) ≡ digits n ++ digits_in rest
all_digits n rest = all_digits_for (suc n) n rest (omega arith)

-- their value is the number
value_push : (m d : ℕ) (ds : List ℕ) → value_behind m (ds ++ (d ∷ [])) ≡ value_behind m ds * 10 + (d - 48)
unfolding value_behind
value_push m d [] = refl
value_push m d (c ∷ ds) = value_push (m * 10 + (c - 48)) d ds

value_for : (fuel n : ℕ) → n < fuel → value_behind 0 (digits n) ≡ n
value_for zero n p = absurd (omega arith)
value_for (suc fuel) n p = go (ltb n 10) refl (value_for fuel (n / 10))
  where
    go : (t : Bool) → ltb n 10 ≡ t → (n / 10 < fuel → value_behind 0 (digits (n / 10)) ≡ n / 10) → value_behind 0 (digits n) ≡ n
    go true e ih = let s : 48 + n - 48 ≡ n = omega arith in rw (digits_single (ltb-true n 10 e)) (first_value_one (48 + n) ∙ s)
    go false e ih =
        let h = ltb-false n 10 e in
        let q = ih (omega (arith, tenth_less h)) in
        let s : n / 10 * 10 + (48 + n % 10 - 48) ≡ n = omega (arith, div-add-mod' n 10) in
        rw (digits_more h, value_push 0 (48 + n % 10) (digits (n / 10)), q) s

pub value_digits : (n : ℕ) → value_behind 0 (digits n) ≡ n
value_digits n = value_for (suc n) n (omega arith)

-- no nought leads
pub record Leads (ds : List ℕ) : Type 0 where
  pub first : ℕ
  pub others : List ℕ
  pub is : ds ≡ first ∷ others
  pub some : 48 < first

leads_more : (ds : List ℕ) (d : ℕ) → Leads ds → Leads (ds ++ (d ∷ []))
leads_more ds d l =
    record {
      first = l.first;
      others = l.others ++ (d ∷ []);
      is = ap (λ (x : List ℕ). x ++ (d ∷ [])) l.is;
      some = l.some;
    }

leads_for : (fuel n : ℕ) → n < fuel → 0 < n → Leads (digits n)
leads_for zero n p q = absurd (omega arith)
leads_for (suc fuel) n p q = go (ltb n 10) refl (leads_for fuel (n / 10))
  where
    go : (t : Bool) → ltb n 10 ≡ t → (n / 10 < fuel → 0 < n / 10 → Leads (digits (n / 10))) → Leads (digits n)
    go true e ih =
        record { first = 48 + n; others = []; is = digits_single (ltb-true n 10 e); some = omega (arith, q) }
    go false e ih =
        let h = ltb-false n 10 e in
        rw (digits_more h)
        (leads_more (digits (n / 10)) (48 + n % 10)
        (ih (omega (arith, tenth_less h)) (omega (arith, div-add-mod' n 10, mod-lt n {m = 10} (omega arith)))))

leads_decimal : (ds : List ℕ) → Leads ds → is_decimal ds ≡ true
leads_decimal ds l = rw l.is (go l.others)
  where
    go : (others : List ℕ) → is_decimal (l.first ∷ others) ≡ true
    go [] = refl
    go (d ∷ others) = lt-ltb 48 l.first l.some

pub digits_decimal : (n : ℕ) → is_decimal (digits n) ≡ true
digits_decimal n = go (ltb 0 n) refl
  where
    go : (t : Bool) → ltb 0 n ≡ t → is_decimal (digits n) ≡ true
    go true e = leads_decimal (digits n) (leads_for (suc n) n (omega arith) (ltb-true 0 n e))
    go false e = rw (digits_single {n = n} (omega (arith, ltb-false 0 n e)))

-- and digits in front are those of their value
value_spelt : (n : ℕ) (bytes : List ℕ) → 0 < n → digits (value_behind n (digits_in bytes)) ≡ digits n ++ digits_in bytes
unfolding digits_in value_behind
value_spelt n [] p = sym (append-nil (digits n))
value_spelt n (b ∷ bytes) p = go (is_digit b) refl (value_spelt (n * 10 + (b - 48)) bytes (omega (arith, p)))
  where
    go : (t : Bool) → is_digit b ≡ t
        → digits (value_behind (n * 10 + (b - 48)) (digits_in bytes)) ≡ digits (n * 10 + (b - 48)) ++ digits_in bytes
        → digits (value_behind n (cond t (b ∷ digits_in bytes) [])) ≡ digits n ++ cond t (b ∷ digits_in bytes) []
    go true e ih =
        let r = digit_range b e in
        let s : 48 + (b - 48) ≡ b = omega (arith, r.0) in
        ih ∙ rw (digits_push {d = b - 48} p (omega (arith, r.1)), s, append_assoc)
    go false e ih = sym (append-nil (digits n))

pub decimal_spelt : (bytes : List ℕ) → is_decimal (digits_in bytes) ≡ true → digits (value_behind 0 (digits_in bytes)) ≡ digits_in bytes
unfolding digits_in
decimal_spelt [] d = let z : ◌≡◌ {A = ℕ} 0 1 = cc in absurd (omega arith)
decimal_spelt (b ∷ bytes) d = go (is_digit b) refl d
  where
    later : is_digit b ≡ true → (ds : List ℕ) → digits_in bytes ≡ ds → is_decimal (b ∷ ds) ≡ true
        → digits (value_behind 0 (b ∷ ds)) ≡ b ∷ ds
    later e [] q k =
        let r = digit_range b e in
        let s : 48 + (b - 48) ≡ b = omega (arith, r.0) in
        rw (first_value_one b, digits_single {n = b - 48} (omega (arith, r.1)), s)
    later e (c ∷ ds) q k =
        let r = digit_range b e in
        let s : 48 + (b - 48) ≡ b = omega (arith, r.0) in
        let p : 0 < b - 48 = omega (arith, ltb-true 48 b k) in
        rw (first_value 0 b (c ∷ ds) r.0)
        (ap (λ (l : List ℕ). digits (value_behind (b - 48) l)) (sym q) ∙ value_spelt (b - 48) bytes p
        ∙ rw (q, digits_single {n = b - 48} (omega (arith, r.1)), s))

    go : (t : Bool) → is_digit b ≡ t → is_decimal (cond t (b ∷ digits_in bytes) []) ≡ true
        → digits (value_behind 0 (cond t (b ∷ digits_in bytes) [])) ≡ cond t (b ∷ digits_in bytes) []
    go true e k = later e (digits_in bytes) refl k
    go false e k = let z : ◌≡◌ {A = ℕ} 0 1 = cc in absurd (omega arith)

module _ (limit : ℕ) where
  pub number_printed : (n : ℕ) (rest : List ℕ) → NoDigit rest → n ≤ limit
      → (number_in limit (digits n ++ rest) ≡ Some n) × (behind_digits (digits n ++ rest) ≡ rest)
  unfolding number_in
  number_printed n rest d h =
      let e : digits_in (digits n ++ rest) ≡ digits n = all_digits n rest ∙ rw d (append-nil (digits n)) in
      (rw (e, digits_decimal n, value_digits n, le-leb n limit h), rw e (drop-append_seam (digits n) rest))

  number_read : (bytes : List ℕ) (n : ℕ) → number_in limit bytes ≡ Some n
      → (is_decimal (digits_in bytes) ≡ true) × (value_behind 0 (digits_in bytes) ≡ n) × (n ≤ limit)
  unfolding number_in
  number_read bytes n e = go (is_decimal (digits_in bytes)) refl (leb (value_behind 0 (digits_in bytes)) limit) refl e
    where
      go : (a : Bool) → is_decimal (digits_in bytes) ≡ a → (b : Bool) → leb (value_behind 0 (digits_in bytes)) limit ≡ b
          → cond (a && b) (Some (value_behind 0 (digits_in bytes))) None ≡ Some n
          → (is_decimal (digits_in bytes) ≡ true) × (value_behind 0 (digits_in bytes) ≡ n) × (n ≤ limit)
      go true p true q k =
          let v : value_behind 0 (digits_in bytes) ≡ n = cc in
          (p, v, omega (arith, v, leb-true (value_behind 0 (digits_in bytes)) limit q))
      go true p false q k = let z : ◌≡◌ {A = ℕ} 0 1 = cc in absurd (omega arith)
      go false p b q k = let z : ◌≡◌ {A = ℕ} 0 1 = cc in absurd (omega arith)

  pub number_spelt : (bytes : List ℕ) (n : ℕ) → number_in limit bytes ≡ Some n
      → (bytes ≡ digits n ++ behind_digits bytes) × NoDigit (behind_digits bytes) × (n ≤ limit)
  number_spelt bytes n e =
      let k = number_read bytes n e in
      let d : digits_in bytes ≡ digits n = sym (decimal_spelt bytes k.0) ∙ ap digits k.1 in (
        sym (digits_front bytes) ∙ ap (λ (l : List ℕ). l ++ behind_digits bytes) d,
        none_behind bytes,
        k.2,
      )

  pub number_none : (bytes : List ℕ) → number_in limit bytes ≡ None → (n : ℕ) (rest : List ℕ) → bytes ≡ digits n ++ rest
      → NoDigit rest → n ≤ limit → ⊥
  number_none bytes e n rest q d h =
      let k = (number_printed n rest d h).0 in
      let z : ◌≡◌ {A = ℕ} 0 1 = cc in
      omega arith
