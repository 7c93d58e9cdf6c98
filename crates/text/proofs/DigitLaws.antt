-- The digits of a number: their equations without fuel, one digit more, and how many they are.
use Prim.Native.Nat.{ℕ, zero, suc, ◌+◌, ◌*◌, ◌/◌, ◌%◌, ◌^◌, ◌≤◌, ◌<◌}
use mathlib.Core.Bool.{Bool, true, false, cond}
use mathlib.Core.Path.{◌≡◌, refl, ◌∙◌}
use mathlib.Core.List.{[], ◌∷◌, ◌++◌}
use native.Mathlib.Nat.{div-add-mod', mod-lt, div-lt_self, div-lt_iff_lt-mul, pow-suc}
use native.Mathlib.Omega.{arith}
use borrow.Author.Tests.{ltb-true, ltb-false, lt-ltb, le-ltb}
use lib.Dec.{ltb}
use lib.ListN.{length, length-append}
use Rattle.text.specs.Decimal.{digits_for, digits}

pub tenth_less : {n : ℕ} → 10 ≤ n → n / 10 < n
tenth_less {n} h = div-lt_self (omega arith) (omega arith)

-- more fuel than the number changes nothing
fuel : (f g n : ℕ) → n < f → n < g → digits_for f n ≡ digits_for g n
unfolding digits_for
fuel zero g n p q = absurd (omega arith)
fuel (suc f) zero n p q = absurd (omega arith)
fuel (suc f) (suc g) n p q = go (ltb n 10) refl (λ a b. fuel f g (n / 10) a b)
  where
    go : (t : Bool) → ltb n 10 ≡ t → (n / 10 < f → n / 10 < g → digits_for f (n / 10) ≡ digits_for g (n / 10))
        → cond t ((48 + n) ∷ []) (digits_for f (n / 10) ++ ((48 + n % 10) ∷ []))
        ≡ cond t ((48 + n) ∷ []) (digits_for g (n / 10) ++ ((48 + n % 10) ∷ []))
    go true e ih = refl
    go false e ih = let h = ltb-false n 10 e in rw (ih (omega (arith, tenth_less h)) (omega (arith, tenth_less h)))

pub digits_single : {n : ℕ} → n < 10 → digits n ≡ (48 + n) ∷ []
unfolding digits digits_for
digits_single {n} h = rw (lt-ltb n 10 h)

pub digits_more : {n : ℕ} → 10 ≤ n → digits n ≡ digits (n / 10) ++ ((48 + n % 10) ∷ [])
unfolding digits digits_for
digits_more {n} h = rw (le-ltb n 10 h, fuel n (suc (n / 10)) (n / 10) (tenth_less h) (omega arith))

-- one digit more
pub digits_push : {n d : ℕ} → 0 < n → d < 10 → digits (n * 10 + d) ≡ digits n ++ ((48 + d) ∷ [])
digits_push {n} {d} p q =
    let a : (n * 10 + d) / 10 ≡ n = omega (arith, div-add-mod' (n * 10 + d) 10, mod-lt (n * 10 + d) {m = 10} (omega arith)) in
    let b : (n * 10 + d) % 10 ≡ d = omega (arith, div-add-mod' (n * 10 + d) 10, mod-lt (n * 10 + d) {m = 10} (omega arith)) in
    digits_more (omega arith) ∙ rw (a, b)

-- how many digits: a number below 10, 100, .. has at most 1, 2, ..
pub digits_length : (k n : ℕ) → n < 10 ^ suc k → length (digits n) ≤ suc k
digits_length zero n h = let s : n < 10 = h in rw (digits_single s) (omega arith)
digits_length (suc k) n h = go (ltb n 10) refl (digits_length k (n / 10))
  where
    go : (t : Bool) → ltb n 10 ≡ t → (n / 10 < 10 ^ suc k → length (digits (n / 10)) ≤ suc k) → length (digits n) ≤ suc (suc k)
    go true e ih = rw (digits_single (ltb-true n 10 e)) (omega arith)
    go false e ih =
        let q : n / 10 < 10 ^ suc k =
        (div-lt_iff_lt-mul {k = 10} {x = n} {y = 10 ^ suc k} (omega arith)).1 (rw (pow-suc 10 (suc k)) at h) in
        rw (digits_more (ltb-false n 10 e), length-append) (omega (arith, ih q))

-- and at least one
pub digits_some : (n : ℕ) → 1 ≤ length (digits n)
digits_some n = go (ltb n 10) refl
  where
    go : (t : Bool) → ltb n 10 ≡ t → 1 ≤ length (digits n)
    go true e = rw (digits_single (ltb-true n 10 e)) (omega arith)
    go false e = rw (digits_more (ltb-false n 10 e), length-append) (omega arith)
