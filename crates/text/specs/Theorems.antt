-- The main theorems of this crate, stated. Each has its proof, a term of exactly this type and of the same name in
-- small letters, in proofs/Theorems.antt.
use Rattle.std.specs.Prelude.{ℕ, suc, ◌+◌, ◌/◌, ◌%◌, ◌^◌, ◌≤◌, ◌<◌, ◌≡◌, List, [], ◌∷◌, ◌++◌, length}
use Rattle.std.specs.Prelude.{None, Some}
use Rattle.text.specs.Decimal.{digits}
use Rattle.text.specs.Number.{digits_in, behind_digits, number_in}

-- The digits of a number, without fuel; a number below 10 has one at most, below 100 two, ..
pub record DecimalOf (n : ℕ) : Type 0 where
  pub single : n < 10 → digits n ≡ (48 + n) ∷ []
  pub more : 10 ≤ n → digits n ≡ digits (n / 10) ++ ((48 + n % 10) ∷ [])
  pub few : (k : ℕ) → n < 10 ^ suc k → length (digits n) ≤ suc k

abbrev pub DigitsOfNumbers : Type 0
DigitsOfNumbers = (n : ℕ) → DecimalOf n

-- no digit stands in front
abbrev pub NoDigit : List ℕ → Type 0
NoDigit bytes = digits_in bytes ≡ []

-- Reading is the inverse of printing. A number's digits, with bytes behind them of which the first is no digit, are
-- read as that number, where it is within the limit, and those bytes are behind it; what is read was such digits; and
-- nothing is read where no number within the limit stands in front so.
pub record ReadsNumber (limit : ℕ) (bytes : List ℕ) : Type 0 where
  pub printed : (n : ℕ) (rest : List ℕ) → bytes ≡ digits n ++ rest → NoDigit rest → n ≤ limit
      → (number_in limit bytes ≡ Some n) × (behind_digits bytes ≡ rest)
  pub read : (n : ℕ) → number_in limit bytes ≡ Some n
      → (bytes ≡ digits n ++ behind_digits bytes) × NoDigit (behind_digits bytes) × (n ≤ limit)
  pub nothing : number_in limit bytes ≡ None
      → (n : ℕ) (rest : List ℕ) → bytes ≡ digits n ++ rest → NoDigit rest → n ≤ limit → ⊥

abbrev pub NumbersReadBack : Type 0
NumbersReadBack = (limit : ℕ) (bytes : List ℕ) → ReadsNumber limit bytes
