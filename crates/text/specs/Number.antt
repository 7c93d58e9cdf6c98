-- The number in front of some bytes: what is read. That reading is the inverse of printing is NumbersReadBack in
-- specs/Theorems.antt.
use Rattle.std.specs.Prelude.{ℕ, ◌+◌, ◌*◌, ◌-◌, Bool, true, false, cond, ◌&&◌, List, [], ◌∷◌, ltb, leb, length, drop}
use Rattle.std.specs.Prelude.{Option, None, Some}
use Rattle.text.specs.declared.number.Found.{Found}

abbrev pub is_digit : ℕ → Bool
is_digit b = leb 48 b && leb b 57

-- the digits in front of some bytes, as many as there are, and the bytes behind them
unfoldable pub digits_in : List ℕ → List ℕ
digits_in [] = []
digits_in (b ∷ bytes) = cond (is_digit b) (b ∷ digits_in bytes) []

abbrev pub behind_digits : List ℕ → List ℕ
behind_digits bytes = drop (length (digits_in bytes)) bytes

-- decimal: a digit at least, and no leading nought
abbrev pub is_decimal : List ℕ → Bool
is_decimal [] = false
is_decimal (d ∷ []) = true
is_decimal (d ∷ e ∷ ds) = ltb 48 d

-- the value of some digits behind digits of a value
unfoldable pub value_behind : ℕ → List ℕ → ℕ
value_behind n [] = n
value_behind n (d ∷ ds) = value_behind (n * 10 + (d - 48)) ds

-- the number in front of some bytes: decimal and at most a limit; or none
unfoldable pub number_in : ℕ → List ℕ → Option ℕ
number_in limit bytes =
    let n = value_behind 0 (digits_in bytes) in
    cond (is_decimal (digits_in bytes) && leb n limit) (Some n) None

-- what is found of bytes from a place on: the number in front of them and the place behind its digits
abbrev pub found_to : ℕ → Option ℕ → Option Found
found_to at None = None
found_to at (Some n) = Some (record { value = n; at = at })

unfoldable pub found_at : ℕ → List ℕ → ℕ → Option Found
found_at limit bytes from = found_to (from + length (digits_in (drop from bytes))) (number_in limit (drop from bytes))
