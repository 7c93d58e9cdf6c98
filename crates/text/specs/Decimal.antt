-- Numbers and lines of numbers as bytes: what is printed. Bytes are numbers.
use Rattle.std.specs.Prelude.{ℕ, zero, suc, ◌+◌, ◌-◌, ◌/◌, ◌%◌, cond, List, [], ◌∷◌, ◌++◌, ltb, length, replicate}

-- LF and the blank, as bytes
abbrev pub newline : ℕ
newline = 10

abbrev pub space : ℕ
space = 32

-- the digits of a number, each 48 and its value, no leading nought, with enough fuel. DigitsOfNumbers in
-- specs/Theorems.antt has the equations without the fuel.
unfoldable pub digits_for : ℕ → ℕ → List ℕ
digits_for zero n = []
digits_for (suc fuel) n = let more = digits_for fuel (n / 10) ++ ((48 + n % 10) ∷ []) in
    cond (ltb n 10) ((48 + n) ∷ []) more

unfoldable pub digits : ℕ → List ℕ
digits n = digits_for (suc n) n

-- a number at the right of a column: as many blanks in front as its digits leave of the width; a number with more
-- digits stands whole
unfoldable pub padded : ℕ → ℕ → List ℕ
padded width n = replicate (width - length (digits n)) space ++ digits n

-- what follows a word in its line: a space and the next word, or the line's end
unfoldable pub following : List ℕ → List ℕ
following [] = newline ∷ []
following (word ∷ words) = space ∷ digits word ++ following words

-- a line of words: one space between, LF at the end; no words are an empty line
unfoldable pub line : List ℕ → List ℕ
line [] = newline ∷ []
line (word ∷ words) = digits word ++ following words
