-- Printing: a text is stored from a place on as far as the slice goes, and the answer is the place behind it, at most
-- 2^64 - 1. No slice has more bytes than that, so nothing is stored from there on; into no room at all a printer
-- measures.
use Rattle.std.specs.Prelude.{ℕ, ◌+◌, ◌-◌, ◌^◌, min, ◌≡◌, List, length}
use Rattle.std.proofs.lemmas.List.Edits.{sets}

-- the place behind a text that starts at a place
abbrev pub behind : ℕ → List ℕ → ℕ
behind at text = min (at + length text) (2 ^ 64 - 1)

-- a text is printed to a slice from a place on: the place that is answered, and what is left in the slice
pub record Prints (text : List ℕ) (at : ℕ) (out : List ℕ) (at₁ : ℕ) (out₁ : List ℕ) : Type 0 where
  pub answer : at₁ ≡ behind at text
  pub stored : out₁ ≡ sets out at text
