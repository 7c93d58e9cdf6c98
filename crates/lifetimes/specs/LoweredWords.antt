-- Lowered words (01: "A *lowered* word: 0 static, k the lifetime numbered k − 1"), both ways, for a method's lifetimes
-- and for a definition's. A word is a 64-bit number. The lifetime numbered 2^64 - 1, which stands for `Strs`, has none.
use Rattle.std.specs.Prelude.{ℕ, zero, suc, ◌^◌, cond, ltb, Some, None, Option}
use Rattle.lifetimes.specs.declared.lifetime.Lifetime.{Lifetime}
use Rattle.lifetimes.specs.declared.def_lifetime.DefLifetime.{DefLifetime}
use Rattle.lifetimes.specs.declared.maybe_static.MaybeStatic.{MaybeStatic}
use Rattle.lifetimes.specs.declared.maybe_static.MaybeStatic.TheVariants.{Static, NonStatic}
use Rattle.lifetimes.specs.Numbers.{lifetime, def_lifetime}

-- what a word stands for, where a kind of lifetime is made from its number
abbrev pub stands_for : {L : Type 0} → (ℕ → L) → ℕ → MaybeStatic L
stands_for numbered zero = Static
stands_for numbered (suc k) = NonStatic (numbered k)

abbrev pub from_word : ℕ → MaybeStatic Lifetime
from_word w = stands_for lifetime w

abbrev pub def_from_word : ℕ → MaybeStatic DefLifetime
def_from_word w = stands_for def_lifetime w

-- the word as a number of any size, where a lifetime has this number
abbrev pub word_above : {L : Type 0} → (L → ℕ) → MaybeStatic L → ℕ
word_above number Static = 0
word_above number (NonStatic l) = suc (number l)

abbrev pub word_of : MaybeStatic Lifetime → ℕ
word_of m = word_above (λ l. l.0) m

abbrev pub def_word_of : MaybeStatic DefLifetime → ℕ
def_word_of m = word_above (λ l. l.0) m

-- the word, where it fits
abbrev pub if_fits : ℕ → Option ℕ
if_fits w = cond (ltb w (2 ^ 64)) (Some w) None

abbrev pub word_answer : MaybeStatic Lifetime → Option ℕ
word_answer m = if_fits (word_of m)

abbrev pub def_word_answer : MaybeStatic DefLifetime → Option ℕ
def_word_answer m = if_fits (def_word_of m)
