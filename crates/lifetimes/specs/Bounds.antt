-- Bounds in push order, and their refusals. A caller can make any value, so every call that takes one checks it.
use Rattle.std.specs.Prelude.{ℕ, ◌-◌, min, Bool, ◌&&◌, not, List, [], ◌∷◌, ◌++◌, ltb, length, take, replicate}
use Rattle.answers.specs.declared.Refusal.TheVariants.{Full, OutOfRange}
use Rattle.answers.specs.Lists.{all}
use Rattle.answers.specs.Refusals.{Check, check}
use Rattle.lifetimes.specs.declared.bounds.Bound.{Bound}
use Rattle.lifetimes.specs.declared.bounds.Bounds.{Bounds}
use Rattle.lifetimes.specs.Limits.{most_bounds}

-- l lasts at least as long as s
abbrev pub above : ℕ → ℕ → Bound
above l s = record { longer = l; shorter = s }

-- a number as a bound keeps it, in a byte: 255 for all above 254
abbrev pub byte_of : ℕ → ℕ
byte_of n = min n 255

-- the bounds, in push order
abbrev pub list_of : Bounds → List Bound
list_of b = take b.pushed b.list

-- some bounds in the first places of the array
unfoldable pub bounds_from : List Bound → Bounds
bounds_from bs = record { pushed = length bs; list = bs ++ replicate (most_bounds - length bs) (above 0 0) }

-- both sides of a bound, of each bound, are numbered below n
abbrev pub both_below : ℕ → Bound → Bool
both_below n b = ltb b.longer n && ltb b.shorter n

abbrev pub all_below : ℕ → List Bound → Bool
all_below n bs = all (both_below n) bs

-- a 257th (4); one past so many lifetimes (8)
abbrev pub too_many : Bounds → Check
too_many b = check (ltb most_bounds b.pushed) Full

abbrev pub one_past : ℕ → Bounds → Check
one_past lifetimes b = check (not (all_below lifetimes (list_of b))) OutOfRange

abbrev pub bounds_checks : ℕ → Bounds → List Check
bounds_checks lifetimes b = too_many b ∷ one_past lifetimes b ∷ []
