-- What bounds mean. *Outlives* is the Reference's relation ("'a: 'b means that 'a lasts at least as long as 'b");
-- *forced above* (condition 3) says it by numbers: whatever numbers the lifetimes are given, as long as they respect
-- the bounds. Theorems.OutlivesIsForced: the two are the same.
use Rattle.std.specs.Prelude.{ℕ, ◌≤◌, Bool, true, false, ℤ, ◌≤ℤ◌}
use mathlib.Core.List.{List, Memᴰ}
use Rattle.lifetimes.specs.declared.bounds.Bound.{Bound}

-- the least relation that is reflexive, transitive, and has each bound's longer side outlive its shorter
pub data Outlives (bs : List Bound) : ℕ → ℕ → Type 0 where
  itself : {x : ℕ} → Outlives bs x x
  by_bound : {b : Bound} → Memᴰ b bs → Outlives bs b.longer b.shorter
  through : {x y z : ℕ} → Outlives bs x y → Outlives bs y z → Outlives bs x z

-- y is in x's direction: longer, y outlives x; shorter, x outlives y
abbrev pub Toward : Bool → List Bound → ℕ → ℕ → Type 0
Toward true bs x y = Outlives bs y x
Toward false bs x y = Outlives bs x y

-- a numbering of the lifetimes, in numbers N ordered by `below`, respects the bounds
abbrev pub Respects : (N : Type 0) → (N → N → Type 0) → (ℕ → N) → List Bound → Type 0
Respects N below v bs = (b : Bound) → Memᴰ b bs → below (v b.shorter) (v b.longer)

-- b is forced above l: every numbering that respects the bounds puts b at l's number or higher
abbrev pub ForcedIn : (N : Type 0) → (N → N → Type 0) → List Bound → ℕ → ℕ → Type 0
ForcedIn N below bs b l = (v : ℕ → N) → Respects N below v bs → below (v l) (v b)

-- by natural numbers, and by integers
abbrev pub ForcedAbove : List Bound → ℕ → ℕ → Type 0
ForcedAbove bs b l = ForcedIn ℕ ◌≤◌ bs b l

abbrev pub ForcedAboveℤ : List Bound → ℕ → ℕ → Type 0
ForcedAboveℤ bs b l = ForcedIn ℤ ◌≤ℤ◌ bs b l
