-- For private functions of the programs only: what is left of what was read, once some of it is taken off the front.
use Rattle.std.specs.Prelude.{ℕ, ◌≡◌, ◌-◌, List, length, drop}

-- what is left afterwards is what was left before, from some place on
abbrev pub TakesFront : List ℕ → List ℕ → Type 0
TakesFront before after = after ≡ drop (length before - length after) before
