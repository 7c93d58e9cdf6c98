-- Words copied from a record: its first ones, so many, for a slice with so much room. 9 where that is too little.
use Rattle.std.specs.Prelude.{ℕ, List, [], ◌∷◌, take}
use Rattle.answers.specs.Refusals.{Outcome, unless}
use Rattle.answers.specs.Lent.{room_check}

unfoldable pub copied : List ℕ → ℕ → ℕ → Outcome (List ℕ)
copied words count room = unless (room_check room (take count words) ∷ []) (take count words)
