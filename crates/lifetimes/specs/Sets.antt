-- Sets of lifetimes as 64 bits (01: "sets as 64 bits"): a set is a number, and x is in it where bit x is 1. In order:
-- the empty set, membership, one member more, union, the members in ascending order, how many, the set of a list. Laws:
-- proofs/SetLaws.antt.
use Rattle.std.specs.Prelude.{ℕ, ◌/◌, ◌%◌, ◌^◌, Bool, List, [], ◌∷◌, eqb, length}
use Rattle.std.specs.Int.Bits.{bit_or}
use Rattle.answers.specs.Lists.{range, filter}
use Rattle.answers.specs.Refusals.{Outcome, unless}
use Rattle.answers.specs.Lent.{room_check}
use Rattle.lifetimes.specs.Limits.{most_lifetimes}

abbrev pub empty : ℕ
empty = 0

unfoldable pub member : ℕ → ℕ → Bool
member s x = eqb (s / 2 ^ x % 2) 1

unfoldable pub insert : ℕ → ℕ → ℕ
insert s x = bit_or s (2 ^ x)

unfoldable pub union : ℕ → ℕ → ℕ
union s t = bit_or s t

-- the members below 64, ascending
unfoldable pub members : ℕ → List ℕ
members s = filter (member s) (range 0 most_lifetimes)

unfoldable pub cardinality : ℕ → ℕ
cardinality s = length (members s)

-- a set with all entries of a list put in
unfoldable pub insert_all : ℕ → List ℕ → ℕ
insert_all s [] = s
insert_all s (x ∷ l) = insert_all (insert s x) l

abbrev pub set_of : List ℕ → ℕ
set_of l = insert_all empty l

-- the members of a set for a slice with so much room
unfoldable pub list_members : ℕ → ℕ → Outcome (List ℕ)
list_members s room = unless (room_check room (members s) ∷ []) (members s)
