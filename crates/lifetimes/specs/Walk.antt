-- The traversals along bounds, `all_longer_lifetimes` and `all_shorter_lifetimes`, as one definition over the direction
-- and over the order. The direction is true for longer, false for shorter, as the Rust's field `longer`. Lifetimes are
-- their numbers. Not here: that the fuel never runs out, so that the plain equations hold (Theorems.TraversalOrder),
-- and the lists of an environment (Reach.antt).
use Rattle.std.specs.Prelude.{ℕ, zero, suc, ◌+◌, Bool, true, false, cond, not, ◌≡◌, eqb, length}
use mathlib.Core.List.{List, [], ◌∷◌, ◌++◌, map, reverse_aux}
use Rattle.answers.specs.Lists.{filter, count}
use Rattle.lifetimes.specs.declared.bounds.Bound.{Bound}
use Rattle.lifetimes.specs.Sets.{empty, member, insert}

-- the side of a bound that a traversal in this direction comes from, and the side that it goes to
abbrev pub near : Bool → Bound → ℕ
near true b = b.shorter
near false b = b.longer

abbrev pub far : Bool → Bound → ℕ
far true b = b.longer
far false b = b.shorter

-- 01: "A lifetime's `longer` list is the longer sides of the bounds where it is the shorter, in push order; `shorter`
-- likewise."
unfoldable pub neighbours : Bool → List Bound → ℕ → List ℕ
neighbours d bs x = map (far d) (filter (λ b. eqb (near d b) x) bs)

-- Which of a list that is pushed is taken first. HIR: the last pushed. AST: the first of the list, so that it goes
-- depth first in list order.
pub data Order : Type 0 where
  LastFirst FirstFirst : Order

abbrev pub order_of : Bool → Order
order_of true = FirstFirst
order_of false = LastFirst

-- what is pending, the entry that is taken next first, after a list was pushed
abbrev pub push : Order → List ℕ → List ℕ → List ℕ
push LastFirst l pending = reverse_aux l pending
push FirstFirst l pending = l ++ pending

-- how many bounds have a near side that was not yet seen: what can still be pushed
unfoldable pub unpushed : Bool → List Bound → ℕ → ℕ
unpushed d bs seen = count (λ b. not (member seen (near d b))) bs

-- The next pending entry is passed over if it was seen; else it is listed, marked as seen, and its list is pushed. At
-- most `fuel` entries are taken.
unfoldable pub walk_for : ℕ → Order → Bool → List Bound → List ℕ → ℕ → List ℕ
walk_for zero o d bs pending seen = []
walk_for (suc fuel) o d bs [] seen = []
walk_for (suc fuel) o d bs (x ∷ pending) seen =
    cond (member seen x)
    (walk_for fuel o d bs pending seen)
    (x ∷ walk_for fuel o d bs (push o (neighbours d bs x) pending) (insert seen x))

-- the walk to its end: each entry taken was pending or is pushed later
unfoldable pub walk : Order → Bool → List Bound → List ℕ → ℕ → List ℕ
walk o d bs pending seen = walk_for (length pending + unpushed d bs seen) o d bs pending seen

-- the whole traversal: it starts with the lifetime itself, and nothing seen
unfoldable pub traversal : Order → Bool → List Bound → ℕ → List ℕ
traversal o d bs start = walk o d bs (start ∷ []) empty

-- what can be pending, and seen, in the course of a traversal
pub data Pending (o : Order) (d : Bool) (bs : List Bound) (start : ℕ) : List ℕ → ℕ → Type 0 where
  at_start : Pending o d bs start (start ∷ []) empty
  passed_over : {x : ℕ} {pending : List ℕ} {seen : ℕ} → member seen x ≡ true → Pending o d bs start (x ∷ pending) seen
      → Pending o d bs start pending seen
  listed : {x : ℕ} {pending : List ℕ} {seen : ℕ} → member seen x ≡ false → Pending o d bs start (x ∷ pending) seen
      → Pending o d bs start (push o (neighbours d bs x) pending) (insert seen x)
