-- The main theorems of this crate, stated. Each has its proof, a term of exactly this type and of the same name in
-- small letters, in proofs/Theorems.antt.
use Rattle.std.specs.Prelude.{ℕ, ◌+◌, ◌≤◌, ◌<◌, Bool, true, false, ◌≡◌, ◌↔◌, length, get_or, Ok, Err, Some, None}
use mathlib.Core.List.{List, [], ◌∷◌, map, Memᴰ, Nodup}
use Rattle.answers.specs.declared.Refusal.TheVariants.{Mismatch}
use Rattle.lifetimes.specs.declared.bounds.Bound.{Bound}
use Rattle.lifetimes.specs.declared.env.LifetimeEnv.{LifetimeEnv}
use Rattle.answers.specs.Lists.{range}
use Rattle.lifetimes.specs.Numbers.{def_lifetime}
use Rattle.answers.specs.Refusals.{NoneDue}
use Rattle.lifetimes.specs.Sets.{empty, member, insert}
use Rattle.lifetimes.specs.Env.{bounds_of, env_checks}
use Rattle.lifetimes.specs.Walk.{neighbours, Order, push, walk, traversal, Pending}
use Rattle.lifetimes.specs.Reach.{reach_list, reach_set, depth_first}
use Rattle.lifetimes.specs.Outlives.{Outlives, Toward, ForcedAbove, ForcedAboveℤ}
use Rattle.lifetimes.specs.Linked.{linked_word, linked_pair, pairs_with_places}
use Rattle.lifetimes.specs.Examples.{starred, Right}

-- The traversals' order (01: "start with the lifetime itself, push a list in order and take the last pushed first; the
-- walk passes over lifetimes already seen until one is yielded. Never more than 1 plus the bounds' number are
-- pending"), for both directions, and for the AST's order too.
pub record TraversesInOrder (o : Order) (d : Bool) (bs : List Bound) : Type 0 where
  pub starts : (k : ℕ) → traversal o d bs k ≡ walk o d bs (k ∷ []) empty
  pub ends : (seen : ℕ) → walk o d bs [] seen ≡ []
  pub passes_over : (x : ℕ) (pending : List ℕ) (seen : ℕ) → member seen x ≡ true
      → walk o d bs (x ∷ pending) seen ≡ walk o d bs pending seen
  pub lists : (x : ℕ) (pending : List ℕ) (seen : ℕ) → member seen x ≡ false
      → walk o d bs (x ∷ pending) seen ≡ x ∷ walk o d bs (push o (neighbours d bs x) pending) (insert seen x)
  pub few_pending : (k : ℕ) (pending : List ℕ) (seen : ℕ) → Pending o d bs k pending seen
      → length pending ≤ length bs + 1

abbrev pub TraversalOrder : Type 0
TraversalOrder = (o : Order) (d : Bool) (bs : List Bound) → TraversesInOrder o d bs

-- Reach against the Reference: a lifetime's list has exactly the lifetimes that outlive it (that it outlives), first
-- itself, none twice; an elided lifetime lists itself only; its set has the members of its list. For every environment
-- on which no refusal is due and every lifetime of it; in the HIR's order, with the sets, and in the AST's.
pub record ListsTheReach (d : Bool) (e : LifetimeEnv) (k : ℕ) (list : List ℕ) : Type 0 where
  pub members : (b : ℕ) → Memᴰ b list ↔ ((b < e.count) × Toward d (bounds_of e) k b)
  pub first : (rest : List ℕ) × (list ≡ k ∷ rest)
  pub once : Nodup list
  pub elided : e.declared ≤ k → list ≡ k ∷ []

pub record Reaches (d : Bool) (e : LifetimeEnv) (k : ℕ) : Type 0 where
  pub list : ListsTheReach d e k (reach_list d e k)
  pub set : (b : ℕ) → (member (reach_set d e k) b ≡ true) ↔ Memᴰ b (reach_list d e k)
  pub depth_first_lem : ListsTheReach d e k (depth_first d e k)

abbrev pub ReachIsOutlives : Type 0
ReachIsOutlives = (d : Bool) (e : LifetimeEnv) → NoneDue (env_checks e) → (k : ℕ) → k < e.count → Reaches d e k

-- Outlives is *forced above*: b outlives l exactly if every numbering that respects the bounds puts b at l's number or
-- higher; by natural numbers and by integers. For all bounds.
abbrev pub OutlivesIsForced : Type 0
OutlivesIsForced =
    (bs : List Bound) (l b : ℕ)
    → (Outlives bs b l ↔ ForcedAbove bs b l)
    × (Outlives bs b l ↔ ForcedAboveℤ bs b l)

-- Links (01: "`LinkedLifetimes` pairs the caller's list .. with the definition's lifetimes by place"): of as many words
-- as the definition has lifetimes each lifetime has the word at its place, the pairs in order are the words with their
-- places, and from the count on there is nothing; where they are not as many, both readers are refused by 7. For all
-- words.
pub record LinksByPlace (words : List ℕ) (count : ℕ) : Type 0 where
  pub word : (j : ℕ) → j < count → linked_word words count (def_lifetime j) ≡ Ok (Some (get_or words j 0))
  pub no_word : (j : ℕ) → count ≤ j → linked_word words count (def_lifetime j) ≡ Ok None
  pub pairs : map (linked_pair words count) (range 0 count) ≡ pairs_with_places 0 words
  pub no_pair : (j : ℕ) → count ≤ j → linked_pair words count j ≡ Ok None

abbrev pub LinkedByPlace : Type 0
LinkedByPlace =
    (words : List ℕ) (count : ℕ) → (length words ≡ count → LinksByPlace words count)
    × ((length words ≡ count → ⊥) → (j : ℕ) → (linked_word words count (def_lifetime j) ≡ Err Mismatch)
    × (linked_pair words count j ≡ Err Mismatch))

-- The starred examples
abbrev pub ExamplesHold : Type 0
ExamplesHold = Right starred
