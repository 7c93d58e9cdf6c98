-- For private functions only: what the index of an environment holds, and what a traversal over it has pending. No
-- public contract cites this file. The index: for each bound its far side and the bound before it with the same near
-- side, for each lifetime the last bound whose near side it is: chains. A bound's number is its place counted from 1,
-- and 0 stands for none. A list is pushed in order and its last entry is taken first, so what a traversal pushes of a
-- lifetime is the chain of its last bound.
use Rattle.std.specs.Prelude.{ℕ, zero, suc, ◌≤◌, ◌<◌, Bool, true, false, cond, ◌≡◌, eqb, leb, length, get_or, take}
use Rattle.std.specs.Prelude.{Some, None, Option}
use mathlib.Core.List.{List, [], ◌∷◌, ◌++◌, map, flatten, reverse, Memᴰ}
use Rattle.std.proofs.lemmas.List.Edits.{sets}
use Rattle.lifetimes.specs.declared.bounds.Bound.{Bound}
use Rattle.lifetimes.specs.declared.env.LifetimeEnv.{LifetimeEnv}
use Rattle.lifetimes.specs.declared.index.Index.{Index}
use Rattle.lifetimes.specs.declared.walk.Stepped.{Stepped}
use Rattle.lifetimes.specs.declared.lifetime.Lifetime.{Lifetime}
use Rattle.lifetimes.specs.declared.walk.Walked.{Walked}
use Rattle.answers.specs.Lists.{range}
use Rattle.lifetimes.specs.Sets.{member, set_of}
use Rattle.lifetimes.specs.Bounds.{above}
use Rattle.lifetimes.specs.Env.{bounds_of}
use Rattle.lifetimes.specs.Walk.{near, far, Order, LastFirst, FirstFirst, traversal}
use Rattle.lifetimes.specs.Reach.{reach_list, depth_first}
use Rattle.answers.specs.Lists.{ends_from}
use Rattle.lifetimes.specs.Limits.{most_bounds, most_lifetimes}

-- a direction, and the bounds in the order in which they are linked
pub record Graph : Type 0 where
  pub longer : Bool
  pub bounds : List Bound

abbrev pub graph_of : Bool → LifetimeEnv → Graph
graph_of d e = record { longer = d; bounds = bounds_of e }

-- The bounds in the order in which they are linked: a chain tries them backwards, so for the AST's order they are
-- linked from the last to the first
abbrev pub linked_in : Order → List Bound → List Bound
linked_in LastFirst bs = bs
linked_in FirstFirst bs = reverse bs

abbrev pub graph_in : Order → Bool → List Bound → Graph
graph_in o d bs = record { longer = d; bounds = linked_in o bs }

abbrev pub near_at : Graph → ℕ → ℕ
near_at g j = near g.longer (get_or g.bounds j (above 0 0))

abbrev pub far_at : Graph → ℕ → ℕ
far_at g j = far g.longer (get_or g.bounds j (above 0 0))

-- the number of the last of the first i bounds whose near side is x
unfoldable pub last_of : Graph → ℕ → ℕ → ℕ
last_of g zero x = 0
last_of g (suc i) x = cond (eqb (near_at g i) x) (suc i) (last_of g i x)

-- the far sides of those of the first i bounds whose near side is x, the last first
unfoldable pub back : Graph → ℕ → ℕ → List ℕ
back g zero x = []
back g (suc i) x = cond (eqb (near_at g i) x) (far_at g i ∷ back g i x) (back g i x)

-- the chain of a bound: its far side, and those of the bounds before it with the same near side
unfoldable pub chain : Graph → ℕ → List ℕ
chain g zero = []
chain g (suc j) = back g (suc j) (near_at g j)

-- the chains of the first n bounds that a stack holds, the last first
unfoldable pub chains : Graph → List ℕ → ℕ → List ℕ
chains g stack zero = []
chains g stack (suc n) = chain g (get_or stack n 0) ++ chains g stack n

-- what is pending: the chain that the traversal is in, and those of the stack
abbrev pub pending : Graph → List ℕ → ℕ → ℕ → List ℕ
pending g stack at depth = chain g at ++ chains g stack depth

-- the pending entries from the first that is not in `seen` on
unfoldable pub skip : ℕ → List ℕ → List ℕ
skip seen [] = []
skip seen (x ∷ p) = cond (member seen x) (skip seen p) (x ∷ p)

-- bounds that the index has room for
pub record Fine (bs : List Bound) : Type 0 where
  pub few : length bs ≤ most_bounds
  pub small : (b : Bound) → Memᴰ b bs → (b.longer < most_lifetimes) × (b.shorter < most_lifetimes)

pub record Chained (g : Graph) (x : Index) : Type 0 where
  pub few : length g.bounds ≤ most_bounds
  pub small : (b : Bound) → Memᴰ b g.bounds → far g.longer b < most_lifetimes
  pub far : (j : ℕ) → j < length g.bounds → get_or x.far j 0 ≡ far_at g j
  pub before : (j : ℕ) → j < length g.bounds → get_or x.before j 0 ≡ last_of g j (near_at g j)

-- the lifetimes that the bounds lead to are below a limit
abbrev pub Within : Graph → ℕ → Type 0
Within g limit = (b : Bound) → Memᴰ b g.bounds → far g.longer b < limit

pub record Indexed (g : Graph) (x : Index) : Type 0 where
  pub within : Within g x.declared
  pub declares : x.declared ≤ x.count
  pub counted : x.count ≤ most_lifetimes
  pub chained : Chained g x
  pub last : (k : ℕ) → k < most_lifetimes → get_or x.last k 0 ≡ last_of g (length g.bounds) k

-- each number that a traversal holds is that of a bound, or 0
pub record Ready (g : Graph) (stack : List ℕ) (at depth : ℕ) : Type 0 where
  pub here : at ≤ length g.bounds
  pub deep : depth ≤ most_lifetimes
  pub held : (k : ℕ) → k < depth → get_or stack k 0 ≤ length g.bounds

abbrev pub Standing : Index → List ℕ → ℕ → ℕ → Type 0
Standing x stack at depth = (g : Graph) × Chained g x × Ready g stack at depth

-- what is pending from the first unseen entry on, by what a step yields
abbrev pub step_of : Graph → List ℕ → Option Lifetime → ℕ → ℕ → List ℕ
step_of g stack None at depth = []
step_of g stack (Some l) at depth = l.0 ∷ pending g stack at depth

pub record Steps (g : Graph) (stack : List ℕ) (seen at depth : ℕ) (r : Stepped) : Type 0 where
  pub skips : skip seen (pending g stack at depth) ≡ step_of g stack r.next r.at r.depth
  pub here : r.at ≤ length g.bounds
  pub deep : r.depth ≤ depth

-- how many lifetimes a traversal can list
abbrev pub Limits : Index → ℕ → ℕ → Type 0
Limits x start limit = (start < limit) × (limit ≤ x.count) × (x.declared ≤ limit)

abbrev pub Walkable : Index → ℕ → Type 0
Walkable x start = ((g : Graph) × Indexed g x) × (start < x.count)

-- the list of a lifetime over a graph, and its set
abbrev pub list_over : Graph → ℕ → List ℕ
list_over g start = traversal LastFirst g.longer g.bounds start

abbrev pub set_over : Graph → ℕ → ℕ
set_over g start = set_of (list_over g start)

-- the list of a lifetime of an environment, in the AST's order or in the HIR's
abbrev pub list_by : Bool → Bool → LifetimeEnv → ℕ → List ℕ
list_by true d e start = depth_first d e start
list_by false d e start = reach_list d e start

-- a traversal that is complete: its items stand in the first places, and their set is the seen one
pub record Complete (g : Graph) (start : ℕ) (held : List ℕ) (r : Walked) : Type 0 where
  pub items : take r.count held ≡ list_over g start
  pub seen : r.seen ≡ set_over g start

-- the lists of n lifetimes from x on, and their sets
abbrev pub lists_from : Graph → ℕ → ℕ → List (List ℕ)
lists_from g x n = map (list_over g) (range x n)

abbrev pub sets_from : Graph → ℕ → ℕ → List ℕ
sets_from g x n = map (set_over g) (range x n)

abbrev pub Measurable : Index → Type 0
Measurable x = (g : Graph) × Indexed g x

pub record Measures (g : Graph) (count : ℕ) (reach₀ reach₁ : List ℕ) (total₁ : ℕ) : Type 0 where
  pub total : total₁ ≡ length (flatten (lists_from g 0 count))
  pub reach : reach₁ ≡ sets reach₀ 0 (sets_from g 0 count)

-- whether the lists have room together
pub record Fits (g : Graph) (count room : ℕ) (r : Bool) : Type 0 where
  pub fits : r ≡ leb (length (flatten (lists_from g 0 count))) room

abbrev pub Layable : Index → ℕ → Type 0
Layable x room = (g : Graph) × Indexed g x × (length (flatten (lists_from g 0 x.count)) ≤ room)

pub record Lays (g : Graph) (count : ℕ) (words₀ ends₀ reach₀ words₁ ends₁ reach₁ : List ℕ) (total₁ : ℕ) : Type 0 where
  pub measures : Measures g count reach₀ reach₁ total₁
  pub words : words₁ ≡ sets words₀ 0 (flatten (lists_from g 0 count))
  pub ends : ends₁ ≡ sets ends₀ 0 (ends_from 0 (lists_from g 0 count))
