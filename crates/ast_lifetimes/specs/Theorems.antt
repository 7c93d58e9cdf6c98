-- The main theorems of this crate, stated. Each has its proof, a term of exactly this type and of the same name in
-- small letters, in proofs/Theorems.antt.
use Rattle.std.specs.Prelude.{ℕ, Bool, true, false, ◌&&◌, ◌≡◌, ◌↔◌, Ok}
use mathlib.Core.List.{List, [], ◌∷◌, ◌++◌, Memᴰ, Nodup}
use Rattle.lifetimes.specs.declared.bounds.Bound.{Bound}
use Rattle.answers.specs.Refusals.{NoneDue}
use Rattle.lifetimes.specs.Sets.{empty}
use Rattle.lifetimes.specs.Walk.{LastFirst, traversal}
use Rattle.lifetimes.specs.Outlives.{Toward}
use Rattle.ast_lifetimes.specs.declared.env.LifetimeEnv.{LifetimeEnv}
use Rattle.ast_lifetimes.specs.Shapes.{names_in_shape, bounds_in_shape, impl_names, method_names}
use Rattle.ast_lifetimes.specs.Types.{types_in_shape}
use Rattle.ast_lifetimes.specs.Env.{place, is_declared, bounds_for, reach_of, names_of, bounds_of, all_names_of}
use Rattle.ast_lifetimes.specs.Env.{explicit_bounds, implied_pairs, from_method_item, env_checks}
use Rattle.ast_lifetimes.specs.Entries.{built}
use Rattle.ast_lifetimes.specs.DepthFirst.{ListsDepthFirst}
use Rattle.ast_lifetimes.specs.Examples.{starred, Right}

-- A method's environment is built entry by entry in 01's order, to the first refusal; its names are all names in order,
-- the impl's first, and its bounds the explicit ones in order, the impl's first, followed by the implied ones in the
-- record's order.
pub record InOrder (names bounds types : List ℕ) : Type 0 where
  pub folded : names_in_shape names && (bounds_in_shape bounds && types_in_shape types) ≡ true
      → from_method_item names bounds types ≡ built names bounds types
  pub names_first : (e : LifetimeEnv) → from_method_item names bounds types ≡ Ok e
      → names_of e ≡ impl_names names ++ method_names names
  pub bounds_then : (e : LifetimeEnv) → from_method_item names bounds types ≡ Ok e
      → bounds_of e ≡ explicit_bounds names bounds ++ bounds_for (all_names_of names) (implied_pairs names bounds types)

abbrev pub BuiltInOrder : Type 0
BuiltInOrder = (names bounds types : List ℕ) → InOrder names bounds types

-- What is given is an environment on which no refusal is due, as the calls ask that take one
abbrev pub AcceptedIsValid : Type 0
AcceptedIsValid = (names bounds types : List ℕ) (e : LifetimeEnv) → from_method_item names bounds types ≡ Ok e
    → NoneDue (env_checks e)

-- `longer_than` and `shorter_than`: nothing for an unknown name; of a declared one exactly what outlives it (what it
-- outlives), each once: the members of the HIR's traversal along the same bounds. One statement over the direction.
pub record ListsNamedReach (longer : Bool) (names : List ℕ) (bs : List Bound) (word : ℕ) : Type 0 where
  pub unknown : is_declared names word ≡ false → reach_of longer names bs word ≡ []
  pub members : is_declared names word ≡ true → (b : ℕ) → Memᴰ b (reach_of longer names bs word)
      ↔ Toward longer bs (place names word) b
  pub traversed : is_declared names word ≡ true → (b : ℕ) → Memᴰ b (reach_of longer names bs word)
      ↔ Memᴰ b (traversal LastFirst longer bs (place names word))
  pub once : Nodup (reach_of longer names bs word)

abbrev pub AstReachIsOutlives : Type 0
AstReachIsOutlives = (longer : Bool) (names : List ℕ) (bs : List Bound) (word : ℕ)
    → ListsNamedReach longer names bs word

-- Both list depth first in list order: what plain recursion lists, and nothing else is so listed
pub record DepthFirst (longer : Bool) (names : List ℕ) (bs : List Bound) (word : ℕ) : Type 0 where
  pub listed : (seen : ℕ) × ListsDepthFirst longer bs empty (place names word ∷ []) (reach_of longer names bs word) seen
  pub only : (l : List ℕ) (seen : ℕ) → ListsDepthFirst longer bs empty (place names word ∷ []) l seen
      → l ≡ reach_of longer names bs word

abbrev pub ListedDepthFirst : Type 0
ListedDepthFirst = (longer : Bool) (names : List ℕ) (bs : List Bound) (word : ℕ) → is_declared names word ≡ true
    → DepthFirst longer names bs word

-- The starred examples
abbrev pub ExamplesHold : Type 0
ExamplesHold = Right starred
