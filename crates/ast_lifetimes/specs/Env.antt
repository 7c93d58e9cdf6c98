-- The AST's environment, as `from_method_item` builds it: names in order of declaration, and bounds between them by
-- number.
use Rattle.std.specs.Prelude.{ℕ, suc, ◌+◌, ◌-◌, Bool, true, cond, ◌&&◌, not, List, [], ◌∷◌, ◌++◌, map, eqb}
use Rattle.std.specs.Prelude as prelude
use Rattle.std.specs.Prelude.{leb, ltb, length, take, replicate, position}
use Rattle.answers.specs.declared.Refusal.TheVariants.{Malformed, Duplicate, Undeclared, Full}
use Rattle.lifetimes.specs.declared.bounds.Bound.{Bound}
use Rattle.answers.specs.Lists.{any, filter}
use Rattle.answers.specs.Refusals.{Check, check, Outcome, unless}
use Rattle.answers.specs.Lent.{room_check}
use Rattle.lifetimes.specs.Limits.{most_bounds}
use Rattle.lifetimes.specs.Bounds.{above, list_of, bounds_from, bounds_checks}
use Rattle.lifetimes.specs.Walk.{FirstFirst, traversal}
use Rattle.ast_lifetimes.specs.declared.env.LifetimeEnv.{LifetimeEnv}
use Rattle.ast_lifetimes.specs.Shapes.{is_name, names_in_shape, impl_names, method_names, Pair, pair, bounds_in_shape}
use Rattle.ast_lifetimes.specs.Shapes.{impl_pairs, method_pairs}
use Rattle.ast_lifetimes.specs.Types.{TypeName, Other, Named, Reference, Option, Result}
use Rattle.ast_lifetimes.specs.Types.{types_in_shape, type_names_of}

-- 01: "all names, at most 32"
abbrev pub most_names : ℕ
most_names = 32

-- Names

-- the number of a name, its place among the declared ones; one that is not declared has the number past them. Of equal
-- names the first counts
unfoldable pub place : List ℕ → ℕ → ℕ
place [] word = 0
place (name ∷ names) word = cond (eqb name word) 0 (suc (place names word))

abbrev pub is_declared : List ℕ → ℕ → Bool
is_declared names word = ltb (place names word) (length names)

-- the number of a name; none for one that is not declared
abbrev pub id_of : List ℕ → ℕ → prelude.Option ℕ
id_of names word = position (λ name. eqb name word) names

-- at a name: a 33rd (4), declared again (2)
unfoldable pub name_checks : List ℕ → List ℕ → List Check
name_checks before [] = []
name_checks before (name ∷ names) =
    check (leb most_names (length before)) Full
    ∷ check (is_declared before name) Duplicate
    ∷ name_checks (before ++ (name ∷ [])) names

-- Bounds

-- at a pair: its longer side not declared, its shorter side not declared (3), a 257th (4)
abbrev pub pair_checks : List ℕ → ℕ → Pair → List Check
pair_checks names pushed p =
    check (not (is_declared names p.longer)) Undeclared
    ∷ check (not (is_declared names p.shorter)) Undeclared
    ∷ check (leb most_bounds pushed) Full
    ∷ []

unfoldable pub all_pair_checks : List ℕ → ℕ → List Pair → List Check
all_pair_checks names pushed [] = []
all_pair_checks names pushed (p ∷ ps) = pair_checks names pushed p ++ all_pair_checks names (suc pushed) ps

-- the bound of a pair of names
abbrev pub bound_of : List ℕ → Pair → Bound
bound_of names p = above (place names p.longer) (place names p.shorter)

abbrev pub bounds_for : List ℕ → List Pair → List Bound
bounds_for names ps = map (bound_of names) ps

-- Reach: `longer_than` and `shorter_than`, depth first in list order; nothing for an unknown name
abbrev pub reach_of : Bool → List ℕ → List Bound → ℕ → List ℕ
reach_of longer names bs word = cond (is_declared names word) (traversal FirstFirst longer bs (place names word)) []

-- Implied bounds (`extend_implicit_lifetime_bounds`)

-- what a type stands behind: a named reference, or none
pub data Behind : Type 0 where
  Ref : ℕ → Behind
  Nothing : Behind

-- "Inner references replace R; anonymous and static ones clear it"
abbrev pub behind_ref : ℕ → Behind
behind_ref word = cond (is_name word) (Ref word) Nothing

-- a path's named lifetimes that are not among `longer_than` R, each longer than R
abbrev pub among : List ℕ → List Bound → ℕ → ℕ → Bool
among names bs r word = is_declared names word && any (eqb (place names word)) (reach_of true names bs r)

abbrev pub path_pairs : List ℕ → List Bound → ℕ → List ℕ → List Pair
path_pairs names bs r lifetimes =
    map (λ word. pair word r) (filter (λ word. is_name word && not (among names bs r word)) lifetimes)

-- the pairs that a type implies, given the bounds before it; each path's list is taken before its first push
unfoldable pub implied : List ℕ → Behind → List Bound → TypeName → List Pair
implied names b bs Other = []
implied names Nothing bs (Named lifetimes) = []
implied names (Ref r) bs (Named lifetimes) = path_pairs names bs r lifetimes
implied names b bs (Reference word t) = implied names (behind_ref word) bs t
implied names b bs (Option t) = implied names Nothing bs t
implied names b bs (Result t u) =
    implied names Nothing bs t
    ++ implied names Nothing (bs ++ bounds_for names (implied names Nothing bs t)) u

unfoldable pub all_implied : List ℕ → List Bound → List TypeName → List Pair
all_implied names bs [] = []
all_implied names bs (t ∷ ts) =
    implied names Nothing bs t ++ all_implied names (bs ++ bounds_for names (implied names Nothing bs t)) ts

-- The environment as a value

abbrev pub names_of : LifetimeEnv → List ℕ
names_of e = take e.named e.names

abbrev pub bounds_of : LifetimeEnv → List Bound
bounds_of e = list_of e.bounds

-- an environment with these names in the first places of its array, and these bounds
unfoldable pub named_env : List ℕ → List Bound → LifetimeEnv
named_env names bs = record {
  names = names ++ replicate (most_names - length names) 0;
  named = length names;
  bounds = bounds_from bs;
}

-- a value made by hand: a 33rd name, a 257th bound (4), a bound past the names (8)
abbrev pub env_checks : LifetimeEnv → List Check
env_checks e = check (ltb most_names e.named) Full ∷ bounds_checks e.named e.bounds

-- `from_method_item`: shape; then impl names, impl bounds, method names, method bounds, and what the types imply. An
-- impl bound sees impl names only

abbrev pub all_names_of : List ℕ → List ℕ
all_names_of names = impl_names names ++ method_names names

abbrev pub explicit_bounds : List ℕ → List ℕ → List Bound
explicit_bounds names bounds =
    bounds_for (impl_names names) (impl_pairs bounds) ++ bounds_for (all_names_of names) (method_pairs bounds)

abbrev pub implied_pairs : List ℕ → List ℕ → List ℕ → List Pair
implied_pairs names bounds types = all_implied (all_names_of names) (explicit_bounds names bounds) (type_names_of types)

-- by place
abbrev pub item_place_checks : List ℕ → List ℕ → List ℕ → List Check
item_place_checks names bounds types =
    name_checks [] (impl_names names)
    ++ (all_pair_checks (impl_names names) 0 (impl_pairs bounds)
    ++ (name_checks (impl_names names) (method_names names)
    ++ (all_pair_checks (all_names_of names) (length (impl_pairs bounds)) (method_pairs bounds)
    ++ all_pair_checks (all_names_of names) (length (impl_pairs bounds) + length (method_pairs bounds))
    (implied_pairs names bounds types))))

abbrev pub item_checks : List ℕ → List ℕ → List ℕ → List Check
item_checks names bounds types =
    check (not (names_in_shape names && (bounds_in_shape bounds && types_in_shape types))) Malformed
    ∷ item_place_checks names bounds types

-- the bounds: the explicit ones, then the implied ones
abbrev pub method_bounds : List ℕ → List ℕ → List ℕ → List Bound
method_bounds names bounds types =
    explicit_bounds names bounds ++ bounds_for (all_names_of names) (implied_pairs names bounds types)

unfoldable pub from_method_item : List ℕ → List ℕ → List ℕ → Outcome LifetimeEnv
from_method_item names bounds types =
    unless (item_checks names bounds types)
    (named_env (all_names_of names) (method_bounds names bounds types))

-- `extend_implicit_lifetime_bounds` of an environment made in any way: the types' shape (1), the environment (4, 8),
-- then what the types imply (3, 4)

abbrev pub implied_on : LifetimeEnv → List ℕ → List Pair
implied_on e types = all_implied (names_of e) (bounds_of e) (type_names_of types)

abbrev pub extended_with : LifetimeEnv → List ℕ → LifetimeEnv
extended_with e types = named_env (names_of e) (bounds_of e ++ bounds_for (names_of e) (implied_on e types))

abbrev pub extend_checks : LifetimeEnv → List ℕ → List Check
extend_checks e types =
    check (not (types_in_shape types)) Malformed
    ∷ env_checks e
    ++ all_pair_checks (names_of e) e.bounds.pushed (implied_on e types)

unfoldable pub extend_implied : LifetimeEnv → List ℕ → Outcome LifetimeEnv
extend_implied e types = unless (extend_checks e types) (extended_with e types)

-- `longer_than` and `shorter_than`: the environment (4, 8), a slice too short (9)
unfoldable pub list_than : Bool → LifetimeEnv → ℕ → ℕ → Outcome (List ℕ)
list_than longer e word room =
    unless (env_checks e ++ (room_check room (reach_of longer (names_of e) (bounds_of e) word) ∷ []))
    (reach_of longer (names_of e) (bounds_of e) word)
