-- Reach in an environment, and what the calls answer: one list, all lists with their ends, all sets.
use Rattle.std.specs.Prelude.{ℕ, ◌-◌, Bool, leb, length, replicate}
use mathlib.Core.List.{List, [], ◌∷◌, ◌++◌, map, flatten}
use Rattle.answers.specs.declared.Refusal.TheVariants.{OutOfRange}
use Rattle.lifetimes.specs.declared.env.LifetimeEnv.{LifetimeEnv}
use Rattle.lifetimes.specs.declared.reach.Lists.{Lists}
use Rattle.answers.specs.Lists.{range, ends_from}
use Rattle.answers.specs.Refusals.{Check, check, Outcome, unless}
use Rattle.answers.specs.Lent.{room_check}
use Rattle.lifetimes.specs.Env.{bounds_of, env_checks}
use Rattle.lifetimes.specs.Sets.{set_of}
use Rattle.lifetimes.specs.Walk.{LastFirst, FirstFirst, traversal}
use Rattle.lifetimes.specs.Limits.{most_lifetimes}

-- What outlives a lifetime of an environment (longer), or what it outlives (shorter): the HIR's list, and its set
unfoldable pub reach_list : Bool → LifetimeEnv → ℕ → List ℕ
reach_list d e start = traversal LastFirst d (bounds_of e) start

unfoldable pub reach_set : Bool → LifetimeEnv → ℕ → ℕ
reach_set d e start = set_of (reach_list d e start)

-- and the AST's list, depth first in list order
unfoldable pub depth_first : Bool → LifetimeEnv → ℕ → List ℕ
depth_first d e start = traversal FirstFirst d (bounds_of e) start

-- A list of a lifetime: those of the environment (4, 8), a start past the count (8), a slice too short (9)
abbrev pub list_checks : LifetimeEnv → ℕ → List ℕ → ℕ → List Check
list_checks e start list room =
    env_checks e ++ (check (leb e.count start) OutOfRange ∷ room_check room list ∷ [])

unfoldable pub list_from : LifetimeEnv → ℕ → List ℕ → ℕ → Outcome (List ℕ)
list_from e start list room = unless (list_checks e start list room) list

-- `all_longer_lifetimes`, `all_shorter_lifetimes`
abbrev pub list_reach : Bool → LifetimeEnv → ℕ → ℕ → Outcome (List ℕ)
list_reach d e start room = list_from e start (reach_list d e start) room

-- `depth_first_lifetimes`
abbrev pub list_depth_first : Bool → LifetimeEnv → ℕ → ℕ → Outcome (List ℕ)
list_depth_first d e start room = list_from e start (depth_first d e start) room

-- All sets: that of the lifetime x at place x, and 0 at the places past the count
unfoldable pub all_sets : Bool → LifetimeEnv → List ℕ
all_sets d e = map (reach_set d e) (range 0 e.count) ++ replicate (most_lifetimes - e.count) 0

abbrev pub no_sets : List ℕ
no_sets = replicate most_lifetimes 0

unfoldable pub reach_sets : Bool → LifetimeEnv → Outcome (List ℕ)
reach_sets d e = unless (env_checks e) (all_sets d e)

-- All lists: one after another, and where each of them ends
unfoldable pub all_lists : Bool → LifetimeEnv → List (List ℕ)
all_lists d e = map (reach_list d e) (range 0 e.count)

-- those of the environment (4, 8), a slice too short (9)
abbrev pub lists_checks : Bool → LifetimeEnv → ℕ → ℕ → List Check
lists_checks d e room places =
    env_checks e
    ++ (room_check places (ends_from 0 (all_lists d e))
    ∷ room_check room (flatten (all_lists d e))
    ∷ [])

unfoldable pub list_words : Bool → LifetimeEnv → ℕ → ℕ → Outcome (List ℕ)
list_words d e room places = unless (lists_checks d e room places) (flatten (all_lists d e))

unfoldable pub list_ends : Bool → LifetimeEnv → ℕ → ℕ → Outcome (List ℕ)
list_ends d e room places = unless (lists_checks d e room places) (ends_from 0 (all_lists d e))

unfoldable pub lists_answer : Bool → LifetimeEnv → ℕ → ℕ → Outcome Lists
lists_answer d e room places = unless (lists_checks d e room places)
    (record { count = length (flatten (all_lists d e)); sets = all_sets d e })
