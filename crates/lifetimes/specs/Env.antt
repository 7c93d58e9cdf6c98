-- The environment (01: "Declared lifetimes, total count (at most 64), bounds in push order (at most 256)") and its
-- refusals. A caller can make any value of it, so every call that takes one checks it.
use Rattle.std.specs.Prelude.{ℕ, ◌+◌, ◌%◌, Bool, List, [], ◌∷◌, ◌++◌, eqb, ltb, length, set}
use Rattle.answers.specs.declared.Refusal.TheVariants.{Malformed, Full, OutOfRange}
use Rattle.answers.specs.Refusals.{Check, check, Outcome, unless}
use Rattle.lifetimes.specs.declared.lifetime.Lifetime.{Lifetime}
use Rattle.lifetimes.specs.declared.bounds.Bound.{Bound}
use Rattle.lifetimes.specs.declared.bounds.Bounds.{Bounds}
use Rattle.lifetimes.specs.declared.env.LifetimeEnv.{LifetimeEnv}
use Rattle.lifetimes.specs.Limits.{most_lifetimes}
use Rattle.lifetimes.specs.Bounds.{above, list_of, bounds_from, too_many, one_past}

-- declared lifetimes, count and bounds, whatever they are
abbrev pub env_with : ℕ → ℕ → Bounds → LifetimeEnv
env_with declared count bounds = record { declared = declared; count = count; bounds = bounds }

-- the bounds, in push order
abbrev pub bounds_of : LifetimeEnv → List Bound
bounds_of e = list_of e.bounds

-- The refusals that are due on an environment. Its limits: a 65th lifetime, a 257th bound (4); its ranges: more
-- declared than there are, a bound past the declared (8)
abbrev pub limit_checks : LifetimeEnv → List Check
limit_checks e = check (ltb most_lifetimes e.count) Full ∷ too_many e.bounds ∷ []

-- more are declared than there are in all
abbrev pub too_few : ℕ → ℕ → Check
too_few declared count = check (ltb count declared) OutOfRange

abbrev pub range_checks : LifetimeEnv → List Check
range_checks e = too_few e.declared e.count ∷ one_past e.declared e.bounds ∷ []

abbrev pub env_checks : LifetimeEnv → List Check
env_checks e = limit_checks e ++ range_checks e

-- whether a lifetime is declared, that is, whether `get_bounds` knows it
abbrev pub is_declared : LifetimeEnv → Lifetime → Bool
is_declared e l = ltb l.0 e.declared

-- an environment with these bounds
unfoldable pub env_of : ℕ → ℕ → List Bound → LifetimeEnv
env_of declared count bs = env_with declared count (bounds_from bs)

-- Made by hand, from pairs longer, shorter: half a pair (1), then as for every environment

unfoldable pub bounds_of_pairs : List ℕ → List Bound
bounds_of_pairs [] = []
bounds_of_pairs (l ∷ []) = []
bounds_of_pairs (l ∷ s ∷ words) = above l s ∷ bounds_of_pairs words

abbrev pub new_checks : ℕ → ℕ → List ℕ → List Check
new_checks declared count words =
    check (eqb (length words % 2) 1) Malformed ∷ env_checks (env_of declared count (bounds_of_pairs words))

unfoldable pub new_env : ℕ → ℕ → List ℕ → Outcome LifetimeEnv
new_env declared count words = unless (new_checks declared count words) (env_of declared count (bounds_of_pairs words))

-- One bound more, at the end: refused as every environment is, with it

abbrev pub with_bound : LifetimeEnv → Bound → LifetimeEnv
with_bound e b =
    env_with e.declared e.count
    (record { pushed = e.bounds.pushed + 1; list = set e.bounds.list e.bounds.pushed b })

unfoldable pub push_bound : LifetimeEnv → Bound → Outcome LifetimeEnv
push_bound e b = unless (env_checks (with_bound e b)) (with_bound e b)
