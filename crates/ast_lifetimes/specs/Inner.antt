-- For private functions only: what an environment under way holds, and what a step leaves. No public contract cites
-- this file.
use Rattle.std.specs.Prelude.{ℕ, ◌≤◌, ◌<◌, Bool, true, cond, ◌&&◌, not, ◌≡◌, ◌↔◌, length, get_or, Ok}
use mathlib.Core.List.{List, [], ◌∷◌, ◌++◌, flat_map}
use Rattle.lifetimes.specs.declared.bounds.Bound.{Bound}
use Rattle.answers.specs.Refusals.{Outcome}
use Rattle.answers.specs.Lent.{verdict_of}
use Rattle.lifetimes.specs.Limits.{most_bounds}
use Rattle.lifetimes.specs.Bounds.{all_below}
use Rattle.lifetimes.specs.Sets.{empty, member}
use Rattle.lifetimes.specs.Outlives.{Outlives}
use Rattle.ast_lifetimes.specs.declared.env.LifetimeEnv.{LifetimeEnv}
use Rattle.ast_lifetimes.specs.Shapes.{is_name}
use Rattle.ast_lifetimes.specs.Types as types
use Rattle.ast_lifetimes.specs.Env.{most_names, place, is_declared, names_of, bounds_of, named_env}
use Rattle.ast_lifetimes.specs.Entries.{SoFar, so_far}

-- the names and the bounds of an environment
abbrev pub so_far_of : LifetimeEnv → SoFar
so_far_of e = so_far (names_of e) (bounds_of e)

-- an environment has these names and bounds and nothing behind them; they are within the limits, the bounds between
-- names
pub record StandsIn (s : SoFar) (e : LifetimeEnv) : Type 0 where
  pub is : e ≡ named_env s.names s.bounds
  pub few_names : length s.names ≤ most_names
  pub few_bounds : length s.bounds ≤ most_bounds
  pub below : all_below (length s.names) s.bounds ≡ true

-- what some steps leave: they are refused as their definition is; given, the environment has their names and bounds
pub record Leaves {A : Type 0} (o : Outcome SoFar) (e : LifetimeEnv) (r : Outcome A) : Type 0 where
  pub verdict : verdict_of r ≡ verdict_of o
  pub stands : (s : SoFar) → o ≡ Ok s → StandsIn s e

-- the words of a type, and of types one after another
unfoldable pub encode : types.TypeName → List ℕ
encode types.Other = 0 ∷ []
encode (types.Named lifetimes) = 1 ∷ length lifetimes ∷ lifetimes
encode (types.Reference word t) = 2 ∷ word ∷ encode t
encode (types.Option t) = 3 ∷ encode t
encode (types.Result t u) = 4 ∷ encode t ++ encode u

abbrev pub encode_all : List types.TypeName → List ℕ
encode_all ts = flat_map encode ts

-- for each name the set of those that outlive it
abbrev pub OutliveSets : List Bound → ℕ → List ℕ → Type 0
OutliveSets bs named reach = (a : ℕ) → a < named → (b : ℕ) → (member (get_or reach a 0) b ≡ true) ↔ Outlives bs b a

-- the set of those that outlive a name, by the sets of all; none for one that is not declared
abbrev pub outlived_by : List ℕ → List ℕ → ℕ → ℕ
outlived_by names reach word = cond (is_declared names word) (get_or reach (place names word) 0) empty

-- whether a lifetime of a path is to be pushed, by the set of those that outlive the reference
abbrev pub is_implied : List ℕ → ℕ → ℕ → Bool
is_implied names taken word = is_name word && not (is_declared names word && member taken (place names word))
