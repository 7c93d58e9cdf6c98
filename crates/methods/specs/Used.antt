-- The lifetimes that a method uses: those of its output that are not static (01: "the output's non-static lifetimes").
use Rattle.std.specs.Prelude.{ℕ, ◌+◌, ◌*◌}
use mathlib.Core.List.{List, filter_map}
use Rattle.std.proofs.Math.Option.{Option, none, some}
use Rattle.lifetimes.specs.declared.lifetime.Lifetime.{Lifetime}
use Rattle.lifetimes.specs.declared.maybe_static.MaybeStatic.{MaybeStatic}
use Rattle.lifetimes.specs.declared.maybe_static.MaybeStatic.TheVariants.{Static, NonStatic}
use Rattle.lifetimes.specs.declared.env.LifetimeEnv.{LifetimeEnv}
use Rattle.answers.specs.Refusals.{Outcome, unless}
use Rattle.lifetimes.specs.Sets.{set_of}
use Rattle.records.specs.Reading.{most_list}
use Rattle.methods.specs.Method.{output_lifetimes, method_checks}

-- the numbers of those that are not static
abbrev pub number : MaybeStatic Lifetime → Option ℕ
number Static = none
number (NonStatic l) = some l.0

abbrev pub numbers_of : List (MaybeStatic Lifetime) → List ℕ
numbers_of ms = filter_map number ms

abbrev pub output_numbers : List ℕ → List ℕ → List ℕ
output_numbers structs output = numbers_of (output_lifetimes structs output)

-- the set of them
unfoldable pub used_set : LifetimeEnv → List ℕ → List ℕ → List ℕ → List ℕ → Outcome ℕ
used_set env structs params output force =
    unless (method_checks env structs params output force) (set_of (output_numbers structs output))

-- how many they are at most: an output has at most two types, and a type 16 lifetimes in its path and one of its own
abbrev pub most_used : ℕ
most_used = 2 * (most_list + 1)
