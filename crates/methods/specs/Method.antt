-- The refusal of a *method* (01's word for an environment with the records `structs`, `params`, `output` and `force`):
-- the first due in one ordered list of checks.
use Rattle.std.specs.Prelude.{ℕ, Bool, false, not, ◌&&◌, eqb, leb, length, get_or}
use mathlib.Core.List.{List, [], ◌∷◌, ◌++◌, map, flat_map}
use Rattle.answers.specs.declared.Refusal.TheVariants.{Malformed, Full, Mismatch, OutOfRange}
use Rattle.lifetimes.specs.declared.lifetime.Lifetime.{Lifetime}
use Rattle.lifetimes.specs.declared.maybe_static.MaybeStatic.{MaybeStatic}
use Rattle.lifetimes.specs.declared.maybe_static.MaybeStatic.TheVariants.{Static, NonStatic}
use Rattle.lifetimes.specs.declared.env.LifetimeEnv.{LifetimeEnv}
use Rattle.answers.specs.Lists.{any, numbered}
use Rattle.answers.specs.Refusals.{Check, check, Verdict}
use Rattle.answers.specs.Lent.{judged}
use Rattle.lifetimes.specs.Env.{limit_checks, range_checks}
use Rattle.hir_types.specs.declared.types.Kind.{Kind}
use Rattle.hir_types.specs.declared.types.Kind.TheVariants.{Plain, Opaque, Struct, Slice}
use Rattle.hir_types.specs.LoweredTypes.{LoweredType, lifetimes_of}
use Rattle.hir_types.specs.Rows.{Row, row_with, rows_of, types_of, structs_in_shape, params_in_shape, method_in_shape}
use Rattle.hir_types.specs.Rows.{shape_checks}

-- 01: "at most 32 rows", "at most 16 types" in `params`
abbrev pub most_rows : ℕ
most_rows = 32

abbrev pub most_params : ℕ
most_params = 16

-- By place: 4 and 7

-- the row with a number
abbrev pub row_at : List Row → ℕ → Row
row_at rows row = get_or rows row (row_with 0 [])

-- a struct type whose words are not as many as the lifetimes of its row
abbrev pub misfit : List Row → Kind → ℕ → Bool
misfit rows Plain n = false
misfit rows Opaque n = false
misfit rows (Struct row) n = not (eqb n (row_at rows row).lifetimes)
misfit rows Slice n = false

abbrev pub misfits : List Row → LoweredType → Bool
misfits rows t = misfit rows t.kind (length t.path)

-- at each type 7
abbrev pub type_checks : List Row → List LoweredType → List Check
type_checks rows ts = map (λ t. check (misfits rows t) Mismatch) ts

-- at each row, so many before it: a 33rd (4), then its fields
abbrev pub row_checks : List Row → ℕ → List Row → List Check
row_checks rows number l =
    numbered (λ before row. check (leb most_rows before) Full ∷ type_checks rows row.fields) number l

-- at each parameter: a 17th (4), then 7
abbrev pub param_checks : List Row → ℕ → List LoweredType → List Check
param_checks rows number ts =
    numbered (λ before t. check (leb most_params before) Full ∷ check (misfits rows t) Mismatch ∷ []) number ts

-- the types of a method's parameters and of its output
abbrev pub types_in : List ℕ → List ℕ → List LoweredType
types_in structs words = types_of (length (rows_of structs)) words

abbrev pub place_checks : List ℕ → List ℕ → List ℕ → List Check
place_checks structs params output =
    row_checks (rows_of structs) 0 (rows_of structs)
    ++ (param_checks (rows_of structs) 0 (types_in structs params)
    ++ type_checks (rows_of structs) (types_in structs output))

-- Two records alone, as those of a method whatever else it has: 1 over both, then 4 and 7 by place

abbrev pub structs_and_params_checks : List ℕ → List ℕ → List Check
structs_and_params_checks structs params =
    check (not (structs_in_shape structs && params_in_shape (length (rows_of structs)) params)) Malformed
    ∷ (row_checks (rows_of structs) 0 (rows_of structs)
    ++ param_checks (rows_of structs) 0 (types_in structs params))

abbrev pub structs_and_params_verdict : List ℕ → List ℕ → Verdict
structs_and_params_verdict structs params = judged (structs_and_params_checks structs params)

-- The output's lifetimes: none is past the count (8)

abbrev pub output_lifetimes : List ℕ → List ℕ → List (MaybeStatic Lifetime)
output_lifetimes structs output = flat_map lifetimes_of (types_in structs output)

abbrev pub is_past : ℕ → MaybeStatic Lifetime → Bool
is_past count Static = false
is_past count (NonStatic l) = leb count l.0

abbrev pub any_past : ℕ → List (MaybeStatic Lifetime) → Bool
any_past count ms = any (is_past count) ms

-- First 1 over the four records, then 13. The limits of the environment (4) stand where its records would; its ranges
-- (8) with the 8 of the output

abbrev pub method_checks : LifetimeEnv → List ℕ → List ℕ → List ℕ → List ℕ → List Check
method_checks env structs params output force =
    shape_checks (method_in_shape structs params output force) force
    ++ (limit_checks env
    ++ (place_checks structs params output
    ++ (range_checks env
    ++ (check (any_past env.count (output_lifetimes structs output)) OutOfRange ∷ []))))

abbrev pub method_verdict : LifetimeEnv → List ℕ → List ℕ → List ℕ → List ℕ → Verdict
method_verdict env structs params output force = judged (method_checks env structs params output force)
