-- `compute_for_struct_field`: for one struct-typed field of a row, each lifetime of the field's definition with the
-- outer row's lifetime that fills it.
use Rattle.std.specs.Prelude.{ℕ, ◌-◌, Bool, true, false, cond, not, ◌&&◌, List, [], ◌∷◌, ◌++◌, ltb, length}
use Rattle.std.specs.Prelude.{get_or, replicate, Some, None, Option}
use Rattle.answers.specs.declared.Refusal.TheVariants.{Malformed}
use Rattle.lifetimes.specs.declared.def_lifetime.DefLifetime.{DefLifetime}
use Rattle.lifetimes.specs.declared.maybe_static.MaybeStatic.{MaybeStatic}
use Rattle.lifetimes.specs.declared.maybe_static.MaybeStatic.TheVariants.{Static, NonStatic}
use Rattle.lifetimes.specs.Numbers.{def_lifetime}
use Rattle.lifetimes.specs.LoweredWords.{def_from_word}
use Rattle.answers.specs.Lists.{numbered}
use Rattle.answers.specs.Refusals.{Check, check, Outcome, unless}
use Rattle.hir_types.specs.declared.types.Kind.{Kind}
use Rattle.hir_types.specs.declared.types.Kind.TheVariants.{Plain, Opaque, Struct, Slice}
use Rattle.hir_types.specs.declared.types.Own.TheVariants as own
use Rattle.hir_types.specs.LoweredTypes.{LoweredType, lowered_type}
use Rattle.hir_types.specs.Rows.{Row, rows_of, structs_in_shape}
use Rattle.methods.specs.declared.fields.FieldPair.{FieldPair}
use Rattle.methods.specs.declared.fields.FieldLifetimes.{FieldLifetimes}
use Rattle.methods.specs.Method.{row_at, row_checks}
use Rattle.records.specs.Reading.{most_list}

-- the field with a number; where there is none, a type that is no struct
abbrev pub field_in : List LoweredType → ℕ → LoweredType
field_in fields field = get_or fields field (lowered_type false Plain [] own.Absent)

abbrev pub field_at : List Row → ℕ → ℕ → LoweredType
field_at rows row field = field_in (row_at rows row).fields field

abbrev pub is_struct : Kind → Bool
is_struct Plain = false
is_struct Opaque = false
is_struct (Struct row) = true
is_struct Slice = false

-- the lifetime of the field's definition with the first number, filled by the outer row's with the second
abbrev pub field_pair : ℕ → ℕ → FieldPair
field_pair j k = record { def = def_lifetime j; outer = def_lifetime k }

-- static and numbers past the outer row's lifetimes are left out
abbrev pub filled_by : ℕ → ℕ → MaybeStatic DefLifetime → List FieldPair
filled_by declared j Static = []
filled_by declared j (NonStatic l) = cond (ltb l.0 declared) (field_pair j l.0 ∷ []) []

-- the pairs of some path words, the first for the lifetime numbered j
abbrev pub pairs_from : ℕ → ℕ → List ℕ → List FieldPair
pairs_from declared j words = numbered (λ k word. filled_by declared k (def_from_word word)) j words

-- 1 over the record and for a row or field that is not there, or a field of another type; then 4 and 7 by place
abbrev pub field_checks : List ℕ → ℕ → ℕ → List Check
field_checks structs row field =
    check (not (structs_in_shape structs && is_struct (field_at (rows_of structs) row field).kind)) Malformed
    ∷ row_checks (rows_of structs) 0 (rows_of structs)

unfoldable pub field_pairs : List ℕ → ℕ → ℕ → Outcome (List FieldPair)
field_pairs structs row field =
    unless (field_checks structs row field)
    (pairs_from (row_at (rows_of structs) row).lifetimes 0 (field_at (rows_of structs) row field).path)

-- What the call answers, where it is not refused: none if there is no pair; else how many there are, which stand in the
-- first places. Other places hold pairs of 0
abbrev pub placed : List FieldPair → List FieldPair
placed pairs = pairs ++ replicate (most_list - length pairs) (field_pair 0 0)

abbrev pub given_pairs : List FieldPair → Option FieldLifetimes
given_pairs [] = None
given_pairs (p ∷ ps) = Some (record { count = length (p ∷ ps); pairs = placed (p ∷ ps) })
