-- The main theorems of this crate, stated. Each has its proof, a term of exactly this type and of the same name in
-- small letters, in proofs/Theorems.antt.
use Rattle.std.specs.Prelude.{ℕ, ◌≤◌, ◌<◌, true, false, ◌≡◌, ◌↔◌, length, get_or, Ok, Err}
use mathlib.Core.List.{List, Memᴰ, Pairwise}
use Rattle.answers.specs.declared.Refusal.TheVariants.{Malformed, Retired}
use Rattle.lifetimes.specs.declared.maybe_static.MaybeStatic.TheVariants.{NonStatic}
use Rattle.lifetimes.specs.declared.env.LifetimeEnv.{LifetimeEnv}
use Rattle.lifetimes.specs.Numbers.{lifetime, def_lifetime}
use Rattle.lifetimes.specs.LoweredWords.{def_from_word}
use Rattle.lifetimes.specs.Sets.{member, cardinality}
use Rattle.hir_types.specs.Rows.{rows_of, forced, method_in_shape}
use Rattle.methods.specs.declared.fields.FieldPair.{FieldPair}
use Rattle.methods.specs.Method.{row_at, output_lifetimes}
use Rattle.methods.specs.Used.{used_set, most_used}
use Rattle.methods.specs.Examples.{examples, Right}
use Rattle.methods.specs.Fields.{field_at, field_pair, field_pairs}

-- Used lifetimes (01: "the output's non-static lifetimes"; what 01 adds "with force" is retired): of every method that
-- is not refused, and for each number; and how many they are at most
pub record Uses (structs output : List ℕ) (set : ℕ) : Type 0 where
  pub members_are : (k : ℕ) → (member set k ≡ true)
      ↔ Memᴰ (NonStatic (lifetime k)) (output_lifetimes structs output)
  pub few : cardinality set ≤ most_used

abbrev pub UsedLifetimesAre : Type 0
UsedLifetimesAre = (env : LifetimeEnv) (structs params output force : List ℕ) (set : ℕ)
    → used_set env structs params output force ≡ Ok set → Uses structs output set

-- `force` 1 is accepted nowhere, so that no method uses anything by it
abbrev pub ForceIsRetired : Type 0
ForceIsRetired = (env : LifetimeEnv) (structs params output force : List ℕ) → forced force ≡ true
    → (method_in_shape structs params output force ≡ true
    → used_set env structs params output force ≡ Err Retired)
    × (method_in_shape structs params output force ≡ false
    → used_set env structs params output force ≡ Err Malformed)

-- in ascending order of the field's lifetime, each once
abbrev pub PairsByDef : FieldPair → FieldPair → Type 0
PairsByDef p q = p.def.0 < q.def.0

-- the pairs of a field with these path words in a row with so many lifetimes
pub record FieldFilled (declared : ℕ) (path : List ℕ) (pairs : List FieldPair) : Type 0 where
  pub members : (j k : ℕ) → Memᴰ (field_pair j k) pairs
      ↔ ((j < length path) × (def_from_word (get_or path j 0) ≡ NonStatic (def_lifetime k)) × (k < declared))
  pub ascending : Pairwise PairsByDef pairs

-- `compute_for_struct_field` (01: "for one struct-typed field, under code 4 or not, ascending, each lifetime of the
-- field's definition with the outer row's lifetime that fills it; static and numbers past the row's d are left out")
abbrev pub FieldPairsAre : Type 0
FieldPairsAre = (structs : List ℕ) (row field : ℕ) (pairs : List FieldPair) → field_pairs structs row field
    ≡ Ok pairs
    → FieldFilled (row_at (rows_of structs) row).lifetimes (field_at (rows_of structs) row field).path pairs

-- The examples
abbrev pub ExamplesHold : Type 0
ExamplesHold = Right examples
