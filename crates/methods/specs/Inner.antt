-- For private functions only: what a pass over types says, and what is held of the rows. No public contract cites this
-- file.
use Rattle.std.specs.Prelude.{ℕ, ◌+◌, ◌≤◌, ◌<◌, Bool, true, false, not, ◌≡◌, eqb, length, get_or, take, drop}
use Rattle.std.specs.Prelude.{Ok, Err, Some, None, Option}
use mathlib.Core.List.{List, [], ◌∷◌, flat_map}
use Rattle.answers.specs.declared.Refusal.TheVariants.{Mismatch}
use Rattle.records.specs.Reading.{Read, most_list}
use Rattle.answers.specs.Lent.{judged}
use Rattle.hir_types.specs.declared.shapes.Shape.{Shape}
use Rattle.hir_types.specs.declared.types.Parts.{Parts}
use Rattle.hir_types.specs.declared.types.Kind.{Kind}
use Rattle.hir_types.specs.declared.types.Kind.TheVariants.{Plain, Opaque, Struct, Slice}
use Rattle.hir_types.specs.LoweredTypes.{LoweredType, lifetimes_of}
use Rattle.hir_types.specs.Rows.{Row, read_known, read_types, read_row, rows_of, structs_in_shape, params_in_shape}
use Rattle.lifetimes.specs.declared.lifetime.Lifetime.{Lifetime}
use Rattle.lifetimes.specs.declared.maybe_static.MaybeStatic.{MaybeStatic}
use Rattle.lifetimes.specs.Sets.{insert_all}
use Rattle.methods.specs.Method.{row_at, type_checks, row_checks, param_checks, types_in, any_past, most_rows}
use Rattle.methods.specs.Fields.{field_at, is_struct}
use Rattle.methods.specs.Used.{numbers_of}
use Rattle.answers.specs.Refusals.{Verdict}

-- the lifetimes of the first rows, by number
abbrev pub Holding : List Row → ℕ → List ℕ → Type 0
Holding rows n lifetimes = (row : ℕ) → row < n → get_or lifetimes row 0 ≡ (row_at rows row).lifetimes

-- a row's lifetimes by the index, and a misfit by them
abbrev pub row_lifetimes : List ℕ → ℕ → ℕ
row_lifetimes lifetimes row = get_or lifetimes row 0

abbrev pub misfit_in : List ℕ → Kind → ℕ → Bool
misfit_in lifetimes Plain n = false
misfit_in lifetimes Opaque n = false
misfit_in lifetimes (Struct row) n = not (eqb n (row_lifetimes lifetimes row))
misfit_in lifetimes Slice n = false

-- where types end whose checks have a verdict
pub data FitIs (words : List ℕ) (from : ℕ) (rest : List ℕ) : Verdict → Option ℕ → Type 0 where
  fits : {next : ℕ} → drop next words ≡ rest → from ≤ next → next ≤ length words
      → FitIs words from rest (Ok (tt {0})) (Some next)
  unfit : FitIs words from rest (Err Mismatch) None

-- the type at a place, that names a row below n, fits or does not
abbrev pub TypeFits : List ℕ → ℕ → List ℕ → Option ℕ → Type 0
TypeFits words at lifetimes r =
    (rows : List Row) (n : ℕ) (t : LoweredType) (rest : List ℕ) → n ≤ most_rows → Holding rows n lifetimes
    → read_known n (drop at words) ≡ Read t rest
    → FitIs words at rest (judged (type_checks rows (t ∷ []))) r

-- so many types from a place on, that name rows below n, fit or do not
abbrev pub TypesFit : List ℕ → ℕ → ℕ → List ℕ → Option ℕ → Type 0
TypesFit words from count lifetimes r =
    (rows : List Row) (n : ℕ) (types : List LoweredType) (rest : List ℕ) → n ≤ most_rows → Holding rows n lifetimes
    → read_types n count (drop from words) ≡ Read types rest
    → FitIs words from rest (judged (type_checks rows types)) r

-- where a row stands
pub record RowStands (structs : List ℕ) (row place : ℕ) : Type 0 where
  pub rest : List ℕ
  pub reads : read_row row (drop place structs) ≡ Read (row_at (rows_of structs) row) rest
  pub here : place + 1 < length structs

-- rows that were checked: the verdict, and where they are accepted the lifetimes of each
pub record Indexes (structs lifetimes : List ℕ) (r : Verdict) : Type 0 where
  pub verdict : r ≡ judged (row_checks (rows_of structs) 0 (rows_of structs))
  pub few : r ≡ Ok (tt {0}) → length (rows_of structs) ≤ most_rows
  pub holding : r ≡ Ok (tt {0}) → Holding (rows_of structs) (length (rows_of structs)) lifetimes

-- the set with the numbers of some lifetimes put in, if none is past the count
pub data CollectIs (count set : ℕ) (l : List (MaybeStatic Lifetime)) : Option ℕ → Type 0 where
  within : {more : ℕ} → any_past count l ≡ false → more ≡ insert_all set (numbers_of l)
      → CollectIs count set l (Some more)
  past : any_past count l ≡ true → CollectIs count set l None

-- the lifetimes of so many types from a place on
abbrev pub TypesCollect : List ℕ → ℕ → ℕ → ℕ → ℕ → Option ℕ → Type 0
TypesCollect words from types count set r =
    (n : ℕ) (ts : List LoweredType) (rest : List ℕ) → read_types n types (drop from words) ≡ Read ts rest
    → CollectIs count set (flat_map lifetimes_of ts) r

-- the parameters' verdict
abbrev pub ParamsFit : List ℕ → ℕ → List ℕ → Verdict → Type 0
ParamsFit params count lifetimes r =
    (rows : List Row) (n : ℕ) (types : List LoweredType) (rest : List ℕ) → n ≤ most_rows → Holding rows n lifetimes
    → read_types n count params ≡ Read types rest
    → r ≡ judged (param_checks rows 0 types)

-- records in shape, and how much stands in them
pub record InShape (structs params output : List ℕ) (shape : Shape) : Type 0 where
  pub structs_shape : structs_in_shape structs ≡ true
  pub params_shape : params_in_shape (length (rows_of structs)) params ≡ true
  pub output_shape : params_in_shape (length (rows_of structs)) output ≡ true
  pub row_count : shape.rows ≡ length (rows_of structs)
  pub input_count : shape.params ≡ length (types_in structs params)
  pub output_count : shape.outputs ≡ length (types_in structs output)

-- `compute_for_struct_field`

-- where a row stands that is there
pub data RowIs (structs : List ℕ) (row : ℕ) : Option ℕ → Type 0 where
  row_is : {place : ℕ} → RowStands structs row place → RowIs structs row (Some place)

-- the place behind so many types that stand from a place on
pub data SkipTo (words rest : List ℕ) : Option ℕ → Type 0 where
  skip_to : {place : ℕ} → drop place words ≡ rest → SkipTo words rest (Some place)

abbrev pub TypesSkip : List ℕ → ℕ → ℕ → Option ℕ → Type 0
TypesSkip words from count r = (n : ℕ) (types : List LoweredType) (rest : List ℕ)
    → read_types n count (drop from words) ≡ Read types rest → SkipTo words rest r

-- the field asked for: it is a struct, its row stands before the row asked for, and its words stand there; or it is
-- none
pub data FieldIs (structs : List ℕ) (row field : ℕ) : Option (ℕ × Parts) → Type 0 where
  struct : {inner : ℕ} {p : Parts} → (field_at (rows_of structs) row field).kind ≡ Struct inner → inner < row
      → length (field_at (rows_of structs) row field).path ≤ most_list
      → take p.count (drop p.from structs) ≡ (field_at (rows_of structs) row field).path
      → FieldIs structs row field (Some (inner, p))
  other : is_struct (field_at (rows_of structs) row field).kind ≡ false → FieldIs structs row field None
