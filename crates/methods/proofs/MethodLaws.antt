-- The refusal of a method by place, and that of two records alone: each stage answers the verdict of its own checks.
use Rattle.std.specs.Prelude.{Ok, Err, Some, None, Option}
use Prim.Native.Nat.{ℕ}
use mathlib.Core.Bool.{true}
use mathlib.Core.Path.{◌≡◌, refl, sym, ◌∙◌}
use mathlib.Core.List.{List, ◌++◌}
use lib.ListN.{length}
use Rattle.answers.specs.declared.Refusal.{Refusal}
use Rattle.answers.specs.declared.Refusal.TheVariants.{Mismatch}
use Rattle.answers.specs.Refusals.{Check, unless, Verdict}
use Rattle.answers.specs.Lent.{judged}
use Rattle.answers.proofs.VerdictLaws.{judged_after, judged_stays}
use Rattle.records.specs.Reading.{Read}
use Rattle.hir_types.specs.declared.shapes.Shape.{Shape}
use Rattle.hir_types.specs.Rows.{read_known, read_types, rows_of, structs_in_shape, params_in_shape, types_of, how_many}
use Rattle.hir_types.proofs.ShapeLaws.{counted_shape, refused_shape}
use Rattle.methods.specs.Method.{type_checks, row_checks, param_checks, place_checks, types_in, structs_and_params_checks}
use Rattle.methods.specs.Inner.{FitIs, TypesFit, ParamsFit, Indexes, InShape}
use Rattle.methods.proofs.PassLaws.{items_start, items_types}
use Rattle.methods.proofs.FitsLaws.{fit_goes, fit_stops}

-- ---- by place

-- the types of a record in shape, by their number
pub types_read : (n : ℕ) (words : List ℕ) {count : ℕ} → params_in_shape n words ≡ true → count ≡ length (types_of n words)
    → (rest : List ℕ) × (read_types n count words ≡ Read (types_of n words) rest)
types_read n words e q =
    let r = items_types n 0 (length words) words (types_of n words) (items_start (λ number. read_known n) words e) in
    (r.0, rw q r.1)

module _ (structs params output : List ℕ) where
  abbrev rows_part : List Check
  rows_part = row_checks (rows_of structs) 0 (rows_of structs)

  abbrev params_part : List Check
  params_part = param_checks (rows_of structs) 0 (types_in structs params)

  abbrev output_part : List Check
  output_part = type_checks (rows_of structs) (types_in structs output)

module _ {structs params output lifetimes : List ℕ} {shape : Shape} (s : InShape structs params output shape) where
  pub places_rows : {r : Refusal} → Indexes structs lifetimes (Err r) → Err r ≡ judged (place_checks structs params output)
  places_rows x = sym (judged_stays (rows_part structs params output) ((params_part structs params output) ++ (output_part structs params output)) (sym x.verdict))

  module _ (x : Indexes structs lifetimes (Ok (tt {0}))) where
    past_rows : judged (place_checks structs params output) ≡ judged ((params_part structs params output) ++ (output_part structs params output))
    past_rows = judged_after (rows_part structs params output) ((params_part structs params output) ++ (output_part structs params output)) (sym x.verdict)

    params_judged : {w : Verdict} → ParamsFit params shape.params lifetimes w → w ≡ judged (params_part structs params output)
    params_judged f =
        let t = types_read (length (rows_of structs)) params s.params_shape s.input_count in
        f (rows_of structs) (length (rows_of structs)) (types_in structs params) t.0 (x.few refl) (x.holding refl) t.1

    pub places_params : {r : Refusal} → ParamsFit params shape.params lifetimes (Err r)
        → Err r ≡ judged (place_checks structs params output)
    places_params f = sym (past_rows ∙ judged_stays (params_part structs params output) (output_part structs params output) (sym (params_judged f)))

    module _ (f : ParamsFit params shape.params lifetimes (Ok (tt {0}))) {t : Option ℕ}
        (g : TypesFit output 0 shape.outputs lifetimes t) where
      past_params : judged (place_checks structs params output) ≡ judged (output_part structs params output)
      past_params = past_rows ∙ judged_after (params_part structs params output) (output_part structs params output) (sym (params_judged f))

      output_fits : (rest : List ℕ) × FitIs output 0 rest (judged (output_part structs params output)) t
      output_fits =
          let o = types_read (length (rows_of structs)) output s.output_shape s.output_count in
          (o.0, g (rows_of structs) (length (rows_of structs)) (types_in structs output) o.0 (x.few refl) (x.holding refl) o.1)

      pub places_output : t ≡ None → Err Mismatch ≡ judged (place_checks structs params output)
      places_output k = sym (past_params ∙ fit_stops output_fits.1 k)

      pub places_all : {next : ℕ} → t ≡ Some next → Ok (tt {0}) ≡ judged (place_checks structs params output)
      places_all k = sym (past_params ∙ (fit_goes output_fits.1 k).accepted)

-- ---- two records alone: each stage of the check answers the verdict of its own part

module _ (structs params : List ℕ) where
  abbrev alone : List Check
  alone = structs_and_params_checks structs params

  pub alone_structs : {r : Refusal} → Err r ≡ how_many (structs_in_shape structs) (rows_of structs) → Err r ≡ judged alone
  unfolding unless
  alone_structs e = let t = refused_shape (structs_in_shape structs) (rows_of structs) e in rw (t.0, t.1)

  module _ {rows : ℕ} (e : Ok rows ≡ how_many (structs_in_shape structs) (rows_of structs)) where
    pub structs_are : (structs_in_shape structs ≡ true) × (length (rows_of structs) ≡ rows)
    structs_are = counted_shape (structs_in_shape structs) (rows_of structs) e

    pub alone_params : {r : Refusal} → Err r ≡ how_many (params_in_shape rows params) (types_of rows params)
        → Err r ≡ judged alone
    unfolding unless
    alone_params f =
        let t = refused_shape (params_in_shape rows params) (types_of rows params) f in
        rw (structs_are.0, structs_are.1, t.0, t.1)

    module _ {inputs : ℕ} (f : Ok inputs ≡ how_many (params_in_shape rows params) (types_of rows params)) where
      params_are : (params_in_shape (length (rows_of structs)) params ≡ true) × (inputs ≡ length (types_in structs params))
      params_are =
          let p = counted_shape (params_in_shape rows params) (types_of rows params) f in
          rw structs_are.1 (p.0, sym p.1)

      in_place : judged alone
          ≡ judged
          (row_checks (rows_of structs) 0 (rows_of structs) ++ param_checks (rows_of structs) 0 (types_in structs params))
      unfolding unless
      in_place = rw (structs_are.0, params_are.0)

      pub alone_rows : {lifetimes : List ℕ} {r : Refusal} → Indexes structs lifetimes (Err r) → Err r ≡ judged alone
      alone_rows x =
          sym (in_place
          ∙ judged_stays (row_checks (rows_of structs) 0 (rows_of structs))
          (param_checks (rows_of structs) 0 (types_in structs params)) (sym x.verdict))

      pub alone_fits : {lifetimes : List ℕ} → Indexes structs lifetimes (Ok (tt {0})) → {w : Verdict} → ParamsFit params inputs lifetimes w
          → w ≡ judged alone
      alone_fits x {w} fits =
          let t = types_read (length (rows_of structs)) params params_are.0 params_are.1 in
          let own : w ≡ judged (param_checks (rows_of structs) 0 (types_in structs params)) =
          fits (rows_of structs) (length (rows_of structs)) (types_in structs params) t.0 (x.few refl) (x.holding refl) t.1 in
          own ∙ sym (in_place
          ∙ judged_after (row_checks (rows_of structs) 0 (rows_of structs))
          (param_checks (rows_of structs) 0 (types_in structs params)) (sym x.verdict))
