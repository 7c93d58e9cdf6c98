-- The lifetimes that a method uses, one stage of its checks after another; the verdict of them is that of the method.
use Rattle.std.specs.Prelude.{Ok, Err, Option}
use Rattle.std.specs.Option.{ok_or}
use Prim.Native.Nat.{ℕ, ◌≤◌, ◌<◌}
use mathlib.Core.Logic.{◌⊎◌, ⊎_elim}
use mathlib.Core.Path.{◌≡◌, sym, ap, ◌∙◌}
use mathlib.Core.List.{List, [], ◌∷◌, ◌++◌}
use lib.ListN.{length}
use borrow.Author.Tests.{lt-ltb, le-ltb, not-false}
use Rattle.answers.specs.declared.Refusal.{Refusal}
use Rattle.answers.specs.declared.Refusal.TheVariants.{Full, OutOfRange}
use Rattle.answers.specs.Refusals.{Check, check, unless, FirstDue, NoneDue, Outcome}
use Rattle.answers.specs.Lent.{judged, verdict_of}
use Rattle.answers.proofs.RefusalLaws.{due_refused, refused_due, given_due, refused_first, accepted_none, none_first}
use Rattle.answers.proofs.RefusalLaws.{first_more}
use Rattle.answers.proofs.VerdictLaws.{unless_after}
use Rattle.lifetimes.specs.declared.env.LifetimeEnv.{LifetimeEnv}
use Rattle.lifetimes.specs.Env.{limit_checks, range_checks, env_checks}
use Rattle.lifetimes.specs.Sets.{set_of}
use Rattle.hir_types.specs.declared.shapes.Shape.{Shape}
use Rattle.hir_types.specs.Rows.{rows_of, method_in_shape, shape_checks, method_shape}
use Rattle.hir_types.proofs.ShapeLaws.{four_in_shape, verdict_unless}
use Rattle.methods.specs.Method.{place_checks, types_in, output_lifetimes, any_past, method_checks, method_verdict}
use Rattle.methods.specs.Used.{output_numbers, used_set}
use Rattle.methods.specs.Inner.{CollectIs, within, past, TypesCollect, InShape}
use Rattle.methods.proofs.MethodLaws.{types_read}

-- ---- a part of some checks that refuses, and one that does not

module _ {A : Type 0} (a : A) (checks more : List Check) where
  stays_refused : {r : Refusal} → Err r ≡ judged checks → Err r ≡ unless (checks ++ more) a
  stays_refused {r} e = sym (due_refused a (first_more more (refused_first (tt {0}) r checks (sym e))))

  goes_on : Ok (tt {0}) ≡ judged checks → unless (checks ++ more) a ≡ unless more a
  goes_on e = unless_after a more (accepted_none (tt {0}) checks (sym e))

-- ---- the stages

module _ (env : LifetimeEnv) (structs params output force : List ℕ) where
  -- what a method that is accepted uses
  abbrev all_used : ℕ
  all_used = set_of (output_numbers structs output)

  -- its checks, those of the shape first, and those behind them
  abbrev first : List Check
  first = shape_checks (method_in_shape structs params output force) force

  abbrev outside : List Check
  outside = check (any_past env.count (output_lifetimes structs output)) OutOfRange ∷ []

  abbrev behind_places : List Check
  behind_places = range_checks env ++ outside

  abbrev behind_shape : List Check
  behind_shape = limit_checks env ++ (place_checks structs params output ++ behind_places)

  -- what stands in the records
  abbrev in_them : Shape
  in_them = record {
    rows = length (rows_of structs);
    params = length (types_in structs params);
    outputs = length (types_in structs output);
  }

  pub used_torn : {r : Refusal} → Err r ≡ method_shape structs params output force
      → Err r ≡ used_set env structs params output force
  unfolding method_shape used_set
  used_torn {r} e =
      let due : FirstDue r first = refused_due in_them r first (sym e) in
      sym (due_refused all_used (first_more behind_shape due))

  module _ {shape : Shape} (e : Ok shape ≡ method_shape structs params output force) where
    none_torn : NoneDue first × (in_them ≡ shape)
    unfolding method_shape
    none_torn = given_due in_them shape first (sym e)

    pub in_shape_lem : InShape structs params output shape
    in_shape_lem =
        let four = four_in_shape structs params output force (not-false _ (none_first none_torn.0)) in
        record {
          structs_shape = four.structs_shape;
          params_shape = four.params_shape;
          output_shape = four.output_shape;
          row_count = ap (λ (s : Shape). s.rows) (sym none_torn.1);
          input_count = ap (λ (s : Shape). s.params) (sym none_torn.1);
          output_count = ap (λ (s : Shape). s.outputs) (sym none_torn.1);
        }

    past_shape : used_set env structs params output force ≡ unless behind_shape all_used
    unfolding used_set
    past_shape = unless_after all_used behind_shape none_torn.0

    pub used_full : (64 < env.count) ⊎ ((env.count ≤ 64) × (256 < env.bounds.pushed))
        → Err Full ≡ used_set env structs params output force
    unfolding unless
    used_full h =
        sym (past_shape
        ∙ ⊎_elim (λ a. rw (lt-ltb 64 env.count a))
        (λ b. rw (le-ltb 64 env.count b.0, lt-ltb 256 env.bounds.pushed b.1))
        h)

    module _ (lifetimes : env.count ≤ 64) (bounds : env.bounds.pushed ≤ 256) where
      past_limits : used_set env structs params output force
          ≡ unless (place_checks structs params output ++ behind_places) all_used
      unfolding unless
      past_limits = past_shape ∙ rw (le-ltb 64 env.count lifetimes, le-ltb 256 env.bounds.pushed bounds)

      pub used_place : {r : Refusal} → Err r ≡ judged (place_checks structs params output)
          → Err r ≡ used_set env structs params output force
      used_place p = stays_refused all_used (place_checks structs params output) behind_places p ∙ sym past_limits

      module _ (p : Ok (tt {0}) ≡ judged (place_checks structs params output)) where
        past_places : used_set env structs params output force ≡ unless behind_places all_used
        past_places = past_limits ∙ goes_on all_used (place_checks structs params output) behind_places p

        ranges_judged : judged (env_checks env) ≡ judged (range_checks env)
        unfolding unless
        ranges_judged = rw (le-ltb 64 env.count lifetimes, le-ltb 256 env.bounds.pushed bounds)

        pub used_env : {r : Refusal} → Err r ≡ judged (env_checks env) → Err r ≡ used_set env structs params output force
        used_env q = stays_refused all_used (range_checks env) outside (q ∙ ranges_judged) ∙ sym past_places

        module _ (q : Ok (tt {0}) ≡ judged (env_checks env)) where
          past_env : used_set env structs params output force ≡ unless outside all_used
          past_env = past_places ∙ goes_on all_used (range_checks env) outside (q ∙ ranges_judged)

          pub used_all : {t : Option ℕ} → TypesCollect output 0 shape.outputs env.count 0 t → {r : Outcome ℕ}
              → r ≡ ok_or t OutOfRange → r ≡ used_set env structs params output force
          unfolding unless
          used_all {t} collect {r} k =
              let i = in_shape_lem in
              let o = types_read (length (rows_of structs)) output i.output_shape i.output_count in
              k ∙ go (collect (length (rows_of structs)) (types_in structs output) o.0 o.1) ∙ sym past_env
            where
              go : {t : Option ℕ} → CollectIs env.count 0 (output_lifetimes structs output) t
                  → ok_or t OutOfRange ≡ unless outside all_used
              go (within h e) = rw (h, e)
              go (past h) = rw h

  -- the verdict alone
  pub verdict_used : {r : Outcome ℕ} → r ≡ used_set env structs params output force
      → verdict_of r ≡ method_verdict env structs params output force
  unfolding used_set
  verdict_used e = ap verdict_of e ∙ verdict_unless all_used (method_checks env structs params output force)
