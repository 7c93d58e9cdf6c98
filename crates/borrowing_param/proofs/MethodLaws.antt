-- A sheet's method: the first refusal due on ten records that were read is that of the stage which refuses them; if
-- none is due, the method is accepted.
use Rattle.std.specs.Prelude.{Ok, Err}
use Prim.Native.Nat.{ℕ, ◌≤◌}
use mathlib.Core.Bool.{true, false, ◌&&◌, not}
use mathlib.Core.Path.{◌≡◌, refl, sym, ap, ◌∙◌}
use mathlib.Core.List.{List, [], ◌∷◌, ◌++◌}
use native.Mathlib.Omega.{arith}
use borrow.Author.Tests.{le-ltb, not-false}
use lib.ListN.{length, take, drop}
use Rattle.answers.specs.declared.Refusal.{Refusal}
use Rattle.answers.specs.declared.Refusal.TheVariants.{OutOfRange}
use Rattle.answers.specs.Refusals.{Check, check, Outcome, FirstDue, here, later, NoneDue, next, end, Verdict}
use Rattle.lifetimes.specs.Env.{env_checks}
use Rattle.answers.proofs.RefusalLaws.{due_given, due_refused, given_due, refused_due, none_first, none_rest, none_split, none_more}
use Rattle.answers.proofs.RefusalLaws.{first_more, first_after, first_behind, refused_first, accepted_none}
use Rattle.ast_lifetimes.specs.declared.env.LifetimeEnv as ast-env
use Rattle.ast_lifetimes.specs.Shapes.{names_in_shape, bounds_in_shape}
use Rattle.ast_lifetimes.specs.Types.{types_in_shape}
use Rattle.ast_lifetimes.specs.Env as ast
use Rattle.ast_lifetimes.proofs.AcceptedLaws.{accepted_names, accepted_names_of, accepted_valid}
use Rattle.elision.specs.declared.method.Lowering.{Lowering}
use Rattle.elision.specs.Steps.{receiver_of, steps_of}
use Rattle.elision.specs.Rfc as rfc
use Rattle.elision.specs.Lowering.{in_shape_all, lowered_records, measure_checks, measure_records, answered}
use Rattle.elision.proofs.Theorems.{rfc141_says}
use Rattle.hir_types.specs.Rows.{method_in_shape, shape_checks}
use Rattle.methods.specs.Method.{place_checks, output_lifetimes, any_past, method_checks, method_verdict}
use Rattle.sheet.specs.Text.{Records}
use Rattle.sheet.specs.Shape.{sheet_in_shape, records_checks}
use Rattle.sheet.proofs.ShapeCases.{sheet_parts}
use Rattle.borrowing_param.specs.SheetMethod.{lowered_of, ast_env_of, env_of_sheet, lowering_checks}
use Rattle.borrowing_param.specs.InnerSheet.{lowered_env}
use Rattle.borrowing_param.proofs.OutcomeLaws.{ok_same, over_refused, over_given}

-- checks in the middle of which none is due
first_without : {r : Refusal} (checks : List Check) {middle : List Check} (more : List Check) → NoneDue middle
    → FirstDue r (checks ++ (middle ++ more)) → FirstDue r (checks ++ more)
first_without [] more n f = first_behind n f
first_without (c ∷ cs) more n (here d e) = here {c = c} d e
first_without (c ∷ cs) more n (later d f) = later d (first_without cs more n f)

module _ (r : Records) where
  abbrev names : List ℕ
  names = ast.all_names_of r.names

  abbrev ast_places : List Check
  ast_places = ast.item_place_checks r.names r.bounds r.types

  abbrev elision_checks : List Check
  elision_checks = rfc.elision_checks names (receiver_of r.self) (steps_of r.steps) (steps_of r.returns)

  abbrev hir_places : List Check
  hir_places = place_checks r.structs r.params r.output

  abbrev past : Check
  past = check (any_past (lowered_of r).count (output_lifetimes r.structs r.output)) OutOfRange

  abbrev hir_checks : List Check
  hir_checks = method_checks (env_of_sheet r) r.structs r.params r.output r.force

  -- the environment is one on which nothing is due
  module _ (placed : NoneDue ast_places) (elided : NoneDue elision_checks) where
    named : (ast_env_of r).named ≡ length names
    unfolding ast.named_env
    named = refl

    few : (lowered_of r).count ≤ 64
    few = (rfc141_says names (receiver_of r.self) (steps_of r.steps) (steps_of r.returns)).few
        (omega (arith, accepted_names r.names r.bounds r.types placed)) elided

    valid : NoneDue (ast.env_checks (ast_env_of r))
    valid = accepted_valid r.names r.bounds r.types placed

    pub env_valid : NoneDue (env_checks (env_of_sheet r))
    env_valid =
        next (le-ltb 64 (lowered_of r).count few)
        (next (none_first (none_rest valid))
        (next (le-ltb (lowered_of r).count (ast_env_of r).named (omega (arith, named)))
        (next (none_first (none_rest (none_rest valid))) end)))

    limits : NoneDue (take 2 (env_checks (env_of_sheet r))) × NoneDue (drop 2 (env_checks (env_of_sheet r)))
    limits = none_split (take 2 (env_checks (env_of_sheet r))) (drop 2 (env_checks (env_of_sheet r))) env_valid

  -- what the first checks of all ten say of each part
  module _ (first : NoneDue (records_checks r)) where
    shape : sheet_in_shape r ≡ true
    shape = not-false (sheet_in_shape r) (none_first first)

    shapes : (names_in_shape r.names && (bounds_in_shape r.bounds && types_in_shape r.types) ≡ true)
        × (in_shape_all r.self r.steps r.returns ≡ true)
        × (method_in_shape r.structs r.params r.output r.force ≡ true)
    shapes = sheet_parts r shape

    of_method : NoneDue (shape_checks (method_in_shape r.structs r.params r.output r.force) r.force)
    of_method = next (ap not shapes.2) (none_rest first)

    -- refused somewhere
    refuses : {k : Refusal} → FirstDue k (lowering_checks r) → Err k ≡ lowered_env r
    unfolding lowered_env
    refuses f = sym (due_refused (env_of_sheet r) f)

    -- names, bounds and types
    module _ {a : Outcome ast-env.LifetimeEnv} (is : a ≡ ast.from_method_item r.names r.bounds r.types) where
      pub names_first : {k : Refusal} → a ≡ Err k → FirstDue k (lowering_checks r)
      unfolding lowering_checks ast.from_method_item
      names_first {k} v =
          let d = refused_due (ast_env_of r) k (ast.item_checks r.names r.bounds r.types) (sym is ∙ v) in
          let s : not (names_in_shape r.names && (bounds_in_shape r.bounds && types_in_shape r.types)) ≡ false = rw shapes.0 in
          first_more _ (first_behind (next s end) d)

      pub names_refused : {k : Refusal} → a ≡ Err k → Err k ≡ lowered_env r
      names_refused v = refuses (names_first v)

      module _ {e : ast-env.LifetimeEnv} (fine : a ≡ Ok e) where
        ast_given : NoneDue (ast.item_checks r.names r.bounds r.types) × (ast_env_of r ≡ e)
        unfolding ast.from_method_item
        ast_given = given_due (ast_env_of r) e (ast.item_checks r.names r.bounds r.types) (sym is ∙ fine)

        ast_none : NoneDue (ast.item_checks r.names r.bounds r.types)
        ast_none = ast_given.0

        pub ast_is : e ≡ ast_env_of r
        ast_is = sym ast_given.1

        pub placed : NoneDue ast_places
        placed = none_rest ast_none

        pub names_are : ast.names_of (ast_env_of r) ≡ names
        names_are = accepted_names_of r.names r.bounds r.types placed

        -- self, steps and returns
        module _ {l : Outcome Lowering} (lowers : l ≡ answered e (measure_records e r.self r.steps r.returns)) where
          measured : l ≡ answered (ast_env_of r) (measure_records (ast_env_of r) r.self r.steps r.returns)
          measured = lowers ∙ ap (λ (x : ast-env.LifetimeEnv). answered x (measure_records x r.self r.steps r.returns)) ast_is

          in_shape_not : not (in_shape_all r.self r.steps r.returns) ≡ false
          in_shape_not = rw shapes.1

          pub steps_first : {k : Refusal} → l ≡ Err k → FirstDue k (lowering_checks r)
          unfolding lowering_checks measure_records
          steps_first {k} v =
              let x = ast_env_of r in
              let d = over_refused _ (lowered_records x r.self r.steps r.returns)
              (measure_checks x r.self r.steps r.returns) (sym v ∙ measured) in
              let f = first_behind (accepted_valid r.names r.bounds r.types placed)
              (first_behind (next in_shape_not end) d) in
              let g : FirstDue k elision_checks = rw names_are at f in
              first_after placed (first_more _ g)

          pub steps_refused : {k : Refusal} → l ≡ Err k → Err k ≡ lowered_env r
          steps_refused v = refuses (steps_first v)

          module _ {low : Lowering} (given : l ≡ Ok low) where
            measure_given : NoneDue (measure_checks (ast_env_of r) r.self r.steps r.returns)
                × (answered (ast_env_of r) (Ok (lowered_records (ast_env_of r) r.self r.steps r.returns)) ≡ Ok low)
            unfolding measure_records
            measure_given =
                let g = over_given _ (lowered_records (ast_env_of r) r.self r.steps r.returns)
                (measure_checks (ast_env_of r) r.self r.steps r.returns) (sym given ∙ measured) in
                (g.0, ap (λ (x : Lowering). Ok x) (sym g.1))

            pub measure_none : NoneDue (measure_checks (ast_env_of r) r.self r.steps r.returns)
            measure_none = measure_given.0

            pub elided : NoneDue elision_checks
            elided =
                let p = none_split (ast.env_checks (ast_env_of r)) _ (none_rest measure_none) in
                rw names_are at p.1

            pub env_is : low.env ≡ env_of_sheet r
            env_is = ap (λ (x : Lowering). x.env) (sym (ok_same measure_given.1)) ∙ rw names_are

            -- structs, params, output and force
            pub method_first : {k : Refusal}
                → FirstDue k (method_checks low.env r.structs r.params r.output r.force)
                → FirstDue k (lowering_checks r)
            unfolding lowering_checks
            method_first {k} due =
                let d : FirstDue k hir_checks = rw env_is at due in
                let f = first_behind (limits placed elided).0 (first_behind of_method d) in
                let g = first_without hir_places (past ∷ []) (limits placed elided).1 f in
                first_after placed (first_after elided g)

            pub method_none : NoneDue (method_checks low.env r.structs r.params r.output r.force)
                → NoneDue (lowering_checks r)
            unfolding lowering_checks
            method_none none =
                let n : NoneDue hir_checks = rw env_is at none in
                let p = none_split (take 2 (env_checks (env_of_sheet r))) _ (none_rest (none_rest n)) in
                let q = none_split hir_places _ p.1 in
                let s = none_split (drop 2 (env_checks (env_of_sheet r))) (past ∷ []) q.1 in
                none_more placed (none_more elided (none_more q.0 s.1))

            module _ {v : Verdict} (judges : v ≡ method_verdict low.env r.structs r.params r.output r.force) where
              pub method_refused : {k : Refusal} → v ≡ Err k → Err k ≡ lowered_env r
              method_refused {k} w =
                  refuses
                  (method_first
                  (refused_first (tt {0}) k (method_checks low.env r.structs r.params r.output r.force)
                  (sym judges ∙ w)))

              pub method_given : v ≡ Ok (tt {0}) → Ok low.env ≡ lowered_env r
              unfolding lowered_env
              method_given w =
                  let due =
                  method_none
                  (accepted_none (tt {0}) (method_checks low.env r.structs r.params r.output r.force)
                  (sym judges ∙ w)) in
                  rw (due_given (env_of_sheet r) due, env_is)

  -- T-12b: a method from a sheet is accepted
  pub accepted_method : NoneDue (records_checks r) → NoneDue (lowering_checks r) → NoneDue hir_checks
  unfolding lowering_checks
  accepted_method first n =
      let p = none_split ast_places _ n in
      let q = none_split elision_checks _ p.1 in
      let s = none_split hir_places (past ∷ []) q.1 in
      let l = limits p.0 q.0 in
      none_more (of_method first) (none_more l.0 (none_more s.0 (none_more l.1 s.1)))
