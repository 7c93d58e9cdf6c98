-- Condition 3: the test by which a new visitor's visits go is that of the numberings, and its visits are those of
-- `visit_param`.
use Rattle.std.specs.Prelude.{Ok}
use Prim.Native.Nat.{ℕ, zero, suc, ◌≤◌, ◌<◌}
use mathlib.Core.Bool.{Bool, true, false, cond, not, ◌&&◌, and-eq-true_iff}
use mathlib.Core.Path.{◌≡◌, refl, ◌∙◌}
use mathlib.Core.Logic.{◌↔◌}
use mathlib.Core.List.{List, ◌∷◌, ◌++◌, map, Memᴰ}
use native.Mathlib.Decide.{dec_lt}
use native.Mathlib.Omega.{arith}
use borrow.Author.Tests.{lt-ltb, lt-leb, not-false}
use lib.Dec.{ltb}
use lib.ListN.{length, get_or, get_or-eq_default}
use Rattle.lifetimes.specs.declared.env.LifetimeEnv.{LifetimeEnv}
use Rattle.answers.specs.declared.Refusal.TheVariants.{Malformed}
use Rattle.answers.specs.Refusals.{check, NoneDue, next}
use Rattle.answers.specs.Lists.{range, filter}
use Rattle.lifetimes.specs.Sets.{empty, member, members, set_of}
use Rattle.lifetimes.specs.Env.{bounds_of, env_checks}
use Rattle.lifetimes.specs.Reach.{reach_set, all_sets}
use Rattle.answers.proofs.RefusalLaws.{due_given, none_first, none_more, none_split}
use Rattle.answers.proofs.ListLaws.{range_has, filter_has}
use Rattle.lifetimes.proofs.SetLaws.{members_has}
use Rattle.lifetimes.proofs.Theorems.{reach_is_outlives, outlives_is_forced}
use Rattle.hir_types.specs.declared.types.Kind.{Kind}
use Rattle.hir_types.specs.declared.types.Kind.TheVariants.{Plain, Opaque, Struct, Slice}
use Rattle.hir_types.specs.LoweredTypes.{LoweredType}
use Rattle.hir_types.specs.Rows.{rows_of, structs_in_shape, params_in_shape}
use Rattle.hir_types.proofs.ShapeLaws.{four_in_shape}
use Rattle.methods.specs.Method.{types_in, type_checks, row_checks, param_checks, structs_and_params_checks, method_checks}
use Rattle.methods.specs.Used.{used_set, output_numbers}
use Rattle.borrowing_param.specs.declared.visitor.LifetimeEdge.{LifetimeEdge}
use Rattle.borrowing_param.specs.declared.visitor.BorrowingParamVisitor.{BorrowingParamVisitor}
use Rattle.borrowing_param.specs.Brings.{answer_of}
use Rattle.borrowing_param.specs.Visit.{used_of, draws_of, bring_to, bring_all, holding, state, visit_with, visit}
use Rattle.borrowing_param.specs.VisitParam.{type_at, visit_checks, visit_param}
use Rattle.borrowing_param.specs.Visits.{unrefused_by, all_of}
use Rattle.borrowing_param.specs.New.{draws_to, visitor_from, method_visitor, created}
use Rattle.borrowing_param.specs.Condition3.{Above, Param}
use Rattle.borrowing_param.specs.Theorems.{IsNew, answer_at, AllVisits}
use Rattle.borrowing_param.proofs.JoinLaws.{Once, join_part}
use Rattle.borrowing_param.proofs.VisitsLaws.{kept, unrefused_kept, visits_all}
use Rattle.borrowing_param.proofs.BringsLaws.{brought_by_lem, bring_ascends, bring_formed, Formed, kind_number, defs}
use Rattle.borrowing_param.proofs.BringsLaws.{answers}
use Rattle.borrowing_param.proofs.VisitorLaws.{param_short}
use Rattle.borrowing_param.proofs.NewLaws.{places, draws_at, set_there, places_none, env_none, few_lifetimes, used_below}

-- ---- by the numberings

module _ (env : LifetimeEnv) (valid : NoneDue (env_checks env)) (few : env.count ≤ 64) (used : ℕ) (below : (k : ℕ)
    → member used k ≡ true → k < env.count) where
  abbrev sets : List ℕ
  sets = all_sets true env

  abbrev v : BorrowingParamVisitor
  v = visitor_from used sets

  draws_above : (l b : ℕ) → Memᴰ l (used_of v) → (draws_of v l b ≡ true) ↔ Above env b l
  unfolding visitor_from
  draws_above l b m =
      let in-used = (members_has used l).0 m in
      let set : get_or v.draws l 0 ≡ reach_set true env l =
      draws_at used sets l in-used.0 ∙ rw in-used.1 (set_there env l (below l in-used.1)) in
      let reach = reach_is_outlives true env valid l (below l in-used.1) in
      let listed = reach.list.members b in
      let forced = (outlives_is_forced (bounds_of env) l b).0 in
      let both = and-eq-true_iff (ltb b 64) (member (get_or v.draws l 0) b) in (
        λ h. let k = listed.0 ((reach.set b).0 (rw set at (both.0 h).1)) in (k.0, forced.0 k.1),
        λ h. both.1 (lt-ltb b 64 (omega (arith, h.0)), rw set ((reach.set b).1 (listed.1 (h.0, forced.1 h.1)))),
      )

  pub draws_nothing : (l : ℕ) → (Memᴰ l (used_of v) → ⊥) → get_or v.draws l 0 ≡ empty
  unfolding visitor_from
  draws_nothing l out = go (dec_lt l 64)
    where
      not_member : l < 64 → (t : Bool) → member used l ≡ t → cond t (get_or sets l 0) empty ≡ empty
      not_member h true e = absurd (out ((members_has used l).1 (h, e)))
      not_member h false e = refl

      go : Dec (l < 64) → get_or (map (draws_to used sets) (range 0 64)) l 0 ≡ empty
      go (yes h) = draws_at used sets l h ∙ not_member h (member used l) refl
      go (no h) =
          get_or-eq_default (map (draws_to used sets) (range 0 64)) 0 {n = l}
          (omega (arith, h, places (draws_to used sets) 64))

  -- what one parameter brings and answers
  param_is : (t : LoweredType) (p : ℕ) → length t.path ≤ 16
      → Param env v t p (answer_of t.kind (bring_all v t p))
  param_is t p short = record {
    brought = λ l m e. brought_by_lem (draws_of v l) (λ b. Above env b l) (λ b. draws_above l b m) l p t e;
    ascending = λ l. bring_ascends (draws_of v l) l p t;
    answers = answers t.kind p 16 (bring_all v t p) (omega arith) form;
  }
    where
      few_defs : (k : Kind) → defs k t ≤ 16
      few_defs Plain = omega arith
      few_defs Opaque = omega arith
      few_defs Slice = omega arith
      few_defs (Struct row) = short

      form : (e : LifetimeEdge) → Memᴰ e (bring_all v t p) → (used : ℕ) × Formed used p (kind_number t.kind) 16 e
      form e m =
          let r = join_part (bring_to v t p) (used_of v) e m in
          let f = bring_formed (draws_of v r.part) r.part p t e r.holds in
          let k = few_defs t.kind in
          (r.part, record { own = f.own; visits = f.visits; what = f.what; below = omega (arith, f.below) })

-- ---- each used lifetime stands once

once_from : (f : ℕ → Bool) (x n : ℕ) → Once (filter f (range x n))
unfolding range filter Once
once_from f x zero = tt
once_from f x (suc n) = go (f x) (once_from f (suc x) n)
  where
    go : (t : Bool) → Once (filter f (range (suc x) n))
        → Once (cond t (x ∷ filter f (range (suc x) n)) (filter f (range (suc x) n)))
    go true r = (
      λ m. let k = (range_has (suc x) n x).0 ((filter_has f (range (suc x) n) x).0
          m).0 in omega (arith, k.0),
      r,
    )
    go false r = r

pub once_used : (used : ℕ) → Once (members used)
unfolding members
once_used used = once_from (member used) 0 64

-- ---- the visits of an accepted method

module _ (env : LifetimeEnv) (structs params output force : List ℕ)
    (none : NoneDue (method_checks env structs params output force)) where
  pub in_shape_lem : (structs_in_shape structs ≡ true) × (params_in_shape (length (rows_of structs)) params ≡ true)
  in_shape_lem =
      let four = four_in_shape structs params output force (not-false _ (none_first none)) in
      (four.structs_shape, four.params_shape)

  pub rows_params : NoneDue (row_checks (rows_of structs) 0 (rows_of structs))
      × NoneDue (param_checks (rows_of structs) 0 (types_in structs params))
  rows_params =
      let a = none_split (row_checks (rows_of structs) 0 (rows_of structs))
      (param_checks (rows_of structs) 0 (types_in structs params) ++ type_checks (rows_of structs)
      (types_in structs output)) (places_none env structs params output force none) in (
        a.0,
        (none_split (param_checks (rows_of structs) 0 (types_in structs params)) (type_checks (rows_of structs)
            (types_in structs output)) a.1).0,
      )

  -- its structs and params alone, as `visit_param` and `borrow_map` look at them
  pub params_none : NoneDue (structs_and_params_checks structs params)
  params_none =
      next {c = check (not (structs_in_shape structs && params_in_shape (length (rows_of structs)) params)) Malformed}
      (rw (in_shape_lem.0, in_shape_lem.1))
      (none_more rows_params.0 rows_params.1)

  visit_none : (p : ℕ) → p < length (types_in structs params) → NoneDue (visit_checks structs params p)
  visit_none p h = next (lt-leb (length (types_in structs params)) p h) params_none

  abbrev used : ℕ
  used = set_of (output_numbers structs output)

  used_given : used_set env structs params output force ≡ Ok used
  unfolding used_set
  used_given = due_given used none

  abbrev new : BorrowingParamVisitor
  new = method_visitor env structs output

  pub created_is : created env structs params output force ≡ Ok new
  unfolding created
  created_is = due_given new none

  pub created_new : IsNew env structs params output force new
  unfolding visitor_from
  created_new =
      let valid = env_none env structs params output force none in
      let few = few_lifetimes env structs params output force none in
      let below = used_below env structs params output force none used used_given in
      record {
        accepted = created_is;
        used = used_given;
        draws = λ l m b. draws_above env valid few used below l b m;
        draws_none = λ l out. draws_nothing env valid few used below l out;
        stored = refl;
      }

  abbrev type : ℕ → LoweredType
  type p = type_at (types_in structs params) p

  agrees : (e : ℕ) (words : List ℕ) (p : ℕ) → p < length (types_in structs params)
      → visit_param structs params (state (holding new e) words) p ≡ visit_with (state (holding new e) words)
      (answer_at structs params new p) (all_of new (λ l q. bring_to new (type q) q l) p)
  unfolding visit_param visit
  agrees e words p h = rw (due_given (tt {0}) (visit_none p h))

  new_empty : new.stored ≡ 0
  unfolding visitor_from
  new_empty = refl

  once_new : Once (used_of new)
  unfolding visitor_from
  once_new = once_used used

  abbrev Within : List ℕ → Type 0
  Within ps = (p : ℕ) → Memᴰ p ps → p < length (types_in structs params)

  abbrev brings : ℕ → ℕ → List LifetimeEdge
  brings l q = bring_to new (type q) q l

  -- which visits are unrefused, by their room
  pub unrefused_new : (words ps : List ℕ) → Within ps
      → unrefused_by (visit_param structs params) (state new words) ps
      ≡ kept (λ p. length (all_of new brings p)) (length words) 0 ps
  unfolding visitor_from
  unrefused_new words ps within =
      unrefused_kept (visit_param structs params) new brings (answer_at structs params new)
      (length (types_in structs params)) agrees words ps within

  pub all_visits : (words ps : List ℕ) → Within ps
      → AllVisits env structs params output force new words ps
  all_visits words ps within = record {
    new = created_new;
    parameters = λ p h.
        param_is env (env_none env structs params output force none)
        (few_lifetimes env structs params output force none) used
        (used_below env structs params output force none used used_given)
        (type p) p (param_short structs params in_shape_lem.1 p h);
    visits =
        visits_all (visit_param structs params) new brings (answer_at structs params new)
        (length (types_in structs params)) agrees
        (λ l q e m. (bring_formed (draws_of new l) l q (type q) e m).own) once_new new_empty words ps within;
  }
