-- The listing is in order and consistent: which edges are listed; their order; what an answer's number says of them;
-- how many there can be.
use Prim.Native.Nat.{ℕ, zero, suc, ◌+◌, ◌*◌, ◌≤◌, ◌<◌}
use mathlib.Core.Bool.{Bool, true, false}
use mathlib.Core.Path.{◌≡◌, refl, sym, ap, subst, ◌∙◌}
use mathlib.Core.Logic.{◌⊎◌, inl, inr, ⊎_elim, ◌↔◌, ∥∥₁_elim}
use mathlib.Core.HLevel.{×_prop}
use mathlib.Core.List.Memᴰ
use mathlib.Core.List.{List, [], ◌∷◌, ◌++◌, flat_map, Memᴰ}
use mathlib.Core.List.{Pairwise}
use mathlib.Core.List.Pairwise
use mathlib.Core.List.{Pairwise-append}
use native.Mathlib.Bridge.{le_prop}
use native.Mathlib.Nat.{add-zero, zero-add, ℕ_set}
use native.Mathlib.Omega.{arith}
use lib.ListN.{length, get_or, length-append}
use Rattle.answers.specs.Refusals.{NoneDue}
use Rattle.lifetimes.proofs.SetLaws.{members_few, members_has, members_ascending}
use Rattle.hir_types.specs.declared.types.Kind.{Kind}
use Rattle.hir_types.specs.declared.types.Kind.TheVariants.{Plain, Opaque, Struct, Slice}
use Rattle.hir_types.specs.LoweredTypes.{LoweredType}
use Rattle.methods.specs.Method.{types_in, structs_and_params_checks}
use Rattle.borrowing_param.specs.declared.visitor.LifetimeEdge.{LifetimeEdge}
use Rattle.borrowing_param.specs.declared.visitor.BorrowingParamVisitor.{BorrowingParamVisitor}
use Rattle.borrowing_param.specs.Brings.{option_of, bring, answer_number}
use Rattle.borrowing_param.specs.Visit.{used_of, draws_of, bring_to, bring_all}
use Rattle.borrowing_param.specs.VisitParam.{type_at}
use Rattle.borrowing_param.specs.BorrowMap.{listed_to, listed_edges, answers_from}
use Rattle.borrowing_param.specs.Condition3.{ByDef, BroughtAs}
use Rattle.borrowing_param.specs.Consistent.{Before, Consistent}
use Rattle.borrowing_param.proofs.JoinLaws.{join_part}
use Rattle.borrowing_param.proofs.EdgesLaws.{bring_few}
use Rattle.borrowing_param.proofs.BringsLaws.{Formed, kind_number, defs, bring_formed, bring_ascends, brought_by_lem}
use Rattle.borrowing_param.proofs.VisitorLaws.{param_short}
use Rattle.borrowing_param.proofs.ListedLaws.{join_few, answers_many, alone_shape, few_types}
use Rattle.answers.specs.Lists.{numbered}

-- ---- edges one after another

exclusive : {A B : Type 0} → IsProp A → IsProp B → (A → B → ⊥) → IsProp (A ⊎ B)
exclusive {A} {B} p q apart = go
  where
    go : (x y : A ⊎ B) → x ≡ y
    go (inl a) (inl b) = ap inl (p a b)
    go (inl a) (inr b) = absurd (apart a b)
    go (inr a) (inl b) = absurd (apart b a)
    go (inr a) (inr b) = ap inr (q a b)

before_prop : (a b : LifetimeEdge) → IsProp (Before a b)
before_prop a b =
    exclusive le_prop
    (×_prop (ℕ_set _ _) (exclusive le_prop (×_prop (ℕ_set _ _) le_prop) (λ h k. omega (arith, k.0))))
    (λ h k. omega (arith, k.0))

order_append : (l m : List LifetimeEdge) → Pairwise Before l → Pairwise Before m
    → ((x y : LifetimeEdge) → Memᴰ x l → Memᴰ y m → Before x y) → Pairwise Before (l ++ m)
order_append l m a b h =
    (Pairwise-append before_prop {l₁ = l} {l₂ = m}).1
    (a, b, λ x i y j. ∥∥₁_elim i (before_prop x y) (λ c. ∥∥₁_elim j (before_prop x y) (λ d. h x y c d)))

order_by_def : (used param : ℕ) (l : List LifetimeEdge) → Pairwise ByDef l
    → ((e : LifetimeEdge) → Memᴰ e l → (e.used ≡ used) × (e.param ≡ param)) → Pairwise Before l
order_by_def used param l a h =
    Pairwise.imp_of_mem
    (λ x y i j r. ∥∥₁_elim i (before_prop x y) (λ c. ∥∥₁_elim j (before_prop x y) (λ d.
    let here = h x c in
    let there = h y d in
    inr (here.0 ∙ sym there.0, inr (here.1 ∙ sym there.1, r)))))
    a

-- ---- which edges are listed

join_has : {A : Type 0} (f : ℕ → List A) (l : List ℕ) {x : ℕ} {a : A} → Memᴰ x l → Memᴰ a (f x) → Memᴰ a (flat_map f l)
unfolding flat_map
join_has f [] m h = absurd (Memᴰ.not-nil m)
join_has {A} f (y ∷ l) {x} {a} m h =
    ⊎_elim
    (λ e. Memᴰ.append_left (flat_map f l) (subst (λ (z : ℕ). Memᴰ a (f z)) e h))
    (λ k. Memᴰ.append_right (f y) (join_has f l k h))
    (Memᴰ.cases_cons m)

module _ (v : BorrowingParamVisitor) where
  -- an edge of one used lifetime is that of one of the types
  record Of (param : ℕ) (ts : List LoweredType) (used : ℕ) (e : LifetimeEdge) : Type 0 where
    number : ℕ
    below : number < length ts
    is : e.param ≡ param + number
    brought : Memᴰ e (bring_to v (type_at ts number) e.param used)

  to_of : (param : ℕ) (ts : List LoweredType) (used : ℕ) (e : LifetimeEdge) → Memᴰ e (listed_to v param ts used)
      → Of param ts used e
  unfolding numbered
  to_of param [] used e m = absurd (Memᴰ.not-nil m)
  to_of param (t ∷ ts) used e m =
      ⊎_elim
      (λ h.
      let is : e.param ≡ param = (bring_formed (draws_of v used) used param t e h).visits in
      record {
        number = 0;
        below = omega arith;
        is = is ∙ sym (add-zero param);
        brought = subst (λ (k : ℕ). Memᴰ e (bring_to v t k used)) (sym is) h;
      })
      (λ h.
      let r = to_of (suc param) ts used e h in
      record { number = suc r.number; below = omega (arith, r.below); is = omega (arith, r.is); brought = r.brought })
      (Memᴰ.append_cases (bring_to v t param used) m)

  of_to : (param : ℕ) (ts : List LoweredType) (used n : ℕ) (e : LifetimeEdge) → n < length ts
      → Memᴰ e (bring_to v (type_at ts n) (param + n) used) → Memᴰ e (listed_to v param ts used)
  unfolding numbered
  of_to param [] used n e h m = absurd (omega arith)
  of_to param (t ∷ ts) used zero e h m = Memᴰ.append_left (listed_to v (suc param) ts used) (rw add-zero at m)
  of_to param (t ∷ ts) used (suc n) e h m =
      let same : param + suc n ≡ suc param + n = omega arith in
      Memᴰ.append_right (bring_to v t param used) (of_to (suc param) ts used n e (omega arith) (rw same at m))

  pub to_used : (param : ℕ) (ts : List LoweredType) (used : ℕ) (e : LifetimeEdge)
      → Memᴰ e (listed_to v param ts used) → e.used ≡ used
  to_used param ts used e m = let r = to_of param ts used e m in
      (bring_formed (draws_of v used) used e.param (type_at ts r.number) e r.brought).own

  -- an edge of the listing
  record Listed (ts : List LoweredType) (e : LifetimeEdge) : Type 0 where
    listed : Memᴰ e.used (used_of v)
    below : e.param < length ts
    brought : Memᴰ e (bring_to v (type_at ts e.param) e.param e.used)

  edge_listed : (ts : List LoweredType) (e : LifetimeEdge) → Memᴰ e (listed_edges v ts) → Listed ts e
  unfolding listed_edges
  edge_listed ts e m =
      let r = join_part (listed_to v 0 ts) (used_of v) e m in
      let o = to_of 0 ts r.part e r.holds in
      let own : r.part ≡ e.used = sym (to_used 0 ts r.part e r.holds) in
      let number : o.number ≡ e.param = sym (o.is ∙ zero-add o.number) in
      record {
        listed = rw (← own) r.listed;
        below = omega (arith, o.below);
        brought =
            subst (λ (k : ℕ). Memᴰ e (bring_to v (type_at ts k) e.param e.used)) number
            (subst (λ (k : ℕ). Memᴰ e (bring_to v (type_at ts o.number) e.param k)) own o.brought);
      }

  listed_edge : (ts : List LoweredType) (e : LifetimeEdge) (used n : ℕ) → Memᴰ used (used_of v) → n < length ts
      → Memᴰ e (bring_to v (type_at ts n) n used) → Memᴰ e (listed_edges v ts)
  unfolding listed_edges
  listed_edge ts e used n m h b = join_has (listed_to v 0 ts) (used_of v) m (of_to 0 ts used n e h (rw zero-add b))

  -- ---- their order

  to_order : (param : ℕ) (ts : List LoweredType) (used : ℕ) → Pairwise Before (listed_to v param ts used)
  unfolding numbered
  to_order param [] used = Pairwise.nil
  to_order param (t ∷ ts) used =
      order_append (bring_to v t param used) (listed_to v (suc param) ts used)
      (order_by_def used param (bring_to v t param used) (bring_ascends (draws_of v used) used param t)
      (λ e m. let f = bring_formed (draws_of v used) used param t e m in (f.own, f.visits)))
      (to_order (suc param) ts used)
      (λ x y i j.
      let f = bring_formed (draws_of v used) used param t x i in
      let o = to_of (suc param) ts used y j in
      inr (f.own ∙ sym (to_used (suc param) ts used y j), inl (omega (arith, f.visits, o.is))))

  all_order : (ts : List LoweredType) {us : List ℕ} → Pairwise ◌<◌ us → Pairwise Before (flat_map (listed_to v 0 ts) us)
  unfolding flat_map
  all_order ts Pairwise.nil = Pairwise.nil
  all_order ts (Pairwise.cons {a = u} {l = us} h p) =
      order_append (listed_to v 0 ts u) (flat_map (listed_to v 0 ts) us) (to_order 0 ts u) (all_order ts p)
      (λ x y i j.
      let r = join_part (listed_to v 0 ts) us y j in
      inl (omega (arith, to_used 0 ts u x i, to_used 0 ts r.part y r.holds, h r.part ∣ r.listed ∣₁)))

  -- ---- the answers' numbers

  answer_at : (param : ℕ) (ts : List LoweredType) (n : ℕ) → n < length ts
      → get_or (answers_from v param ts) n 0 ≡ answer_number (type_at ts n).kind (bring_all v (type_at ts n) (param + n))
  unfolding numbered
  answer_at param [] n h = absurd (omega arith)
  answer_at param (t ∷ ts) zero h = rw add-zero
  answer_at param (t ∷ ts) (suc n) h = let same : param + suc n ≡ suc param + n = omega arith in
      rw same (answer_at (suc param) ts n (omega arith))

  pub answer_is : (ts : List LoweredType) (n : ℕ) → n < length ts
      → get_or (answers_from v 0 ts) n 0 ≡ answer_number (type_at ts n).kind (bring_all v (type_at ts n) n)
  answer_is ts n h = answer_at 0 ts n h ∙ ap (λ (k : ℕ). answer_number (type_at ts n).kind (bring_all v (type_at ts n) k)) (zero-add n)

number_most : (k : Kind) (es : List LifetimeEdge) → answer_number k es ≤ 4
number_most Plain es = omega arith
number_most Opaque [] = omega arith
number_most Opaque (e ∷ es) = omega arith
number_most Slice [] = omega arith
number_most Slice (e ∷ es) = omega arith
number_most (Struct row) [] = omega arith
number_most (Struct row) (e ∷ es) = omega arith

-- from 2 on there is an edge
number_some : (k : Kind) (es : List LifetimeEdge) → 2 ≤ answer_number k es → (e : LifetimeEdge) × Memᴰ e es
number_some Plain es h = absurd (omega arith)
number_some Opaque [] h = absurd (omega arith)
number_some Opaque (e ∷ es) h = (e, Memᴰ.head refl)
number_some Slice [] h = absurd (omega arith)
number_some Slice (e ∷ es) h = (e, Memᴰ.head refl)
number_some (Struct row) [] h = absurd (omega arith)
number_some (Struct row) (e ∷ es) h = (e, Memᴰ.head refl)

-- with an edge the kind decides
abbrev some_number : Kind → ℕ
some_number Plain = 0
some_number Opaque = 4
some_number Slice = 2
some_number (Struct row) = 3

number_with : (k : Kind) (es : List LifetimeEdge) (e : LifetimeEdge) → Memᴰ e es → answer_number k es ≡ some_number k
number_with k [] e m = absurd (Memᴰ.not-nil m)
number_with Plain (x ∷ es) e m = refl
number_with Opaque (x ∷ es) e m = refl
number_with Slice (x ∷ es) e m = refl
number_with (Struct row) (x ∷ es) e m = refl

both_three : (k : Kind) → (kind_number k ≡ 3) ↔ (some_number k ≡ 3)
both_three Plain = (λ h. absurd (omega arith), λ h. absurd (omega arith))
both_three Opaque = (λ h. absurd (omega arith), λ h. absurd (omega arith))
both_three Slice = (λ h. absurd (omega arith), λ h. absurd (omega arith))
both_three (Struct row) = (λ h. refl, λ h. refl)

abbrev option_by : Kind → LoweredType → ℕ
option_by Plain t = 0
option_by Opaque t = 0
option_by Slice t = 0
option_by (Struct row) t = option_of t.option

module _ (draws : ℕ → Bool) (used param : ℕ) (t : LoweredType) (e : LifetimeEdge) (m : Memᴰ e (bring draws used param t)) where
  abbrev Drawn : ℕ → Type 0
  Drawn b = draws b ≡ true

  is_brought : BroughtAs t.kind Drawn used param t e
  is_brought = (brought_by_lem draws Drawn (λ b. (λ h. h, λ h. h)) used param t e).0 m

  option_is : e.option ≡ option_by t.kind t
  option_is = go t.kind is_brought
    where
      go : (k : Kind) → BroughtAs k Drawn used param t e → e.option ≡ option_by k t
      go Plain b = absurd b
      go Opaque b = ap (λ (x : LifetimeEdge). x.option) b.1
      go Slice b = ap (λ (x : LifetimeEdge). x.option) b.1
      go (Struct row) b = ap (λ (x : LifetimeEdge). x.option) b.2

  kind_known : (1 ≤ kind_number t.kind) × (kind_number t.kind ≤ 3)
  kind_known = go t.kind is_brought
    where
      go : (k : Kind) → BroughtAs k Drawn used param t e → (1 ≤ kind_number k) × (kind_number k ≤ 3)
      go Plain b = absurd b
      go Opaque b = (omega arith, omega arith)
      go Slice b = (omega arith, omega arith)
      go (Struct row) b = (omega arith, omega arith)

  all_zero : e.kind < 3 → (e.def ≡ 0) × (e.option ≡ 0)
  all_zero h = go t.kind is_brought
    where
      go : (k : Kind) → BroughtAs k Drawn used param t e → (e.def ≡ 0) × (e.option ≡ 0)
      go Plain b = absurd b
      go Opaque b = (ap (λ (x : LifetimeEdge). x.def) b.1, ap (λ (x : LifetimeEdge). x.option) b.1)
      go Slice b = (ap (λ (x : LifetimeEdge). x.def) b.1, ap (λ (x : LifetimeEdge). x.option) b.1)
      go (Struct row) b = absurd (omega (arith, ap (λ (x : LifetimeEdge). x.kind) b.2))

  some_two : 2 ≤ some_number t.kind
  some_two = go t.kind is_brought
    where
      go : (k : Kind) → BroughtAs k Drawn used param t e → 2 ≤ some_number k
      go Plain b = absurd b
      go Opaque b = omega arith
      go Slice b = omega arith
      go (Struct row) b = omega arith

few_defs : (k : Kind) (t : LoweredType) → length t.path ≤ 16 → defs k t ≤ 16
few_defs Plain t h = omega arith
few_defs Opaque t h = omega arith
few_defs Slice t h = omega arith
few_defs (Struct row) t h = h

-- ---- how many there can be

abbrev AllShort : List LoweredType → Type 0
AllShort ts = (n : ℕ) → n < length ts → length (type_at ts n).path ≤ 16

to_few : (v : BorrowingParamVisitor) (param : ℕ) (ts : List LoweredType) (used : ℕ) → AllShort ts
    → length (listed_to v param ts used) ≤ 16 * length ts
unfolding numbered
to_few v param [] used h = omega arith
to_few v param (t ∷ ts) used h =
    rw (length-append (bring_to v t param used) (listed_to v (suc param) ts used))
    (omega (
      arith,
      bring_few (draws_of v used) used param t (h 0 (omega arith)),
      to_few v (suc param) ts used (λ n k. h (suc n) (omega arith)),
    ))

pub edges_few : (v : BorrowingParamVisitor) (ts : List LoweredType) → length ts ≤ 16 → AllShort ts
    → length (listed_edges v ts) ≤ 256 * length (used_of v)
unfolding listed_edges
edges_few v ts few h = join_few (listed_to v 0 ts) 256 (λ x. omega (arith, to_few v 0 ts x h)) (used_of v)

-- ---- together

consistent : (v : BorrowingParamVisitor) (ts : List LoweredType) → length ts ≤ 16 → AllShort ts
    → Consistent (used_of v) (answers_from v 0 ts) (listed_edges v ts)
unfolding listed_edges
consistent v ts few short = record {
  used_increasing = members_ascending v.used;
  edges_in_order = all_order v ts (members_ascending v.used);
  edge_used = λ e m. (edge_listed v ts e m).listed;
  edge_param = λ e m. omega (arith, (edge_listed v ts e m).below, answers_many v 0 ts);
  edge_def = λ e m.
      let l = edge_listed v ts e m in
      let t = type_at ts e.param in
      omega (arith, (form e m).below, few_defs t.kind t (short e.param l.below));
  edge_kind =
      λ e m. rw (form e m).what
      (kind_known (draws_of v e.used) e.used e.param (type_at ts e.param) e (edge_listed v ts e m).brought);
  plain = λ e m h. all_zero (draws_of v e.used) e.used e.param (type_at ts e.param) e (edge_listed v ts e m).brought h;
  edge_option = λ e m. rw (option e m) (option_most (type_at ts e.param).kind (type_at ts e.param));
  struct = λ e m.
      let l = edge_listed v ts e m in
      let k = (type_at ts e.param).kind in
      let same : e.kind ≡ kind_number k = (form e m).what in
      let number : get_or (answers_from v 0 ts) e.param 0 ≡ some_number k =
      answer_is v ts e.param l.below ∙ number_with k (bring_all v (type_at ts e.param) e.param) e
      (in_all e m) in
      (λ h. number ∙ (both_three k).0 (sym same ∙ h), λ h. same ∙ (both_three k).1 (sym number ∙ h));
  one_option = λ e x m n q. option e m ∙ ap (λ (p : ℕ). option_by (type_at ts p).kind (type_at ts p)) q ∙ sym (option x n);
  borrowed = λ p h. let below : p < length ts = omega (arith, answers_many v 0 ts) in (λ k. edge_for p below k, λ k. two p k);
  most = λ p h. rw (answer_is v ts p (omega (arith, answers_many v 0 ts)))
      (number_most (type_at ts p).kind (bring_all v (type_at ts p) p));
  used_below = λ l m. ((members_has v.used l).0 m).0;
  few_used = members_few v.used;
  few_params = rw (answers_many v 0 ts) few;
  few_edges = omega (arith, edges_few v ts few short, members_few v.used);
}
  where
    flag_most : (b : Bool) → option_of b ≤ 1
    flag_most true = omega arith
    flag_most false = omega arith

    option_most : (k : Kind) (t : LoweredType) → option_by k t ≤ 1
    option_most Plain t = omega arith
    option_most Opaque t = omega arith
    option_most (Struct row) t = flag_most t.option
    option_most Slice t = omega arith

    form : (e : LifetimeEdge) → Memᴰ e (listed_edges v ts)
        → Formed e.used e.param (kind_number (type_at ts e.param).kind)
        (defs (type_at ts e.param).kind (type_at ts e.param)) e
    form e m = bring_formed (draws_of v e.used) e.used e.param (type_at ts e.param) e (edge_listed v ts e m).brought

    in_all : (e : LifetimeEdge) → Memᴰ e (listed_edges v ts) → Memᴰ e (bring_all v (type_at ts e.param) e.param)
    in_all e m = let l = edge_listed v ts e m in
        join_has (bring_to v (type_at ts e.param) e.param) (used_of v) l.listed l.brought

    option : (e : LifetimeEdge) → Memᴰ e (listed_edges v ts)
        → e.option ≡ option_by (type_at ts e.param).kind (type_at ts e.param)
    option e m = option_is (draws_of v e.used) e.used e.param (type_at ts e.param) e (edge_listed v ts e m).brought

    edge_for : (p : ℕ) → p < length ts → 2 ≤ get_or (answers_from v 0 ts) p 0
        → (e : LifetimeEdge) × Memᴰ e (listed_edges v ts) × (e.param ≡ p)
    edge_for p below k =
        let some = number_some (type_at ts p).kind (bring_all v (type_at ts p) p) (rw (answer_is v ts p below) at k) in
        let r = join_part (bring_to v (type_at ts p) p) (used_of v) some.0 some.1 in (
          some.0,
          listed_edge v ts some.0 r.part p r.listed below r.holds,
          (bring_formed (draws_of v r.part) r.part p (type_at ts p) some.0 r.holds).visits,
        )

    two : (p : ℕ) → ((e : LifetimeEdge) × Memᴰ e (listed_edges v ts) × (e.param ≡ p)) → 2 ≤ get_or (answers_from v 0 ts) p 0
    two p (e, m, q) =
        let l = edge_listed v ts e m in
        let t = type_at ts e.param in
        let number : get_or (answers_from v 0 ts) e.param 0 ≡ some_number t.kind =
        answer_is v ts e.param l.below ∙ number_with t.kind (bring_all v t e.param) e (in_all e m) in
        let least : 2 ≤ get_or (answers_from v 0 ts) e.param 0 =
        rw number (some_two (draws_of v e.used) e.used e.param t e l.brought) in
        rw q at least

pub listing_consistent : (v : BorrowingParamVisitor) (structs params : List ℕ) → NoneDue (structs_and_params_checks structs params)
    → Consistent (used_of v) (answers_from v 0 (types_in structs params)) (listed_edges v (types_in structs params))
listing_consistent v structs params none =
    consistent v (types_in structs params) (few_types structs params none)
    (param_short structs params (alone_shape structs params none).1)
