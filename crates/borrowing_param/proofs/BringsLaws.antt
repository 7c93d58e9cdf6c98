-- What a parameter brings: whose its edges are, their form, the pairs that they carry; and that by a test which decides
-- a property it brings what the property says.
use Prim.Native.Nat.{ℕ, zero, suc, ◌+◌, ◌≤◌, ◌<◌}
use mathlib.Core.Bool.{Bool, true, false, cond, true≢false, ◌||◌}
use mathlib.Core.Path.{◌≡◌, refl, sym, ap, subst, ◌∙◌}
use mathlib.Core.Logic.{◌⊎◌, inl, inr, ⊎_elim, ◌↔◌, ∥∥₁_elim}
use mathlib.Core.List.Memᴰ
use mathlib.Core.List.{List, [], ◌∷◌, ◌++◌, map, Memᴰ}
use mathlib.Core.List.{Pairwise}
use native.Mathlib.Decide.{ℕ_discrete, dec_lt}
use native.Mathlib.Bridge.{le_prop}
use native.Mathlib.Omega.{arith}
use lib.ListN.{length, get_or, length-set, length-map, get_or-replicate, get_or-eq_default}
use lib.Seq.{get_or-set_same, get_or-set_other}
use borrow.Author.Tests.{eq-eqb, ne_eqb}
use Rattle.lifetimes.specs.declared.lifetime.Lifetime.{Lifetime}
use Rattle.lifetimes.specs.declared.maybe_static.MaybeStatic.{MaybeStatic}
use Rattle.lifetimes.specs.declared.maybe_static.MaybeStatic.TheVariants.{Static, NonStatic}
use Rattle.lifetimes.specs.Numbers.{lifetime}
use Rattle.lifetimes.specs.LoweredWords.{from_word}
use Rattle.lifetimes.specs.Sets.{member, insert}
use Rattle.lifetimes.proofs.SetLaws.{member_empty, member_insert_same, member_insert_true, member_insert_keeps}
use Rattle.hir_types.specs.declared.types.Kind.{Kind}
use Rattle.hir_types.specs.declared.types.Kind.TheVariants.{Plain, Opaque, Struct, Slice}
use Rattle.hir_types.specs.LoweredTypes.{LoweredType, lifetimes_of}
use Rattle.borrowing_param.specs.declared.visitor.LifetimeEdge.{LifetimeEdge}
use Rattle.borrowing_param.specs.Edges.{edge}
use Rattle.borrowing_param.specs.Brings.{drawn, any_drawn, struct_edges, option_of, bring_as, bring, answer_number, note}
use Rattle.borrowing_param.specs.Brings.{notes, empty_pairs, answer_of}
use Rattle.borrowing_param.specs.Condition3.{Some, FilledBy, BroughtAs, Brought, ByDef, Answers}
use Rattle.answers.specs.Lists.{any, numbered}

-- ---- by a test that decides a property

module _ (draws : ℕ → Bool) (D : ℕ → Type 0) (test : (b : ℕ) → (draws b ≡ true) ↔ D b) where
  drawn_by : (m : MaybeStatic Lifetime) → drawn draws m ≡ true → (b : ℕ) × (m ≡ NonStatic (lifetime b)) × D b
  drawn_by Static h = absurd (true≢false (sym h))
  drawn_by (NonStatic l) h = (l.0, refl, (test l.0).0 h)

  draws_it : (m : MaybeStatic Lifetime) (b : ℕ) → m ≡ NonStatic (lifetime b) → D b → drawn draws m ≡ true
  draws_it m b e d = ap (drawn draws) e ∙ (test b).1 d

  any_some : (ms : List (MaybeStatic Lifetime)) → (any_drawn draws ms ≡ true) ↔ Some D ms
  unfolding any
  any_some [] = (λ h. absurd (true≢false (sym h)), λ s. absurd (Memᴰ.not-nil s.1))
  any_some (m ∷ ms) = go (drawn draws m) refl (any_some ms)
    where
      go : (t : Bool) → drawn draws m ≡ t → (any_drawn draws ms ≡ true) ↔ Some D ms
          → (t || any_drawn draws ms ≡ true) ↔ Some D (m ∷ ms)
      go true e r = (λ h. let f = drawn_by m e in (f.0, Memᴰ.head (sym f.1), f.2), λ s. refl)
      go false e r = (
        λ h. let s = r.0 h in (s.0, Memᴰ.tail s.1, s.2),
        λ s. ⊎_elim (λ g. absurd (true≢false (sym (draws_it m s.0 (sym g) s.2) ∙ e))) (λ k. r.1 (s.0, k, s.2))
            (Memᴰ.cases_cons s.1),
      )

  one_by : (t : Bool) (P : Type 0) (x e : LifetimeEdge) → (t ≡ true) ↔ P → Memᴰ e (cond t (x ∷ []) []) ↔ (P × (e ≡ x))
  one_by true P x e h = (λ m. (h.0 refl, Memᴰ.eq_of_singleton m), λ k. Memᴰ.head k.1)
  one_by false P x e h = (λ m. absurd (Memᴰ.not-nil m), λ k. absurd (true≢false (sym (h.1 k.0))))

  -- the edges of a struct from the definition lifetime `from` on
  abbrev From : ℕ → ℕ → ℕ → ℕ → List (MaybeStatic Lifetime) → LifetimeEdge → Type 0
  From used param option from ms e = (def : ℕ) × FilledBy D ms def × (e ≡ edge used param 3 (from + def) option)

  struct_by : (used param option from : ℕ) (ms : List (MaybeStatic Lifetime)) (e : LifetimeEdge)
      → Memᴰ e (struct_edges draws used param option from ms) ↔ From used param option from ms e
  unfolding numbered
  struct_by used param option from [] e = (λ m. absurd (Memᴰ.not-nil m), λ k. absurd (omega (arith, k.1.1)))
  struct_by used param option from (m ∷ ms) e = go (drawn draws m) refl (struct_by used param option (suc from) ms e)
    where
      shifted : (def : ℕ) → edge used param 3 (suc from + def) option ≡ edge used param 3 (from + suc def) option
      shifted def = ap (λ (k : ℕ). edge used param 3 k option) (omega arith)

      unshifted : edge used param 3 from option ≡ edge used param 3 (from + 0) option
      unshifted = ap (λ (k : ℕ). edge used param 3 k option) (omega arith)

      later : From used param option (suc from) ms e → From used param option from (m ∷ ms) e
      later (def, f, q) = (suc def, (f.0, omega (arith, f.1), f.2, f.3), q ∙ shifted def)

      first_or_later : (k : From used param option from (m ∷ ms) e)
          → ((drawn draws m ≡ true) × (e ≡ edge used param 3 from option)) ⊎ From used param option (suc from) ms e
      first_or_later (zero, f, q) = inl (draws_it m f.0 f.2 f.3, q ∙ sym unshifted)
      first_or_later (suc def, f, q) = inr (def, (f.0, omega (arith, f.1), f.2, f.3), q ∙ sym (shifted def))

      go : (t : Bool) → drawn draws m ≡ t → Memᴰ e (struct_edges draws used param option (suc from) ms)
          ↔ From used param option (suc from) ms e
          → Memᴰ e
          (cond t (edge used param 3 from option ∷ []) [] ++ struct_edges draws used param option (suc from) ms)
          ↔ From used param option from (m ∷ ms) e
      go true h r = (
        λ k. ⊎_elim (λ g. let f = drawn_by m h in (0, (f.0, omega arith, f.1, f.2), g ∙ unshifted))
            (λ i. later (r.0 i)) (Memᴰ.cases_cons k),
        λ k. ⊎_elim (λ g. Memᴰ.head g.1) (λ i. Memᴰ.tail (r.1 i)) (first_or_later k),
      )
      go false h r = (λ k. later (r.0 k), λ k. ⊎_elim (λ g. absurd (true≢false (sym g.0 ∙ h))) (λ i. r.1 i) (first_or_later k))

  pub brought_by_lem : (used param : ℕ) (t : LoweredType) (e : LifetimeEdge) → Memᴰ e (bring draws used param t)
      ↔ Brought D used param t e
  unfolding bring
  brought_by_lem used param t e = go t.kind
    where
      go : (k : Kind) → Memᴰ e (bring_as k draws used param t) ↔ BroughtAs k D used param t e
      go Plain = (λ m. Memᴰ.not-nil m, λ k. absurd k)
      go Opaque =
          one_by (any_drawn draws (lifetimes_of t)) (Some D (lifetimes_of t)) (edge used param 1 0 0) e
          (any_some (lifetimes_of t))
      go Slice = one_by (any_drawn draws (lifetimes_of t)) (Some D (lifetimes_of t)) (edge used param 2 0 0) e (any_some (lifetimes_of t))
      go (Struct row) =
          let r = struct_by used param (option_of t.option) 0 (map from_word t.path) e in
          let same : (def : ℕ)
          → edge used param 3 (0 + def) (option_of t.option) ≡ edge used param 3 def (option_of t.option) =
          λ def. ap (λ (k : ℕ). edge used param 3 k (option_of t.option)) (omega arith) in
          (λ m. let k = r.0 m in (k.0, k.1, k.2 ∙ same k.0), λ k. r.1 (k.0, k.1, k.2 ∙ sym (same k.0)))

-- ---- the form of the edges

pub record Formed (used param kind few : ℕ) (e : LifetimeEdge) : Type 0 where
  pub own : e.used ≡ used
  pub visits : e.param ≡ param
  pub what : e.kind ≡ kind
  pub below : e.def < few

-- an edge that is this one
formed : {used param kind def option few : ℕ} {e : LifetimeEdge} → def < few → e ≡ edge used param kind def option
    → Formed used param kind few e
formed h g = record {
  own = ap (λ (x : LifetimeEdge). x.used) g;
  visits = ap (λ (x : LifetimeEdge). x.param) g;
  what = ap (λ (x : LifetimeEdge). x.kind) g;
  below = omega (arith, ap (λ (x : LifetimeEdge). x.def) g);
}

abbrev pub kind_number : Kind → ℕ
kind_number Plain = 0
kind_number Opaque = 1
kind_number (Struct row) = 3
kind_number Slice = 2

-- how many lifetimes of a definition there can be edges to
abbrev pub defs : Kind → LoweredType → ℕ
defs Plain t = 1
defs Opaque t = 1
defs (Struct row) t = length t.path
defs Slice t = 1

-- whatever the test, it decides itself
abbrev Itself : (ℕ → Bool) → ℕ → Type 0
Itself draws b = draws b ≡ true

itself : (draws : ℕ → Bool) (b : ℕ) → (draws b ≡ true) ↔ Itself draws b
itself draws b = (λ h. h, λ h. h)

pub bring_formed : (draws : ℕ → Bool) (used param : ℕ) (t : LoweredType) (e : LifetimeEdge)
    → Memᴰ e (bring draws used param t) → Formed used param (kind_number t.kind) (defs t.kind t) e
bring_formed draws used param t e m = go t.kind ((brought_by_lem draws (Itself draws) (itself draws) used param t e).0 m)
  where
    go : (k : Kind) → BroughtAs k (Itself draws) used param t e → Formed used param (kind_number k) (defs k t) e
    go Plain b = absurd b
    go Opaque b = formed (omega arith) b.1
    go Slice b = formed (omega arith) b.1
    go (Struct row) b = formed (omega (arith, rw length-map at b.1.1)) b.2

-- ---- by def: each once, ascending

from_def : (draws : ℕ → Bool) (used param option from : ℕ) (ms : List (MaybeStatic Lifetime)) (e : LifetimeEdge)
    → Memᴰ e (struct_edges draws used param option from ms) → from ≤ e.def
from_def draws used param option from ms e m =
    let k = (struct_by draws (Itself draws) (itself draws) used param option from ms e).0 m in
    omega (arith, ap (λ (x : LifetimeEdge). x.def) k.2)

struct_ascends : (draws : ℕ → Bool) (used param option from : ℕ) (ms : List (MaybeStatic Lifetime))
    → Pairwise ByDef (struct_edges draws used param option from ms)
unfolding numbered
struct_ascends draws used param option from [] = Pairwise.nil
struct_ascends draws used param option from (m ∷ ms) =
    go (drawn draws m) (struct_ascends draws used param option (suc from) ms)
  where
    go : (t : Bool) → Pairwise ByDef (struct_edges draws used param option (suc from) ms)
        → Pairwise ByDef (cond t (edge used param 3 from option ∷ []) [] ++ struct_edges draws used param option (suc from) ms)
    go true r =
        Pairwise.cons {a = edge used param 3 from option}
        (λ x k. ∥∥₁_elim k le_prop (λ d. from_def draws used param option (suc from) ms x d)) r
    go false r = r

one_ascends : (t : Bool) (x : LifetimeEdge) → Pairwise ByDef (cond t (x ∷ []) [])
one_ascends true x = Pairwise.cons {a = x} (λ y m. ∥∥₁_elim m le_prop (λ d. absurd (Memᴰ.not-nil d))) Pairwise.nil
one_ascends false x = Pairwise.nil

pub bring_ascends : (draws : ℕ → Bool) (used param : ℕ) (t : LoweredType) → Pairwise ByDef (bring draws used param t)
unfolding bring
bring_ascends draws used param t = go t.kind
  where
    go : (k : Kind) → Pairwise ByDef (bring_as k draws used param t)
    go Plain = Pairwise.nil
    go Opaque = one_ascends (any_drawn draws (lifetimes_of t)) (edge used param 1 0 0)
    go Slice = one_ascends (any_drawn draws (lifetimes_of t)) (edge used param 2 0 0)
    go (Struct row) = struct_ascends draws used param (option_of t.option) 0 (map from_word t.path)

-- ---- the pairs that edges carry

-- an edge to the used lifetime for the definition lifetime
abbrev Carries : ℕ → ℕ → List LifetimeEdge → Type 0
Carries def used es = (e : LifetimeEdge) × Memᴰ e es × (e.def ≡ def) × (e.used ≡ used)

-- edges of structs, for definition lifetimes that there are sets for
abbrev OfStructs : List ℕ → List LifetimeEdge → Type 0
OfStructs pairs es = (e : LifetimeEdge) → Memᴰ e es → (e.kind ≡ 3) × (e.def < length pairs)

module _ (pairs : List ℕ) (e : LifetimeEdge) (is : e.kind ≡ 3) (l : e.def < length pairs) where
  note_size : length (note pairs e) ≡ length pairs
  note_size = rw (eq-eqb e.kind 3 is) (length-set pairs e.def (insert (get_or pairs e.def 0) e.used))

  note_here : get_or (note pairs e) e.def 0 ≡ insert (get_or pairs e.def 0) e.used
  note_here = rw (eq-eqb e.kind 3 is) (get_or-set_same pairs e.def (insert (get_or pairs e.def 0) e.used) 0 l)

  note_there : (def : ℕ) → (def ≡ e.def → ⊥) → get_or (note pairs e) def 0 ≡ get_or pairs def 0
  note_there def n = rw (eq-eqb e.kind 3 is) (get_or-set_other pairs e.def def (insert (get_or pairs e.def 0) e.used) 0 n)

  -- one edge more: its pair, and those that were there
  note_has : (def used : ℕ) → (member (get_or (note pairs e) def 0) used ≡ true)
      ↔ ((member (get_or pairs def 0) used ≡ true) ⊎ ((e.def ≡ def) × (e.used ≡ used)))
  note_has def used = go (ℕ_discrete def e.def)
    where
      go : Dec (def ≡ e.def) → (member (get_or (note pairs e) def 0) used ≡ true)
          ↔ ((member (get_or pairs def 0) used ≡ true) ⊎ ((e.def ≡ def) × (e.used ≡ used)))
      go (no n) = (
        λ m. inl (rw (note_there def n) at m),
        λ c. rw (note_there def n) (⊎_elim (λ m. m) (λ k. absurd (n (sym k.0))) c),
      )
      go (yes g) = (
        λ m. ⊎_elim (λ u. inr (sym g, u)) (λ k. inl (rw g k))
            (member_insert_true (get_or pairs e.def 0) e.used used (rw (g, note_here) at m)),
        λ c. rw (g, note_here)
            (⊎_elim (λ m. member_insert_keeps (get_or pairs e.def 0) e.used used (rw g at m))
            (λ k. rw (← k.1) (member_insert_same (get_or pairs e.def 0) e.used)) c),
      )

notes_have : (pairs : List ℕ) (es : List LifetimeEdge) → OfStructs pairs es → (def used : ℕ)
    → (member (get_or (notes pairs es) def 0) used ≡ true) ↔ ((member (get_or pairs def 0) used ≡ true) ⊎ Carries def used es)
unfolding notes
notes_have pairs [] h def used = (λ m. inl m, λ c. ⊎_elim (λ m. m) (λ k. absurd (Memᴰ.not-nil k.1)) c)
notes_have pairs (e ∷ es) h def used =
    let here = h e (Memᴰ.head refl) in
    let one = note_has pairs e here.0 here.1 def used in
    let more =
    notes_have (note pairs e) es
    (λ x m. let k = h x (Memᴰ.tail m) in (k.0, rw (note_size pairs e here.0 here.1) k.1)) def used in (
      λ m. ⊎_elim (λ k. ⊎_elim (λ i. inl i) (λ i. inr (e, Memᴰ.head refl, i.0, i.1)) (one.0 k))
          (λ c. inr (c.0, Memᴰ.tail c.1, c.2, c.3)) (more.0 m),
      λ c. more.1 (⊎_elim (λ m. inl (one.1 (inl m))) (λ k. split k one.1) c),
    )
  where
    split : (k : Carries def used (e ∷ es))
        → ((member (get_or pairs def 0) used ≡ true) ⊎ ((e.def ≡ def) × (e.used ≡ used))
        → member (get_or (note pairs e) def 0) used ≡ true)
        → (member (get_or (note pairs e) def 0) used ≡ true) ⊎ Carries def used es
    split k back =
        ⊎_elim
        (λ g. inl (back (inr (ap (λ (x : LifetimeEdge). x.def) (sym g) ∙ k.2, ap (λ (x : LifetimeEdge). x.used) (sym g) ∙ k.3))))
        (λ i. inr (k.0, i, k.2, k.3))
        (Memᴰ.cases_cons k.1)

-- edges of other kinds carry none
notes_none : (pairs : List ℕ) (es : List LifetimeEdge) → ((e : LifetimeEdge) → Memᴰ e es → e.kind ≡ 3 → ⊥)
    → notes pairs es ≡ pairs
unfolding notes
notes_none pairs [] h = refl
notes_none pairs (e ∷ es) h =
    rw (ne_eqb e.kind 3 (h e (Memᴰ.head refl))) (notes_none pairs es (λ x m. h x (Memᴰ.tail m)))

no_pair : (def used : ℕ) → member (get_or empty_pairs def 0) used ≡ true → ⊥
no_pair def used h = true≢false (sym h ∙ rw (zeros (dec_lt def 16)) (member_empty used))
  where
    zeros : Dec (def < 16) → get_or empty_pairs def 0 ≡ 0
    zeros (yes l) = get_or-replicate 16 def 0 0 l
    zeros (no g) = get_or-eq_default empty_pairs 0 {n = def} (omega arith)

-- ---- the answer

-- 3 is the number of a struct with an edge
number_three : (k : Kind) (es : List LifetimeEdge) → answer_number k es ≡ 3 → kind_number k ≡ 3
number_three Plain es h = absurd (omega arith)
number_three Opaque [] h = absurd (omega arith)
number_three Opaque (e ∷ es) h = absurd (omega arith)
number_three Slice [] h = absurd (omega arith)
number_three Slice (e ∷ es) h = absurd (omega arith)
number_three (Struct row) es h = refl

number_other : (k : Kind) (es : List LifetimeEdge) → (answer_number k es ≡ 3 → ⊥) → (kind_number k ≡ 3 → ⊥) ⊎ (es ≡ [])
number_other Plain es h = inl (λ e. omega arith)
number_other Opaque es h = inl (λ e. omega arith)
number_other Slice es h = inl (λ e. omega arith)
number_other (Struct row) [] h = inr refl
number_other (Struct row) (e ∷ es) h = absurd (h refl)

-- of edges that all have this form, with at most 16 lifetimes of a definition
pub answers : (k : Kind) (param few : ℕ) (es : List LifetimeEdge) → few ≤ 16
    → ((e : LifetimeEdge) → Memᴰ e es → (used : ℕ) × Formed used param (kind_number k) few e)
    → Answers es param k (answer_of k es)
answers k param few es small form = record { number = refl; pairs = carried; no_pairs = none }
  where
    carried : answer_number k es ≡ 3 → (def used : ℕ) → (member (get_or (notes empty_pairs es) def 0) used ≡ true)
        ↔ ((option : ℕ) × Memᴰ (edge used param 3 def option) es)
    carried h def used =
        let three = number_three k es h in
        let structs : OfStructs empty_pairs es = λ e m. let f = (form e m).1 in (f.what ∙ three, omega (arith, f.below)) in
        let has = notes_have empty_pairs es structs def used in (
          λ m. ⊎_elim (λ i. absurd (no_pair def used i)) (λ c. (c.0.option, spelt three c)) (has.0 m),
          λ c. has.1 (inr (edge used param 3 def c.0, c.1, refl, refl)),
        )
      where
        spelt : kind_number k ≡ 3 → (c : Carries def used es) → Memᴰ (edge used param 3 def c.0.option) es
        spelt three c =
            let f = (form c.0 c.1).1 in
            let what : c.0.kind ≡ 3 = f.what ∙ three in
            let g : c.0 ≡ edge used param 3 def c.0.option = rw (c.2, c.3, f.visits, what) in
            subst (λ (x : LifetimeEdge). Memᴰ x es) g c.1

    none : (answer_number k es ≡ 3 → ⊥) → notes empty_pairs es ≡ empty_pairs
    none h = notes_none empty_pairs es
        (λ e m q. ⊎_elim (λ n. n (sym (form e m).1.what ∙ q)) (λ g. Memᴰ.not-nil (subst (Memᴰ e) g m))
        (number_other k es h))
