-- The used lifetimes of a method that is not refused are those of its output, and few; with 1 in `force` it is refused.
use Prim.Native.Nat.{ℕ, zero, suc, ◌*◌, ◌≤◌}
use mathlib.Core.Bool.{true, not}
use mathlib.Core.Path.{◌≡◌, refl, ap}
use mathlib.Core.Logic.{⊎_elim}
use mathlib.Core.List.Memᴰ
use mathlib.Core.List.{List, [], ◌∷◌, map, flat_map, Memᴰ}
use native.Mathlib.Omega.{arith}
use lib.ListN.{length, length-append, length-map}
use borrow.Author.Tests.{not-false}
use Rattle.answers.specs.declared.Refusal.TheVariants.{Malformed, Retired}
use Rattle.lifetimes.specs.declared.lifetime.Lifetime.{Lifetime}
use Rattle.lifetimes.specs.declared.maybe_static.MaybeStatic.{MaybeStatic}
use Rattle.lifetimes.specs.declared.maybe_static.MaybeStatic.TheVariants.{Static, NonStatic}
use Rattle.lifetimes.specs.Numbers.{lifetime}
use Rattle.lifetimes.specs.LoweredWords.{from_word}
use Rattle.answers.specs.Refusals.{check, here, later}
use Rattle.lifetimes.specs.Sets.{set_of}
use Rattle.answers.proofs.RefusalLaws.{given_due, due_refused, none_first}
use Rattle.lifetimes.proofs.SetLaws.{set_of_has, set_of_few}
use Rattle.records.specs.Reading.{Read}
use Rattle.records.proofs.ReadingLaws.{holds_read}
use Rattle.hir_types.specs.declared.types.Own.{Own}
use Rattle.hir_types.specs.declared.types.Own.TheVariants as own
use Rattle.hir_types.specs.LoweredTypes.{LoweredType, own_lifetimes, lifetimes_of}
use Rattle.hir_types.specs.Rows.{read_types, rows_of, method_in_shape}
use Rattle.hir_types.specs.Rows.{forced}
use Rattle.hir_types.proofs.LocatedLaws.{type_few}
use Rattle.hir_types.proofs.ShapeLaws.{four_in_shape}
use Rattle.methods.specs.Method.{types_in, output_lifetimes, method_checks}
use Rattle.methods.specs.Used.{numbers_of, output_numbers, used_set}
use Rattle.methods.specs.Theorems.{UsedLifetimesAre, ForceIsRetired}
use Rattle.methods.proofs.PassLaws.{known_read, types_next, types_none}
use Rattle.methods.proofs.MethodLaws.{types_read}
use mathlib.Core.List.{filter_map}

-- ---- the numbers of those that are not static

numbers_from : (l : List (MaybeStatic Lifetime)) (k : ℕ) → Memᴰ k (numbers_of l) → Memᴰ (NonStatic (lifetime k)) l
unfolding filter_map
numbers_from [] k m = absurd (Memᴰ.not-nil m)
numbers_from (Static ∷ l) k m = Memᴰ.tail (numbers_from l k m)
numbers_from (NonStatic x ∷ l) k m =
    ⊎_elim (λ e. Memᴰ.head (rw e)) (λ r. Memᴰ.tail (numbers_from l k r)) (Memᴰ.cases_cons m)

numbers_to : (l : List (MaybeStatic Lifetime)) (k : ℕ) → Memᴰ (NonStatic (lifetime k)) l → Memᴰ k (numbers_of l)
unfolding filter_map
numbers_to [] k m = absurd (Memᴰ.not-nil m)
numbers_to (Static ∷ l) k m =
    ⊎_elim (λ e. let z : ◌≡◌ {A = ℕ} 0 1 = cc in absurd (omega arith)) (numbers_to l k) (Memᴰ.cases_cons m)
numbers_to (NonStatic x ∷ l) k m =
    ⊎_elim (λ e. let q : lifetime k ≡ x = cc in Memᴰ.head (ap (λ y. y.0) q))
    (λ r. Memᴰ.tail (numbers_to l k r)) (Memᴰ.cases_cons m)

numbers_few : (l : List (MaybeStatic Lifetime)) → length (numbers_of l) ≤ length l
unfolding filter_map
numbers_few [] = omega arith
numbers_few (Static ∷ l) = omega (arith, numbers_few l)
numbers_few (NonStatic x ∷ l) = omega (arith, numbers_few l)

-- ---- how many lifetimes types have

own_few : (o : Own) → length (own_lifetimes o) ≤ 1
own_few own.Absent = omega arith
own_few (own.Word word) = omega arith
own_few own.Strs = omega arith

lifetimes_few : (t : LoweredType) → length t.path ≤ 16 → length (lifetimes_of t) ≤ 17
lifetimes_few t h =
    rw (length-append (map from_word t.path) (own_lifetimes t.own), length-map t.path from_word)
    (omega (arith, own_few t.own))

types_few : (n m : ℕ) (words : List ℕ) (types : List LoweredType) {rest : List ℕ} → read_types n m words ≡ Read types rest
    → length (flat_map lifetimes_of types) ≤ 17 * m
unfolding flat_map
types_few n zero words types e = rw (types_none n words e).0 (omega arith)
types_few n (suc m) words types e =
    let x = types_next n m words e in
    let short : length x.type.path ≤ 16 =
    holds_read (λ (t : LoweredType) (rest : List ℕ). length t.path ≤ 16) x.type x.behind
    (rw (known_read n words x.first).reads at (type_few words)) in
    rw (x.all, length-append (lifetimes_of x.type) (flat_map lifetimes_of x.more))
    (omega (arith, lifetimes_few x.type short, types_few n m x.behind x.more x.others))

-- an output in shape has at most two types
output_few : (structs params output force : List ℕ) → method_in_shape structs params output force ≡ true
    → length (output_lifetimes structs output) ≤ 34
output_few structs params output force e =
    let four = four_in_shape structs params output force e in
    let types = types_in structs output in
    let read = types_read (length (rows_of structs)) output four.output_shape refl in
    omega (
      arith,
      four.two_outputs,
      types_few (length (rows_of structs)) (length types) output types read.1,
    )

-- ---- the theorems

pub used_are : UsedLifetimesAre
unfolding used_set
used_are env structs params output force set e =
    let g = given_due (set_of (output_numbers structs output)) set (method_checks env structs params output force) e in
    let shape : method_in_shape structs params output force ≡ true = not-false _ (none_first g.0) in
    record {
      members_are = λ k. let has = set_of_has (output_numbers structs output) k in (
        λ m. numbers_from (output_lifetimes structs output) k (has.0 (rw (← g.1) at m)),
        λ m. rw (← g.1) (has.1 (numbers_to (output_lifetimes structs output) k m)),
      );
      few = rw (← g.1) (omega (
        arith,
        set_of_few (output_numbers structs output),
        numbers_few (output_lifetimes structs output),
        output_few structs params output force shape,
      ));
    }

pub force_is_refused : ForceIsRetired
unfolding used_set
force_is_refused env structs params output force f = (
  λ e. due_refused _
      (later {c = check (not (method_in_shape structs params output force)) Malformed} (rw e)
      (here {c = check (forced force) Retired} f refl)),
  λ e. due_refused _ (here {c = check (not (method_in_shape structs params output force)) Malformed} (rw e) refl),
)
