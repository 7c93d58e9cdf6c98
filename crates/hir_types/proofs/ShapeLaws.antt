-- The shape of `force` and of `output`, and of a method's four records from that of each.
use Rattle.std.specs.Prelude.{Ok, Err}
use Prim.Native.Nat.{ℕ, ◌≤◌, ◌<◌}
use mathlib.Core.Bool.{Bool, true, false, cond, and-eq-true_iff}
use mathlib.Core.Path.{◌≡◌, refl, sym}
use mathlib.Core.List.{List, [], ◌∷◌}
use native.Mathlib.Omega.{arith}
use lib.ListN.{length, get_or}
use borrow.Author.Tests.{le-leb, lt-leb, leb-true}
use Rattle.answers.specs.declared.Refusal.{Refusal}
use Rattle.answers.specs.declared.Refusal.TheVariants.{Malformed, Retired}
use Rattle.answers.specs.Refusals.{Check, unless, FirstDue}
use Rattle.answers.specs.Lent.{verdict_of, judged}
use Rattle.answers.proofs.RefusalLaws.{due_given, due_refused, refused_first, accepted_none}
use Rattle.hir_types.specs.Rows.{force_in_shape, output_in_shape, params_in_shape, structs_in_shape, rows_of, types_of}
use Rattle.hir_types.specs.Rows.{method_in_shape, method_shape, how_many, shape_checks}
use Rattle.hir_types.specs.Rows.{checks_verdict}

-- ---- `force`

pub force_taken : (force : List ℕ) → length force ≡ 1 → get_or force 0 0 ≡ 0
    → Ok (tt {0}) ≡ checks_verdict (force_in_shape force) force
unfolding unless
force_taken [] e h = absurd (omega arith)
force_taken (word ∷ []) e h = rw h
force_taken (word ∷ other ∷ words) e h = absurd (omega arith)

pub force_retired : (force : List ℕ) → length force ≡ 1 → get_or force 0 0 ≡ 1
    → Err Retired ≡ checks_verdict (force_in_shape force) force
unfolding unless
force_retired [] e h = absurd (omega arith)
force_retired (word ∷ []) e h = rw h
force_retired (word ∷ other ∷ words) e h = absurd (omega arith)

pub force_torn : (force : List ℕ) → (length force ≡ 1 → get_or force 0 0 ≡ 0 → ⊥) → (length force ≡ 1 → get_or force 0 0 ≡ 1 → ⊥)
    → Err Malformed ≡ checks_verdict (force_in_shape force) force
unfolding unless
force_torn [] h k = refl
force_torn (word ∷ []) h k = rw (lt-leb word 1 (omega (arith, h refl, k refl)))
force_torn (word ∷ other ∷ words) h k = refl

-- ---- what a count says

pub counted_shape : {A : Type 0} (b : Bool) (items : List A) {n : ℕ} → Ok n ≡ how_many b items
    → (b ≡ true) × (length items ≡ n)
unfolding unless
counted_shape true items e = (refl, cc)
counted_shape false items e = let z : ◌≡◌ {A = ℕ} 0 1 = cc in absurd (omega arith)

pub refused_shape : {A : Type 0} (b : Bool) (items : List A) {r : Refusal} → Err r ≡ how_many b items
    → (b ≡ false) × (r ≡ Malformed)
unfolding unless
refused_shape true items e = let z : ◌≡◌ {A = ℕ} 0 1 = cc in absurd (omega arith)
refused_shape false items e = (refl, cc)

-- ---- `output`

module _ (rows : ℕ) (output : List ℕ) where
  pub output_torn : {r : Refusal} → Err r ≡ how_many (params_in_shape rows output) (types_of rows output)
      → Err r ≡ how_many (output_in_shape rows output) (types_of rows output)
  unfolding unless
  output_torn e = let t = refused_shape (params_in_shape rows output) (types_of rows output) e in rw (t.0, t.1)

  module _ {n : ℕ} (e : Ok n ≡ how_many (params_in_shape rows output) (types_of rows output)) where
    pub output_third : 2 < n → Err Malformed ≡ how_many (output_in_shape rows output) (types_of rows output)
    unfolding unless
    output_third h =
        let c = counted_shape (params_in_shape rows output) (types_of rows output) e in
        rw (c.0, lt-leb (length (types_of rows output)) 2 (omega (arith, c.1)))

    pub output_few : n ≤ 2 → Ok n ≡ how_many (output_in_shape rows output) (types_of rows output)
    unfolding unless
    output_few h =
        let c = counted_shape (params_in_shape rows output) (types_of rows output) e in
        rw (c.0, le-leb (length (types_of rows output)) 2 (omega (arith, c.1)), c.1)

-- ---- the four records

module _ (structs params output force : List ℕ) where
  pub method_structs : {r : Refusal} → Err r ≡ how_many (structs_in_shape structs) (rows_of structs)
      → Err r ≡ method_shape structs params output force
  unfolding method_in_shape method_shape unless
  method_structs e = let t = refused_shape (structs_in_shape structs) (rows_of structs) e in rw (t.0, t.1)

  module _ {rows : ℕ} (e : Ok rows ≡ how_many (structs_in_shape structs) (rows_of structs)) where
    rows_right : (structs_in_shape structs ≡ true) × (length (rows_of structs) ≡ rows)
    rows_right = counted_shape (structs_in_shape structs) (rows_of structs) e

    pub method_params : {r : Refusal} → Err r ≡ how_many (params_in_shape rows params) (types_of rows params)
        → Err r ≡ method_shape structs params output force
    unfolding method_in_shape method_shape unless
    method_params f =
        let t = refused_shape (params_in_shape rows params) (types_of rows params) f in
        rw (rows_right.0, rows_right.1, t.0, t.1)

    module _ {n : ℕ} (f : Ok n ≡ how_many (params_in_shape rows params) (types_of rows params)) where
      params_right : (params_in_shape rows params ≡ true) × (length (types_of rows params) ≡ n)
      params_right = counted_shape (params_in_shape rows params) (types_of rows params) f

      pub method_output : {r : Refusal} → Err r ≡ how_many (output_in_shape rows output) (types_of rows output)
          → Err r ≡ method_shape structs params output force
      unfolding method_in_shape method_shape unless
      method_output g =
          let t = refused_shape (output_in_shape rows output) (types_of rows output) g in
          rw (rows_right.0, rows_right.1, params_right.0, t.0, t.1)

      module _ {m : ℕ} (g : Ok m ≡ how_many (output_in_shape rows output) (types_of rows output)) where
        output_right : (output_in_shape rows output ≡ true) × (length (types_of rows output) ≡ m)
        output_right = counted_shape (output_in_shape rows output) (types_of rows output) g

        -- the first three are in shape, so that all four are if `force` is
        by_force : method_in_shape structs params output force ≡ force_in_shape force
        unfolding method_in_shape
        by_force = rw (rows_right.0, rows_right.1, params_right.0, output_right.0)

        pub method_force : {r : Refusal} → Err r ≡ checks_verdict (force_in_shape force) force
            → Err r ≡ method_shape structs params output force
        unfolding method_shape
        method_force {r} w =
            let due : FirstDue r (shape_checks (force_in_shape force) force) =
            refused_first (tt {0}) r (shape_checks (force_in_shape force) force) (sym w) in
            rw (by_force, due_refused _ due)

        pub method_whole : Ok (tt {0}) ≡ checks_verdict (force_in_shape force) force
            → Ok (record { rows = rows; params = n; outputs = m }) ≡ method_shape structs params output force
        unfolding method_shape
        method_whole w =
            let none = accepted_none (tt {0}) (shape_checks (force_in_shape force) force) (sym w) in
            rw (by_force, due_given _ none, rows_right.1, params_right.1, output_right.1)

-- what four records in shape say of each
pub record FourInShape (structs params output force : List ℕ) : Type 0 where
  pub structs_shape : structs_in_shape structs ≡ true
  pub params_shape : params_in_shape (length (rows_of structs)) params ≡ true
  pub output_shape : params_in_shape (length (rows_of structs)) output ≡ true
  pub two_outputs : length (types_of (length (rows_of structs)) output) ≤ 2
  pub force_shape : force_in_shape force ≡ true

pub four_in_shape : (structs params output force : List ℕ) → method_in_shape structs params output force ≡ true
    → FourInShape structs params output force
unfolding method_in_shape
four_in_shape structs params output force e =
    let rows = length (rows_of structs) in
    let one = (and-eq-true_iff (structs_in_shape structs) _).0 e in
    let two = (and-eq-true_iff (params_in_shape rows params) _).0 one.1 in
    let three = (and-eq-true_iff (output_in_shape rows output) _).0 two.1 in
    let four = (and-eq-true_iff (params_in_shape rows output) _).0 three.0 in
    record {
      structs_shape = one.0;
      params_shape = two.0;
      output_shape = four.0;
      two_outputs = leb-true (length (types_of rows output)) 2 four.1;
      force_shape = three.1;
    }

-- the verdict of an outcome is that of its checks, whatever it gives
pub verdict_unless : {A : Type 0} (a : A) (checks : List Check) → verdict_of (unless checks a) ≡ judged checks
unfolding unless
verdict_unless a [] = refl
verdict_unless a (c ∷ checks) = go c.due (verdict_unless a checks)
  where
    go : (due : Bool) → verdict_of (unless checks a) ≡ judged checks
        → verdict_of (cond due (Err c.refusal) (unless checks a)) ≡ verdict_of (cond due (Err c.refusal) (unless checks (tt {0})))
    go true e = refl
    go false e = e

pub shape_verdict_lem : (structs params output force : List ℕ) → verdict_of (method_shape structs params output force)
    ≡ checks_verdict (method_in_shape structs params output force) force
unfolding method_shape
shape_verdict_lem structs params output force =
    verdict_unless _ (shape_checks (method_in_shape structs params output force) force)
