-- Struct types that fit their rows: one type, the loop over types, the parameters.
use Rattle.std.specs.Prelude.{Ok, Err, Some, None, Option}
use Prim.Native.Nat.{ℕ, zero, suc, ◌+◌, ◌-◌, ◌≤◌, ◌<◌, min}
use mathlib.Core.Bool.{Bool, true, false, cond}
use mathlib.Core.Path.{◌≡◌, refl, sym, subst, ◌∙◌}
use mathlib.Core.List.{List, [], ◌∷◌, ◌++◌}
use native.Mathlib.Omega.{arith}
use lib.Dec.{ltb}
use lib.ListN.{length, take, drop}
use borrow.Author.Tests.{ltb-true, ltb-false, le-leb, lt-leb}
use Rattle.answers.specs.declared.Refusal.TheVariants.{Full, Mismatch}
use Rattle.answers.specs.Refusals.{check, unless, Verdict}
use Rattle.records.specs.Reading.{Read, Fails}
use Rattle.answers.specs.Lent.{judged}
use Rattle.answers.proofs.VerdictLaws.{judged_after, judged_stays}
use Rattle.hir_types.specs.declared.types.Kind.{Kind}
use Rattle.hir_types.specs.declared.types.Kind.TheVariants.{Plain, Opaque, Struct, Slice}
use Rattle.hir_types.specs.declared.types.Parts.{Parts}
use Rattle.hir_types.specs.LoweredTypes.{LoweredType, read_lowered, knows}
use Rattle.hir_types.specs.Rows.{Row, read_known, read_types}
use Rattle.hir_types.proofs.FoundLaws.{Found}
use Rattle.methods.specs.Method.{misfit, misfits, type_checks, param_checks}
use Rattle.methods.specs.Inner.{Holding, misfit_in, FitIs, fits, unfit, TypeFits, TypesFit, ParamsFit}
use Rattle.records.proofs.ReadingLaws.{fails_read}
use Rattle.methods.proofs.PassLaws.{known_read, same_found, Next, types_next, types_none}
use Rattle.methods.proofs.PassLaws.{types_first, types_length}
use Rattle.answers.specs.Lists.{numbered}

-- ---- one type

-- a misfit by the index is one by the rows
same_misfit : (rows : List Row) (n : ℕ) (lifetimes : List ℕ) → Holding rows n lifetimes → (kind : Kind) (count : ℕ)
    → knows n kind ≡ true → misfit_in lifetimes kind count ≡ misfit rows kind count
same_misfit rows n lifetimes h Plain count k = refl
same_misfit rows n lifetimes h Opaque count k = refl
same_misfit rows n lifetimes h (Struct row) count k = rw (h row (ltb-true row n k))
same_misfit rows n lifetimes h Slice count k = refl

-- what a check of one type says
one_judged : (rows : List Row) (t : LoweredType) (b : Bool) → misfits rows t ≡ b
    → judged (type_checks rows (t ∷ [])) ≡ cond b (Err Mismatch) (Ok (tt {0}))
unfolding unless
one_judged rows t true e = rw e
one_judged rows t false e = rw e

module _ (words : List ℕ) (at : ℕ) (lifetimes : List ℕ) where
  pub type_missing : read_lowered (drop at words) ≡ Fails → TypeFits words at lifetimes None
  type_missing f rows n t rest few h e = fails_read (sym f ∙ (known_read n (drop at words) e).reads)

  module _ {p : Parts} (f : Found words at (read_lowered (drop at words)) p) where
    right : (b : Bool) → misfit_in lifetimes p.kind p.count ≡ b
        → (rows : List Row) (n : ℕ) (t : LoweredType) (rest : List ℕ) → Holding rows n lifetimes
        → read_known n (drop at words) ≡ Read t rest → misfits rows t ≡ b
    right b m rows n t rest h e =
        let s = same_found f n e in
        rw (← s.stands.kind, ← s.stands.count) (sym (same_misfit rows n lifetimes h p.kind p.count s.known) ∙ m)

    pub type_unfit : misfit_in lifetimes p.kind p.count ≡ true → TypeFits words at lifetimes None
    type_unfit m rows n t rest few h e = rw (one_judged rows t true (right true m rows n t rest h e)) unfit

    pub type_fit : misfit_in lifetimes p.kind p.count ≡ false → TypeFits words at lifetimes (Some p.next)
    type_fit m rows n t rest few h e =
        let s = (same_found f n e).stands in
        rw (one_judged rows t false (right false m rows n t rest h e))
        (fits {next = p.next} s.left (omega (arith, s.past)) s.within)

-- ---- so many types

-- what is known of a fit once it is known which it is
pub record Goes (words : List ℕ) (from : ℕ) (rest : List ℕ) (v : Verdict) (next : ℕ) : Type 0 where
  pub accepted : v ≡ Ok (tt {0})
  pub left : drop next words ≡ rest
  pub past : from ≤ next
  pub within : next ≤ length words

module _ {words rest : List ℕ} {from : ℕ} {v : Verdict} {r : Option ℕ} (f : FitIs words from rest v r) where
  pub fit_goes : {next : ℕ} → r ≡ Some next → Goes words from rest v next
  fit_goes {next} e = go (subst (FitIs words from rest v) e f)
    where
      go : {v : Verdict} → FitIs words from rest v (Some next) → Goes words from rest v next
      go (fits d b e) = record { accepted = refl; left = d; past = b; within = e }

  pub fit_stops : r ≡ None → v ≡ Err Mismatch
  fit_stops e = go (subst (FitIs words from rest v) e f)
    where
      go : {v : Verdict} → FitIs words from rest v None → v ≡ Err Mismatch
      go unfit = refl

-- the types that are left to check, for types that were read
pub record Left (words : List ℕ) (from count at i : ℕ) (rows : List Row) (n : ℕ) (types : List LoweredType)
    (rest : List ℕ) : Type 0 where
  pub left : List LoweredType
  pub reads : read_types n (count - i) (drop at words) ≡ Read left rest
  pub same : judged (type_checks rows types) ≡ judged (type_checks rows left)
  pub past : from ≤ at
  pub within : at ≤ length words

pub record Fitting (words : List ℕ) (from count : ℕ) (lifetimes : List ℕ) (at i : ℕ) : Type 0 where
  pub onto : (rows : List Row) (n : ℕ) (types : List LoweredType) (rest : List ℕ) → n ≤ 32 → Holding rows n lifetimes
      → read_types n count (drop from words) ≡ Read types rest
      → Left words from count at i rows n types rest

pub fitting_start : (words : List ℕ) (from count : ℕ) (lifetimes : List ℕ) → from ≤ length words
    → Fitting words from count lifetimes from 0
fitting_start words from count lifetimes l = record {
  onto = λ rows n types rest few h e. let z : count - 0 ≡ count = omega arith in
      record { left = types; reads = rw z e; same = refl; past = omega arith; within = l };
}

module _ {words : List ℕ} {from count : ℕ} {lifetimes : List ℕ} {at i : ℕ} (inv : Fitting words from count lifetimes at i) where
  module _ (h : i < count) where
    -- the next of the types that were read
    next_left : {rows : List Row} {n : ℕ} {types : List LoweredType} {rest : List ℕ}
        (l : Left words from count at i rows n types rest)
        → Next n (count - (i + 1)) (drop at words) l.left rest
    next_left {n = n} l = let z : count - i ≡ suc (count - (i + 1)) = omega arith in
        types_next n (count - (i + 1)) (drop at words) (rw z at l.reads)

    both_judged : (rows : List Row) (t : LoweredType) (more types : List LoweredType) → types ≡ t ∷ more
        → judged (type_checks rows types) ≡ judged (type_checks rows (t ∷ []) ++ type_checks rows more)
    both_judged rows t more types e = rw e

    pub fitting_stops : {r : Option ℕ} → TypeFits words at lifetimes r → r ≡ None → TypesFit words from count lifetimes None
    fitting_stops f e rows n types rest few k reads =
        let l = inv.onto rows n types rest few k reads in
        let x = next_left l in
        let s = fit_stops (f rows n x.type x.behind few k x.first) e in
        let v : judged (type_checks rows types) ≡ Err Mismatch =
        l.same ∙ both_judged rows x.type x.more l.left x.all
        ∙ judged_stays (type_checks rows (x.type ∷ [])) (type_checks rows x.more) s in
        rw v unfit

    pub fitting_more : {r : Option ℕ} → TypeFits words at lifetimes r → {next : ℕ} → r ≡ Some next
        → Fitting words from count lifetimes next (i + 1)
    fitting_more f {next} e = record {
      onto = λ rows n types rest few k reads.
          let l = inv.onto rows n types rest few k reads in
          let x = next_left l in
          let g = fit_goes (f rows n x.type x.behind few k x.first) e in
          record {
            left = x.more;
            reads = rw g.left x.others;
            same = l.same ∙ both_judged rows x.type x.more l.left x.all
                ∙ judged_after (type_checks rows (x.type ∷ [])) (type_checks rows x.more) g.accepted;
            past = omega (arith, l.past, g.past);
            within = g.within;
          };
    }

  pub fitting_end : count ≤ i → TypesFit words from count lifetimes (Some at)
  unfolding unless
  fitting_end h rows n types rest few k reads =
      let l = inv.onto rows n types rest few k reads in
      let z : count - i ≡ 0 = omega arith in
      let none = types_none n (drop at words) (rw z at l.reads) in
      let v : judged (type_checks rows types) ≡ (Ok (tt {0})) = l.same ∙ rw none.0 in
      rw v (fits {next = at} (sym none.1) l.past l.within)

-- ---- the parameters

-- those before the 17th decide, then a 17th is too many
params_few : (rows : List Row) (number : ℕ) (types : List LoweredType) → number + length types ≤ 16
    → judged (param_checks rows number types) ≡ judged (type_checks rows types)
unfolding numbered unless
params_few rows number [] h = refl
params_few rows number (t ∷ types) h =
    rw (lt-leb 16 number (omega arith)) (go (misfits rows t) (params_few rows (suc number) types (omega arith)))
  where
    go : (b : Bool) → judged (param_checks rows (suc number) types) ≡ judged (type_checks rows types)
        → judged (check b Mismatch ∷ param_checks rows (suc number) types) ≡ judged (check b Mismatch ∷ type_checks rows types)
    go true e = refl
    go false e = e

params_many : (rows : List Row) (number k : ℕ) (types : List LoweredType) → number + k ≡ 16 → k < length types
    → judged (param_checks rows number types) ≡ judged (type_checks rows (take k types) ++ (check true Full ∷ []))
unfolding numbered unless
params_many rows number k [] e h = absurd (omega arith)
params_many rows number zero (t ∷ types) e h = rw (le-leb 16 number (omega arith))
params_many rows number (suc k) (t ∷ types) e h =
    rw (lt-leb 16 number (omega arith))
    (go (misfits rows t) (params_many rows (suc number) k types (omega arith) (omega arith)))
  where
    go : (b : Bool) → judged (param_checks rows (suc number) types) ≡ judged (type_checks rows (take k types) ++ (check true Full ∷ []))
        → judged (check b Mismatch ∷ param_checks rows (suc number) types)
        ≡ judged (check b Mismatch ∷ (type_checks rows (take k types) ++ (check true Full ∷ [])))
    go true e = refl
    go false e = e

module _ (params : List ℕ) (count : ℕ) (lifetimes : List ℕ) where
  module _ (h : 16 < count) {r : Option ℕ} (f : TypesFit params 0 16 lifetimes r) where
    first_read : (n : ℕ) (types : List LoweredType) (rest : List ℕ) → read_types n count params ≡ Read types rest
        → (behind : List ℕ) × (read_types n 16 params ≡ Read (take 16 types) behind)
    first_read n types rest e = let z : count ≡ 16 + (count - 16) = omega arith in
        types_first n 16 (count - 16) params types (rw z at e)

    many : (n : ℕ) (types : List LoweredType) (rest : List ℕ) → read_types n count params ≡ Read types rest → 16 < length types
    many n types rest e = rw (types_length n count params e) h

    params_unfit : r ≡ None → ParamsFit params count lifetimes (Err Mismatch)
    params_unfit e rows n types rest few k reads =
        let x = first_read n types rest reads in
        let s = fit_stops (f rows n (take 16 types) x.0 few k x.1) e in
        sym (params_many rows 0 16 types refl (many n types rest reads)
        ∙ judged_stays (type_checks rows (take 16 types)) (check true Full ∷ []) s)

    params_full : {next : ℕ} → r ≡ Some next → ParamsFit params count lifetimes (Err Full)
    unfolding unless
    params_full e rows n types rest few k reads =
        let x = first_read n types rest reads in
        let g = fit_goes (f rows n (take 16 types) x.0 few k x.1) e in
        sym (params_many rows 0 16 types refl (many n types rest reads)
        ∙ judged_after (type_checks rows (take 16 types)) (check true Full ∷ []) g.accepted)

  module _ (h : count ≤ 16) {r : Option ℕ} (f : TypesFit params 0 count lifetimes r) where
    params_misfit : r ≡ None → ParamsFit params count lifetimes (Err Mismatch)
    params_misfit e rows n types rest few k reads =
        sym (params_few rows 0 types (omega (arith, types_length n count params reads))
        ∙ fit_stops (f rows n types rest few k reads) e)

    params_fit : {next : ℕ} → r ≡ Some next → ParamsFit params count lifetimes (Ok (tt {0}))
    params_fit e rows n types rest few k reads =
        sym (params_few rows 0 types (omega (arith, types_length n count params reads))
        ∙ (fit_goes (f rows n types rest few k reads) e).accepted)

  -- the first sixteen, or all if they are fewer
  module _ {some : ℕ} (k : some ≡ min count 16) {r : Option ℕ} (f : TypesFit params 0 some lifetimes r) where
    pub params_stop : r ≡ None → ParamsFit params count lifetimes (Err Mismatch)
    params_stop e = go (ltb 16 count) refl
      where
        go : (b : Bool) → ltb 16 count ≡ b → ParamsFit params count lifetimes (Err Mismatch)
        go true b =
            let h : 16 < count = ltb-true 16 count b in
            let z : some ≡ 16 = omega arith in
            params_unfit h (rw z at f) e
        go false b =
            let h : count ≤ 16 = ltb-false 16 count b in
            let z : some ≡ count = omega arith in
            params_misfit h (rw z at f) e

    module _ {next : ℕ} (e : r ≡ Some next) where
      pub params_over : 16 < count → ParamsFit params count lifetimes (Err Full)
      params_over h = let z : some ≡ 16 = omega arith in params_full h (rw z at f) e

      pub params_all : count ≤ 16 → ParamsFit params count lifetimes (Ok (tt {0}))
      params_all h = let z : some ≡ count = omega arith in params_fit h (rw z at f) e
