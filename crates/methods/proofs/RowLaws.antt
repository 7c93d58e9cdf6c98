-- The rows that were checked: the loop of `index_rows`.
use Rattle.std.specs.Prelude.{Ok, Err, Some, None, Option}
use Prim.Native.Nat.{ℕ, suc, ◌+◌, ◌-◌, ◌≤◌, ◌<◌}
use mathlib.Core.Bool.{true}
use mathlib.Core.Path.{◌≡◌, refl, sym, ◌∙◌}
use mathlib.Core.Logic.{⊎_elim}
use mathlib.Core.List.{List, [], ◌∷◌, ◌++◌}
use native.Mathlib.Nat.{eq-or-lt_of_le}
use native.Mathlib.Numerals.{add-one}
use native.Mathlib.Omega.{arith}
use lib.ListN.{length, get_or, set, drop, length-set, drop_of_length-le}
use lib.Seq.{drop-cons, get_or-set_same, get_or-set_other}
use borrow.Author.Tests.{le-leb, lt-leb}
use Rattle.answers.specs.declared.Refusal.TheVariants.{Full, Mismatch}
use Rattle.answers.specs.Refusals.{unless, Verdict}
use Rattle.answers.specs.Lent.{judged}
use Rattle.answers.proofs.VerdictLaws.{judged_after, judged_stays, refused_accepted}
use Rattle.hir_types.specs.Rows.{Row, row_with, read_row, rows_of, structs_in_shape}
use Rattle.methods.specs.Method.{row_at, type_checks, row_checks}
use Rattle.methods.specs.Inner.{Holding, TypesFit, Indexes}
use Rattle.methods.proofs.PassLaws.{Items, items_start, NextItem, items_next, RowParts, row_parts}
use Rattle.methods.proofs.FitsLaws.{fit_goes, fit_stops}
use Rattle.answers.specs.Lists.{numbered}

-- the rows that are left to check, and what the array holds of those that were
pub record Indexing (structs lifetimes : List ℕ) (at number : ℕ) : Type 0 where
  pub steps : ℕ
  pub items : Items read_row number steps (drop at structs) (drop number (rows_of structs))
  pub same : judged (row_checks (rows_of structs) 0 (rows_of structs))
      ≡ judged (row_checks (rows_of structs) number (drop number (rows_of structs)))
  pub size : length lifetimes ≡ 32
  pub few : number ≤ 32
  pub before : number ≤ length (rows_of structs)
  pub holding : Holding (rows_of structs) number lifetimes

pub indexing_start : (structs lifetimes : List ℕ) → structs_in_shape structs ≡ true → length lifetimes ≡ 32
    → Indexing structs lifetimes 0 0
indexing_start structs lifetimes e s = record {
  steps = length structs;
  items = items_start read_row structs e;
  same = refl;
  size = s;
  few = omega arith;
  before = omega arith;
  holding = λ row h. absurd (omega arith);
}

-- one more entry
holding_set : (rows : List Row) (number value : ℕ) (lifetimes : List ℕ) → length lifetimes ≡ 32 → number < 32
    → value ≡ (row_at rows number).lifetimes → Holding rows number lifetimes
    → Holding rows (number + 1) (set lifetimes number value)
holding_set rows number value lifetimes size h e k row l =
    ⊎_elim (λ q. rw (q, get_or-set_same lifetimes number value 0 (omega arith)) e)
    (λ m. get_or-set_other lifetimes number row value 0 (λ q. omega arith) ∙ k row m)
    (eq-or-lt_of_le {n = row} {m = number} (omega arith))

-- a refusal beside any array
refused_index : (structs lifetimes : List ℕ) {r : Verdict} → r ≡ judged (row_checks (rows_of structs) 0 (rows_of structs))
    → (r ≡ Ok (tt {0}) → ⊥) → Indexes structs lifetimes r
refused_index structs lifetimes e n =
    record { verdict = e; few = λ k. absurd (n k); holding = λ k. absurd (n k) }

module _ {structs lifetimes : List ℕ} {at number : ℕ} (inv : Indexing structs lifetimes at number) where
  module _ {rows : ℕ} (all : length (rows_of structs) ≡ rows) (left : number < rows) where
    h : number < length (rows_of structs)
    h = omega arith

    rows_next : drop number (rows_of structs) ≡ row_at (rows_of structs) number ∷ drop (number + 1) (rows_of structs)
    rows_next = rw add-one (drop-cons (rows_of structs) number (row_with 0 []) h)

    pub next : NextItem read_row number inv.steps (drop at structs) (row_at (rows_of structs) number)
        (drop (number + 1) (rows_of structs))
    next = items_next read_row number inv.steps (drop at structs) (rw rows_next at inv.items)

    pub parts : RowParts number structs at (row_at (rows_of structs) number) next.behind
    parts = row_parts number structs at next.first

    pub row_here : at + 1 < length structs
    row_here = parts.here

    pub indexing_full : 32 ≤ number → Indexes structs lifetimes (Err Full)
    unfolding numbered unless
    indexing_full k =
        refused_index structs lifetimes
        (sym (inv.same ∙ rw (rows_next, le-leb 32 number k)))
        (λ e. refused_accepted e)

    module _ (k : number < 32) where
      size₁ : length (set lifetimes number (get_or structs at 0)) ≡ 32
      size₁ = length-set lifetimes number (get_or structs at 0) ∙ inv.size

      holding₁ : Holding (rows_of structs) (number + 1) (set lifetimes number (get_or structs at 0))
      holding₁ =
          holding_set (rows_of structs) number (get_or structs at 0) lifetimes inv.size k (sym parts.lifetimes)
          inv.holding

      judged_row : judged (row_checks (rows_of structs) 0 (rows_of structs))
          ≡ judged (type_checks (rows_of structs) (row_at (rows_of structs) number).fields ++ row_checks (rows_of structs)
          (suc number) (drop (number + 1) (rows_of structs)))
      unfolding numbered unless
      judged_row = inv.same ∙ rw (rows_next, lt-leb 32 number k)

      module _ {r : Option ℕ} (f : TypesFit structs (at + 2) (get_or structs (at + 1) 0) (set lifetimes number (get_or structs at 0)) r) where
        pub indexing_stops : r ≡ None
            → Indexes structs (set lifetimes number (get_or structs at 0)) (Err Mismatch)
        indexing_stops e =
            refused_index structs (set lifetimes number (get_or structs at 0))
            (sym (judged_row
            ∙ judged_stays (type_checks (rows_of structs) (row_at (rows_of structs) number).fields)
            (row_checks (rows_of structs) (suc number) (drop (number + 1) (rows_of structs)))
            (fit_stops
            (f (rows_of structs) number (row_at (rows_of structs) number).fields next.behind (omega arith)
            (λ row l. holding₁ row (omega arith)) parts.fields) e)))
            (λ e. refused_accepted e)

        pub indexing_more : {place : ℕ} → r ≡ Some place
            → Indexing structs (set lifetimes number (get_or structs at 0)) place (number + 1)
        indexing_more {place} e =
            let g = fit_goes
            (f (rows_of structs) number (row_at (rows_of structs) number).fields next.behind (omega arith)
            (λ row l. holding₁ row (omega arith)) parts.fields) e in
            record {
              steps = inv.steps - 1;
              items = rw (add-one number, g.left) (rw (add-one number) at next.others);
              same = judged_row
                  ∙ judged_after (type_checks (rows_of structs) (row_at (rows_of structs) number).fields)
                  (row_checks (rows_of structs) (suc number) (drop (number + 1) (rows_of structs))) g.accepted
                  ∙ rw (add-one number);
              size = size₁;
              few = omega arith;
              before = omega arith;
              holding = holding₁;
            }

  pub indexing_end : {rows : ℕ} → length (rows_of structs) ≡ rows → rows ≤ number → Indexes structs lifetimes (Ok (tt {0}))
  unfolding numbered unless
  indexing_end all past =
      let h : length (rows_of structs) ≤ number = omega arith in
      let z : number ≡ length (rows_of structs) = omega (arith, inv.before) in
      record {
        verdict = sym (inv.same ∙ rw (drop_of_length-le (rows_of structs) {i = number} h));
        few = λ e. omega (arith, inv.few);
        holding = λ e row l. inv.holding row (omega arith);
      }
