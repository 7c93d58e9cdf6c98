-- Reading with the shapes, by its cases: no sheet; records in shape, `force` 1 or not; records that are not.
use Rattle.std.specs.Prelude.{Ok, Err}
use Prim.Native.Nat.{ℕ}
use mathlib.Core.Bool.{Bool, true, false, not, ◌&&◌, true≢false, false≢true, and-eq-true_iff}
use mathlib.Core.Logic.{inl, inr}
use mathlib.Core.Path.{◌≡◌, refl, sym, ap, subst, ◌∙◌}
use mathlib.Core.List.{List, [], ◌∷◌}
use native.Mathlib.Omega.{arith}
use borrow.Author.Tests.{leb-true, le-leb, eqb-false}
use lib.Dec.{leb}
use lib.ListN.{length}
use Rattle.answers.specs.declared.Refusal.TheVariants.{Malformed, Unreadable, Retired}
use Rattle.answers.specs.Refusals.{FirstDue, here, later, NoneDue, end, next}
use Rattle.answers.proofs.RefusalLaws.{due_given, due_refused, given_due, refused_due, first_more, first_after}
use Rattle.answers.proofs.RefusalLaws.{none_more}
use Rattle.records.specs.Reading.{Reading, few_words, in_shape}
use Rattle.records.proofs.ReadingLaws.{passed}
use Rattle.ast_lifetimes.specs.Shapes.{names_in_shape, bounds_in_shape}
use Rattle.ast_lifetimes.specs.Types.{types_in_shape, read_type}
use Rattle.elision.specs.Steps.{self_in_shape, steps_in_shape, read_step}
use Rattle.hir_types.specs.Rows.{force_in_shape, rows_of, read_row, read_known, forced, method_in_shape}
use Rattle.hir_types.proofs.ShapeLaws.{four_in_shape}
use Rattle.records.specs.Reading.{most_words}
use Rattle.sheet.specs.Text.{Records, lists}
use Rattle.sheet.specs.Reading.{all_short, sheet_of, text_checks, read_text}
use Rattle.sheet.specs.Shape.{sheet_in_shape, sheet_checks, read_sheet}
use Rattle.sheet.specs.Theorems.{IsSheet, ReadsInShape}
use Rattle.sheet.proofs.SheetLaws.{Read, NoSheet, Few, Many, read_cases, one_sheet}
use Rattle.answers.specs.Lists.{all}

-- what ten records in shape say of those that each crate reads
pub sheet_parts : (r : Records) → sheet_in_shape r ≡ true
    → (names_in_shape r.names && (bounds_in_shape r.bounds && types_in_shape r.types) ≡ true)
    × (self_in_shape r.self && (steps_in_shape r.steps && steps_in_shape r.returns) ≡ true)
    × (method_in_shape r.structs r.params r.output r.force ≡ true)
unfolding sheet_in_shape
sheet_parts r e =
    let a = (and-eq-true_iff (names_in_shape r.names && (bounds_in_shape r.bounds && types_in_shape r.types)) _).0 e in
    let b = (and-eq-true_iff (self_in_shape r.self && (steps_in_shape r.steps && steps_in_shape r.returns)) _).0 a.1 in
    (a.0, b.0, b.1)

-- no record in shape has more than 1,024 words
names_short : (l : List ℕ) → names_in_shape l ≡ true → leb (length l) most_words ≡ true
unfolding names_in_shape
names_short [] e = refl
names_short (n ∷ l) e = ((and-eq-true_iff (few_words (n ∷ l)) _).0 e).0

bounds_short : (l : List ℕ) → bounds_in_shape l ≡ true → leb (length l) most_words ≡ true
unfolding bounds_in_shape
bounds_short [] e = refl
bounds_short (n ∷ l) e = ((and-eq-true_iff (few_words (n ∷ l)) _).0 e).0

items_short : {A : Type 0} (item : ℕ → List ℕ → Reading A) (l : List ℕ) → in_shape item l ≡ true → leb (length l) most_words ≡ true
unfolding in_shape
items_short item l e = ((and-eq-true_iff (few_words l) _).0 e).0

self_short : (l : List ℕ) → self_in_shape l ≡ true → leb (length l) most_words ≡ true
self_short l e = le-leb (length l) most_words (omega (arith, leb-true (length l) 1 e))

force_short : (l : List ℕ) → force_in_shape l ≡ true → leb (length l) most_words ≡ true
force_short [] e = refl
force_short (w ∷ []) e = refl
force_short (w ∷ v ∷ l) e = let z : ◌≡◌ {A = ℕ} 0 1 = cc in absurd (omega arith)

pub shape_short : (r : Records) → sheet_in_shape r ≡ true → all_short (lists r) ≡ true
unfolding all
shape_short r e =
    let rows = length (rows_of r.structs) in
    let parts = sheet_parts r e in
    let n = (and-eq-true_iff (names_in_shape r.names) _).0 parts.0 in
    let t = (and-eq-true_iff (bounds_in_shape r.bounds) _).0 n.1 in
    let s = (and-eq-true_iff (self_in_shape r.self) _).0 parts.1 in
    let q = (and-eq-true_iff (steps_in_shape r.steps) _).0 s.1 in
    let four = four_in_shape r.structs r.params r.output r.force parts.2 in
    rw (
      names_short r.names n.0,
      bounds_short r.bounds t.0,
      items_short (λ number. read_type 8) r.types t.1,
      self_short r.self s.0,
      items_short (λ number. read_step) r.steps q.0,
      items_short (λ number. read_step) r.returns q.1,
      items_short read_row r.structs four.structs_shape,
      items_short (λ number. read_known rows) r.params four.params_shape,
      items_short (λ number. read_known rows) r.output four.output_shape,
      force_short r.force four.force_shape,
    )

long_not : (r : Records) → all_short (lists r) ≡ false → sheet_in_shape r ≡ false
long_not r f = go (sheet_in_shape r) refl
  where
    go : (t : Bool) → sheet_in_shape r ≡ t → sheet_in_shape r ≡ false
    go true e = let h = shape_short r e in let z : ◌≡◌ {A = ℕ} 0 1 = cc in absurd (omega arith)
    go false e = e

-- `force` that is in shape and not 1 is 0
force_zero : (l : List ℕ) → force_in_shape l ≡ true → forced l ≡ false → l ≡ 0 ∷ []
force_zero [] e f = passed e
force_zero (word ∷ []) e f =
    let z : word ≡ 0 = omega (arith, leb-true word 1 e, eqb-false word 1 f) in
    rw z
force_zero (word ∷ other ∷ words) e f = passed e

tenth_line : (r : Records) → sheet_in_shape r ≡ true → forced r.force ≡ false → r.force ≡ 0 ∷ []
tenth_line r e =
    force_zero r.force
    (four_in_shape r.structs r.params r.output r.force (sheet_parts r e).2).force_shape

data Shaped (bytes : List ℕ) : Type 0 where
  None : read_sheet bytes ≡ Err Unreadable → ((r : Records) → IsSheet bytes r → ⊥) → Shaped bytes
  Good : (r : Records) → read_sheet bytes ≡ Ok r → IsSheet bytes r → sheet_in_shape r ≡ true → forced r.force ≡ false
      → Shaped bytes
  Bad : (r : Records) → read_sheet bytes ≡ Err Malformed → IsSheet bytes r → sheet_in_shape r ≡ false → Shaped bytes
  Old : (r : Records) → read_sheet bytes ≡ Err Retired → IsSheet bytes r → sheet_in_shape r ≡ true → forced r.force ≡ true
      → Shaped bytes

shaped : (bytes : List ℕ) → Read bytes → Shaped bytes
unfolding read_text read_sheet sheet_checks
shaped bytes (NoSheet e n) =
    let f : FirstDue Unreadable (sheet_checks bytes) =
    first_more _ (refused_due (sheet_of bytes) Unreadable (text_checks bytes) e) in
    None (due_refused (sheet_of bytes) f) n
shaped bytes (Many r e s f) =
    let d : FirstDue Malformed (sheet_checks bytes) = first_more _ (refused_due (sheet_of bytes) Malformed (text_checks bytes) e) in
    Bad r (due_refused (sheet_of bytes) d) s (long_not r f)
shaped bytes (Few r e s f) =
    go (sheet_in_shape r) (forced r.force) refl refl (given_due (sheet_of bytes) r (text_checks bytes) e)
  where
    go : (t u : Bool) → sheet_in_shape r ≡ t → forced r.force ≡ u → NoneDue (text_checks bytes) × (sheet_of bytes ≡ r)
        → Shaped bytes
    go false u q o g =
        let d : FirstDue Malformed (sheet_checks bytes) =
        first_after g.0 (here (ap not (ap sheet_in_shape g.1 ∙ q)) refl) in
        Bad r (due_refused (sheet_of bytes) d) s q
    go true true q o g =
        let d : FirstDue Retired (sheet_checks bytes) =
        first_after g.0 (later (ap not (ap sheet_in_shape g.1 ∙ q))
        (here (ap (λ (x : Records). forced x.force) g.1 ∙ o) refl)) in
        Old r (due_refused (sheet_of bytes) d) s q o
    go true false q o g =
        let n : NoneDue (sheet_checks bytes) =
        none_more g.0 (next (ap not (ap sheet_in_shape g.1 ∙ q))
        (next (ap (λ (x : Records). forced x.force) g.1 ∙ o) end)) in
        Good r (due_given (sheet_of bytes) n ∙ ap Ok g.1) s q o

-- two of the same sheet
module _ {bytes : List ℕ} {q r : Records} (a : IsSheet bytes q) (b : IsSheet bytes r) where
  shape_same : sheet_in_shape q ≡ sheet_in_shape r
  shape_same = ap sheet_in_shape (one_sheet a b)

  force_same : forced q.force ≡ forced r.force
  force_same = ap (λ (x : Records). forced x.force) (one_sheet a b)

by_cases : (bytes : List ℕ) → Shaped bytes → ReadsInShape bytes
by_cases bytes (None e n) = record {
  given = λ r. (λ g. let z : ◌≡◌ {A = ℕ} 0 1 = cc in absurd (omega arith), λ s. absurd (n r s.0));
  unreadable = (λ g. n, λ g. e);
  malformed = (λ g. let z : ◌≡◌ {A = ℕ} 0 1 = cc in absurd (omega arith), λ s. absurd (n s.0 s.1));
  retired = (λ g. let z : ◌≡◌ {A = ℕ} 0 1 = cc in absurd (omega arith), λ s. absurd (n s.0 s.1));
  refusals = λ k g. inl (cc);
  tenth = λ r g. let z : ◌≡◌ {A = ℕ} 0 1 = cc in absurd (omega arith);
}
by_cases bytes (Good r e s f o) = record {
  given = λ q. (
    λ g. let h : r ≡ q = cc in
        subst (λ (x : Records). IsSheet bytes x × (sheet_in_shape x ≡ true) × (forced x.force ≡ false)) h (s, f, o),
    λ p. let h : r ≡ q = one_sheet s p.0 in cc,
  );
  unreadable = (λ g. let z : ◌≡◌ {A = ℕ} 0 1 = cc in absurd (omega arith), λ n. absurd (n r s));
  malformed = (
    λ g. let z : ◌≡◌ {A = ℕ} 0 1 = cc in absurd (omega arith),
    λ p. absurd (true≢false (sym (shape_same p.1 s ∙ f) ∙ p.2)),
  );
  retired = (
    λ g. let z : ◌≡◌ {A = ℕ} 0 1 = cc in absurd (omega arith),
    λ p. absurd (false≢true (sym (force_same p.1 s ∙ o) ∙ p.3)),
  );
  refusals = λ k g. let z : ◌≡◌ {A = ℕ} 0 1 = cc in absurd (omega arith);
  tenth = λ q g. let h : r ≡ q = cc in subst (λ (x : Records). x.force ≡ 0 ∷ []) h (tenth_line r f o);
}
by_cases bytes (Bad r e s f) = record {
  given = λ q. (
    λ g. let z : ◌≡◌ {A = ℕ} 0 1 = cc in absurd (omega arith),
    λ p. absurd (false≢true (sym (shape_same p.0 s ∙ f) ∙ p.1)),
  );
  unreadable = (λ g. let z : ◌≡◌ {A = ℕ} 0 1 = cc in absurd (omega arith), λ n. absurd (n r s));
  malformed = (λ g. (r, s, f), λ g. e);
  retired = (
    λ g. let z : ◌≡◌ {A = ℕ} 0 1 = cc in absurd (omega arith),
    λ p. absurd (false≢true (sym (shape_same p.1 s ∙ f) ∙ p.2)),
  );
  refusals = λ k g. inr (inl (cc));
  tenth = λ q g. let z : ◌≡◌ {A = ℕ} 0 1 = cc in absurd (omega arith);
}
by_cases bytes (Old r e s f o) = record {
  given = λ q. (
    λ g. let z : ◌≡◌ {A = ℕ} 0 1 = cc in absurd (omega arith),
    λ p. absurd (true≢false (sym (force_same p.0 s ∙ o) ∙ p.2)),
  );
  unreadable = (λ g. let z : ◌≡◌ {A = ℕ} 0 1 = cc in absurd (omega arith), λ n. absurd (n r s));
  malformed = (
    λ g. let z : ◌≡◌ {A = ℕ} 0 1 = cc in absurd (omega arith),
    λ p. absurd (true≢false (sym (shape_same p.1 s ∙ f) ∙ p.2)),
  );
  retired = (λ g. (r, s, f, o), λ g. e);
  refusals = λ k g. inr (inr (cc));
  tenth = λ q g. let z : ◌≡◌ {A = ℕ} 0 1 = cc in absurd (omega arith);
}

pub reads_in_shape : (bytes : List ℕ) → ReadsInShape bytes
reads_in_shape bytes = by_cases bytes (shaped bytes (read_cases bytes))
