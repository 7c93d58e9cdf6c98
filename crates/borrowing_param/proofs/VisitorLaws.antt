-- A visit of one parameter: finding it, the answers of `visit_parts` and of `visit_param`.
-- In order: the type with a number; its path is short; the records of a method and the parameter; what stands there; the
-- answer's number; room and the answers.
use Rattle.std.specs.Prelude.{Ok, Err, Some, None, Option}
use Prim.Native.Nat.{ℕ, zero, suc, ◌+◌, ◌-◌, ◌*◌, ◌/◌, ◌≤◌, ◌<◌}
use mathlib.Core.Bool.{Bool, true, false, cond, ◌&&◌, not, true≢false, and-eq-true_iff}
use mathlib.Core.Path.{◌≡◌, refl, sym, ap, ◌∙◌}
use mathlib.Core.List.{List, [], ◌∷◌, flat_map}
use native.Mathlib.Nat.{sub-zero, add-zero}
use native.Mathlib.Nat.{div-add-mod', mod-lt}
use native.Mathlib.Decide.{dec_lt}
use native.Mathlib.Omega.{arith}
use mir.Val.{bool_byte}
use borrow.Author.Tests.{lt-leb, leb-true, leb-false, not-false, eq-eqb, ne_eqb}
use lib.Dec.{eqb, leb}
use lib.ListN.{length, drop}
use Rattle.answers.specs.declared.Refusal.{Refusal}
use Rattle.answers.specs.declared.Refusal.TheVariants.{Malformed, NoRoom}
use Rattle.answers.specs.Refusals as refusals
use Rattle.answers.specs.Refusals.{check, unless, FirstDue, here, later, NoneDue, next, Verdict}
use Rattle.answers.proofs.RefusalLaws.{due_given, due_refused, refused_first, accepted_none, none_first}
use Rattle.records.specs.Reading.{Reading, Read, Fails, onward, read_all, few_words, in_shape, items_of}
use Rattle.records.proofs.ReadingLaws.{Holds, read, fails, holds_read, holds_cond, holds_onward, holds_or, fails_read}
use Rattle.hir_types.specs.declared.types.Kind.{Kind}
use Rattle.hir_types.specs.declared.types.Kind.TheVariants.{Plain, Opaque, Struct, Slice}
use Rattle.hir_types.specs.declared.types.Parts.{Parts}
use Rattle.hir_types.specs.LoweredTypes.{LoweredType, read_lowered, knows, located}
use Rattle.hir_types.specs.Rows.{rows_of, read_known, types_of, params_in_shape, structs_in_shape}
use Rattle.hir_types.specs.Places.{Stands, nowhere, code_of, code_in, Coded}
use Rattle.hir_types.proofs.LocatedLaws.{type_few, type_located, type_coded}
use Rattle.hir_types.proofs.FoundLaws.{found_told, missing_told, code_told}
use Rattle.methods.specs.Method.{types_in, structs_and_params_checks, structs_and_params_verdict}
use Rattle.borrowing_param.specs.declared.visitor.LifetimeEdge.{LifetimeEdge}
use Rattle.borrowing_param.specs.declared.visitor.BorrowingParamVisitor.{BorrowingParamVisitor}
use Rattle.borrowing_param.specs.declared.visitor.ParamBorrowInfo.{ParamBorrowInfo}
use Rattle.borrowing_param.specs.Edges.{width}
use Rattle.borrowing_param.specs.Brings.{answer_number, notes, empty_pairs, answer_of}
use Rattle.borrowing_param.specs.Visit.{bring_all, holding, State, state, VisitOutcome, outcome, visit_with, visit}
use Rattle.borrowing_param.specs.VisitParam.{type_at, visit_checks, visit_param}
use Rattle.borrowing_param.specs.Inner.{type_in, nth_type, FoundAt, number_by, all_in, CountsAll, Stores}
use Rattle.borrowing_param.proofs.VisitsLaws.{visit_stores}

-- ---- the type with a number

pub record Finding (words : List ℕ) (n at i : ℕ) : Type 0 where
  pub here : i ≤ n
  pub left : nth_type n words ≡ nth_type (n - i) (drop at words)

pub finding_start : (words : List ℕ) (n : ℕ) → Finding words n 0 0
finding_start words n = record { here = omega arith; left = rw sub-zero }

module _ {words : List ℕ} {n at i : ℕ} (inv : Finding words n at i) where
  pub finding_end : n ≤ i → {r : Option Parts} → r ≡ located at (length words) (read_lowered (drop at words)) → FoundAt words n r
  unfolding nth_type
  finding_end h l =
      let e : n - i ≡ 0 = omega arith in
      let same : nth_type n words ≡ read_lowered (drop at words) = rw e at inv.left in
      record { at = at; found = rw same (type_located words at l); coded = type_coded words at l }

  module _ (h : i < n) {r : Option Parts} (l : r ≡ located at (length words) (read_lowered (drop at words))) where
    one_on : nth_type n words ≡ onward (read_lowered (drop at words)) (λ t rest. nth_type (n - (i + 1)) rest)
    unfolding nth_type
    one_on = let e : n - i ≡ suc (n - (i + 1)) = omega arith in rw e at inv.left

    pub finding_missing : r ≡ None → FoundAt words n None
    finding_missing e =
        let none : nth_type n words ≡ Fails = one_on ∙ rw (missing_told (type_located words at l) e) in
        record { at = at; found = rw none nowhere; coded = tt }

    pub finding_more : {p : Parts} → r ≡ Some p → Finding words n p.next (i + 1)
    finding_more {p} e =
        let f = found_told (type_located words at l) e in
        let same : nth_type n words ≡ nth_type (n - (i + 1)) (drop p.next words) = one_on ∙ rw (f.reads, f.stands.left) in
        record { here = omega arith; left = same }

-- ---- its path is short

abbrev Short : LoweredType → List ℕ → Type 0
Short t rest = length t.path ≤ 16

short_nth : (n : ℕ) (words : List ℕ) → Holds Short (nth_type n words)
unfolding nth_type
short_nth zero words = type_few words
short_nth (suc n) words = holds_onward Short Short (type_few words) (λ t rest h. short_nth n rest)

-- ---- the type with a number is the parameter's

-- the parameter of a list of types, or none past its end
pub record NthIs (types : List LoweredType) (n : ℕ) (reading : Reading LoweredType) : Type 0 where
  pub inside : n < length types → (rest : List ℕ) × (reading ≡ Read (type_at types n) rest)
  pub past : length types ≤ n → reading ≡ Fails

nth_none : (n : ℕ) → nth_type n [] ≡ Fails
unfolding nth_type read_lowered
nth_none zero = refl
nth_none (suc n) = refl

none_is : (n : ℕ) → NthIs [] n (nth_type n [])
none_is n = record { inside = λ h. absurd (omega arith); past = λ h. nth_none n }

pub known_reads : (rows : ℕ) (words : List ℕ) → Holds (λ t rest. read_lowered words ≡ Read t rest) (read_known rows words)
unfolding read_known
known_reads rows words = go (read_lowered words)
  where
    go : (r : Reading LoweredType)
        → Holds (λ t rest. r ≡ Read t rest) (onward r (λ t rest. cond (knows rows t.kind) (Read t rest) Fails))
    go (Read t rest) = holds_cond (λ u behind. Read t rest ≡ Read u behind) (knows rows t.kind) (λ e. read refl) fails
    go Fails = fails

nth_all : (rows number steps : ℕ) (words : List ℕ)
    → Holds (λ ts end. (n : ℕ) → NthIs ts n (nth_type n words)) (read_all (λ i. read_known rows) number steps words)
unfolding read_all nth_type
nth_all rows number zero [] = read none_is
nth_all rows number zero (w ∷ words) = fails
nth_all rows number (suc steps) [] = read none_is
nth_all rows number (suc steps) (w ∷ words) =
    let All : List LoweredType → List ℕ → Type 0 = λ ts end. (n : ℕ) → NthIs ts n (nth_type n (w ∷ words)) in
    holds_onward (λ t rest. read_lowered (w ∷ words) ≡ Read t rest) All (known_reads rows (w ∷ words))
    (λ t rest e. holds_onward (λ ts end. (n : ℕ) → NthIs ts n (nth_type n rest)) All
    (nth_all rows (suc number) steps rest) (λ ts end h. read (cons t rest e ts h)))
  where
    cons : (t : LoweredType) (rest : List ℕ) → read_lowered (w ∷ words) ≡ Read t rest → (ts : List LoweredType)
        → ((n : ℕ) → NthIs ts n (nth_type n rest)) → (n : ℕ) → NthIs (t ∷ ts) n (nth_type n (w ∷ words))
    cons t rest e ts h zero = record { inside = λ l. (rest, e); past = λ l. absurd (omega arith) }
    cons t rest e ts h (suc n) = record {
      inside = λ l. let k = (h n).inside (omega arith) in (k.0, rw e k.1);
      past = λ l. rw e ((h n).past (omega arith));
    }

pub nth_param : (rows : ℕ) (params : List ℕ) → params_in_shape rows params ≡ true → (n : ℕ)
    → NthIs (types_of rows params) n (nth_type n params)
unfolding in_shape items_of
nth_param rows params shape =
    holds_or (λ ts. (n : ℕ) → NthIs ts n (nth_type n params)) [] (nth_all rows 0 (length params) params)
    ((and-eq-true_iff (few_words params) _).0 shape).1

-- ---- the records of a method, and the parameter

read_same : {A : Type 0} {a b : A} {k l : List ℕ} → Read a k ≡ Read b l → a ≡ b
read_same e = cc

-- the first of some checks, if it is due
first_is : {r : Refusal} {c : refusals.Check} {cs : List refusals.Check} → c.due ≡ true → FirstDue r (c ∷ cs) → c.refusal ≡ r
first_is h (here k e) = e
first_is h (later k f) = absurd (true≢false (sym h ∙ k))

module _ (structs params : List ℕ) (n : ℕ) where
  abbrev Shape : Bool
  Shape = structs_in_shape structs && params_in_shape (length (rows_of structs)) params

  abbrev Types : List LoweredType
  Types = types_in structs params

  abbrev Rest : List refusals.Check
  Rest = structs_and_params_checks structs params

  is_nth : Shape ≡ true → NthIs Types n (nth_type n params)
  is_nth e = nth_param (length (rows_of structs)) params ((and-eq-true_iff (structs_in_shape structs) _).0 e).1 n

  -- a parameter that is not there
  pub nowhere_refused : nth_type n params ≡ Fails → FirstDue Malformed (visit_checks structs params n)
  nowhere_refused none = go Shape refl (leb (length Types) n) refl
    where
      go : (s : Bool) → Shape ≡ s → (t : Bool) → leb (length Types) n ≡ t → FirstDue Malformed (visit_checks structs params n)
      go s e true f = here f refl
      go true e false f =
          let k = (is_nth e).inside (leb-false (length Types) n f) in
          fails_read (sym none ∙ k.1)
      go false e false f = later f (here {c = check (not Shape) Malformed} (rw e) refl)

  module _ {t : LoweredType} {rest : List ℕ} (found : nth_type n params ≡ Read t rest) where
    there : Shape ≡ true → (n < length Types) × (t ≡ type_at Types n)
    there e = go (dec_lt n (length Types))
      where
        go : Dec (n < length Types) → (n < length Types) × (t ≡ type_at Types n)
        go (yes h) = let k = (is_nth e).inside h in (h, read_same (sym found ∙ k.1))
        go (no h) = fails_read (sym ((is_nth e).past (omega arith)) ∙ found)

    pub records_refused : {v : Verdict} {r : Refusal} → v ≡ structs_and_params_verdict structs params → v ≡ Err r
        → FirstDue r (visit_checks structs params n)
    records_refused {v} {r} a b = go Shape refl (leb (length Types) n) refl
      where
        due : FirstDue r Rest
        due = refused_first (tt {0}) r Rest (sym a ∙ b)

        go : (s : Bool) → Shape ≡ s → (t : Bool) → leb (length Types) n ≡ t → FirstDue r (visit_checks structs params n)
        go s e false f = later f due
        go true e true f = let k = (there e).0 in absurd (omega (arith, leb-true (length Types) n f))
        go false e true f = here f (first_is (rw e) due)

    pub records_accepted : {v : Verdict} → v ≡ structs_and_params_verdict structs params → v ≡ Ok (tt {0})
        → NoneDue (visit_checks structs params n) × (t ≡ type_at Types n)
    records_accepted {v} a b =
        let none : NoneDue Rest = accepted_none (tt {0}) Rest (sym a ∙ b) in
        let e : Shape ≡ true = not-false _ (none_first none) in
        let k = there e in
        (next (lt-leb (length Types) n k.0) none, k.1)

-- ---- what stands there

pub parts_type : {words : List ℕ} {at : ℕ} {t : LoweredType} {rest : List ℕ} {p : Parts} → Stands words at t rest p
    → type_in words p ≡ t
parts_type s = rw (s.option, s.kind, s.path, s.own)

-- the parameter that was found: its path words are there and not many, and so is its code
pub parts_there : {n : ℕ} {words : List ℕ} {r : Option Parts} {p : Parts} → FoundAt words n r → r ≡ Some p
    → (p.count ≤ 16) × Coded words p
parts_there f e =
    let s = (found_told f.found e).stands in
    (s.few, code_told f.coded e)

-- ---- the answer's number

-- by how many edges there are, and by the edges
pub number_is : (k : Kind) (es : List LifetimeEdge) → number_by k (length es) ≡ answer_number k es
number_is Plain es = refl
number_is Opaque [] = refl
number_is Opaque (e ∷ es) = rw (ne_eqb (suc (length es)) 0 (λ z. omega arith))
number_is Slice [] = refl
number_is Slice (e ∷ es) = rw (ne_eqb (suc (length es)) 0 (λ z. omega arith))
number_is (Struct row) [] = refl
number_is (Struct row) (e ∷ es) = rw (ne_eqb (suc (length es)) 0 (λ z. omega arith))

-- by the code in place of the kind, as `number_of` goes: plain types, structs, then the two facts
abbrev number_for : ℕ → ℕ → ℕ
number_for code n =
    cond (eqb code 0) 0
    (cond (eqb code 2) (cond (eqb n 0) 0 3)
    (cond (eqb code 3) (cond (not (eqb n 0)) 2 1) (cond (not (eqb n 0)) 4 0)))

cond_not : (t : Bool) (m n : ℕ) → cond (not t) m n ≡ cond t n m
cond_not true m n = refl
cond_not false m n = refl

number_for_lem : (k : Kind) (n : ℕ) → number_for (code_of k) n ≡ number_by k n
number_for_lem Plain n = refl
number_for_lem (Struct row) n = refl
number_for_lem Opaque n = cond_not (eqb n 0) 4 0
number_for_lem Slice n = cond_not (eqb n 0) 2 1

module _ {words : List ℕ} {p : Parts} (h : Coded words p) (n : ℕ) where
  number_told : number_for (code_in words p) n ≡ number_by p.kind n
  number_told = ap (λ (code : ℕ). number_for code n) h.code ∙ number_for_lem p.kind n

  pub number_plain : code_in words p ≡ 0 → 0 ≡ number_by p.kind n
  number_plain e = rw (eq-eqb (code_in words p) 0 e) at number_told

  module _ (some : code_in words p ≡ 0 → ⊥) {number : ℕ} where
    pub number_struct : code_in words p ≡ 2 → number ≡ cond (eqb n 0) 0 3 → number ≡ number_by p.kind n
    number_struct e r = r ∙ (rw (ne_eqb (code_in words p) 0 some, eq-eqb (code_in words p) 2 e) at number_told)

    pub number_facts : (code_in words p ≡ 2 → ⊥)
        → number ≡ cond (eqb (code_in words p) 3) (cond (not (eqb n 0)) 2 1) (cond (not (eqb n 0)) 4 0)
        → number ≡ number_by p.kind n
    number_facts other r = r ∙ (rw (ne_eqb (code_in words p) 0 some, ne_eqb (code_in words p) 2 other) at number_told)

-- the two facts as numbers: a fact is at most 1, and both together are at most the second
pub fact_few : (t : Bool) → bool_byte t ≤ 1
fact_few true = omega arith
fact_few false = omega arith

pub both_fewer : (slice borrowed : Bool) → bool_byte slice * bool_byte borrowed ≤ bool_byte borrowed
both_fewer true borrowed = omega arith
both_fewer false borrowed = omega arith

-- the number worked out with any two factors, `f` of borrowed and `g` of both: it is right in its four cases if it is in
-- the two in which a factor counts, a borrowed slice and a borrowed opaque
pub number_worked : (f g : ℕ) → 1 + f - g ≡ 2 → f ≡ 4 → (slice borrowed : Bool)
    → bool_byte slice + f * bool_byte borrowed - g * (bool_byte slice * bool_byte borrowed)
    ≡ cond slice (cond borrowed 2 1) (cond borrowed 4 0)
number_worked f g borrowed-slice borrowed-opaque true true = omega (arith, borrowed-slice)
number_worked f g borrowed-slice borrowed-opaque true false = omega arith
number_worked f g borrowed-slice borrowed-opaque false true = omega (arith, borrowed-opaque)
number_worked f g borrowed-slice borrowed-opaque false false = omega arith

-- ---- the answers

-- a visit that brings nothing leaves all as it was
stays : (v : BorrowingParamVisitor) (words : List ℕ) (k : Kind) (l : List LifetimeEdge) → length l ≡ 0
    → outcome (Ok (record { number = answer_number k l; pairs = empty_pairs })) (state v words)
    ≡ visit_with (state v words) (answer_of k l) l
unfolding flat_map notes
stays v words k [] e = rw (add-zero v.stored)
stays v words k (x ∷ l) e = absurd (omega arith)

-- one that has no room goes back
goes : (v : BorrowingParamVisitor) (words : List ℕ) (info : ParamBorrowInfo) (l : List LifetimeEdge)
    → (length l ≡ 0 → ⊥) → length words < width * (v.stored + length l)
    → visit_with (state v words) info l ≡ outcome (Err NoRoom) (state v words)
goes v words info [] some h = absurd (some refl)
goes v words info (x ∷ l) some h = rw (lt-leb (width * (v.stored + length (x ∷ l))) (length words) h)

-- the tests of the code: room for so many edges, and for them behind those that are stored
pub no_room_at_all : (n stored words room : ℕ) → room ≡ words / 5 → room < n → words < width * (stored + n)
no_room_at_all n stored words room r h = omega (arith, div-add-mod' words 5, mod-lt words {m = 5} (omega arith))

pub no_room_behind : (n stored words room : ℕ) → room ≡ words / 5 → n ≤ room → room - n < stored → words < width * (stored + n)
no_room_behind n stored words room r h k = omega (arith, div-add-mod' words 5, mod-lt words {m = 5} (omega arith))

pub room_behind : (n stored words room : ℕ) → room ≡ words / 5 → n ≤ room → stored ≤ room - n → width * (stored + n) ≤ words
room_behind n stored words room r h k = omega (arith, div-add-mod' words 5, mod-lt words {m = 5} (omega arith))

module _ (v : BorrowingParamVisitor) (words : List ℕ) (t : LoweredType) (param : ℕ) {n number : ℕ}
    (c : CountsAll v.used v.draws t n) (q : number ≡ number_by t.kind n) where
  abbrev es : List LifetimeEdge
  es = bring_all v t param

  many : n ≡ length es
  many = c.counts param

  named : number ≡ answer_number t.kind es
  named = q ∙ ap (number_by t.kind) many ∙ number_is t.kind es

  pub visit_nothing : n ≡ 0 → outcome (Ok (record { number = number; pairs = empty_pairs })) (state v words)
      ≡ visit (state v words) t param
  unfolding visit
  visit_nothing z = rw named (stays v words t.kind es (sym many ∙ z))

  module _ (some : n ≡ 0 → ⊥) where
    pub visit_no_room : length words < width * (v.stored + n)
        → outcome (Err NoRoom) (state v words) ≡ visit (state v words) t param
    unfolding visit
    visit_no_room h = sym (goes v words (answer_of t.kind es) es (λ e. some (many ∙ e)) (rw (← many) h))

    pub visit_room : width * (v.stored + n) ≤ length words → {next : ℕ} {pairs words₁ : List ℕ}
        → Stores es v.stored empty_pairs words next pairs words₁
        → outcome (Ok (record { number = number; pairs = pairs })) (state (holding v next) words₁)
        ≡ visit (state v words) t param
    unfolding visit
    visit_room h s =
        sym (visit_stores (state v words) (answer_of t.kind es) es (rw (← many) h)
        ∙ rw (← s.stores.count, ← s.stores.stored, ← s.carries, ← named))

-- room for what is counted is room for what is brought
pub brought_room : (v : BorrowingParamVisitor) (t : LoweredType) (param words : ℕ) {n : ℕ}
    → CountsAll v.used v.draws t n → width * (v.stored + n) ≤ words
    → width * (v.stored + length (all_in v.used v.draws t param)) ≤ words
brought_room v t param words c h = rw (← c.counts param) h

-- `visit_param`: no parameter there, records that are refused, a visit of the type that stands there
module _ (structs params : List ℕ) (s : State) (param : ℕ) where
  visit_due : {k : Refusal} → FirstDue k (visit_checks structs params param)
      → outcome (Err k) s ≡ visit_param structs params s param
  unfolding visit_param
  visit_due due = rw (due_refused (tt {0}) due)

  module _ {r : Option Parts} (f : FoundAt params param r) where
    pub visit_missing : r ≡ None → outcome (Err Malformed) s ≡ visit_param structs params s param
    visit_missing e = visit_due (nowhere_refused structs params param (missing_told f.found e))

    module _ {p : Parts} (e : r ≡ Some p) {v : Verdict} (judges : v ≡ structs_and_params_verdict structs params) where
      pub visit_torn : {k : Refusal} → v ≡ Err k → outcome (Err k) s ≡ visit_param structs params s param
      visit_torn w = visit_due (records_refused structs params param (found_told f.found e).reads judges w)

      pub visit_there : v ≡ Ok (tt {0}) → {o : VisitOutcome} → o ≡ visit s (type_in params p) param
          → o ≡ visit_param structs params s param
      unfolding visit_param
      visit_there w h =
          let t = found_told f.found e in
          let a = records_accepted structs params param t.reads judges w in
          h ∙ rw (due_given (tt {0}) a.0, parts_type t.stands, a.1)

-- the path of a parameter is short
pub param_short : (structs params : List ℕ) → params_in_shape (length (rows_of structs)) params ≡ true → (n : ℕ)
    → n < length (types_in structs params) → length (type_at (types_in structs params) n).path ≤ 16
param_short structs params shape n h =
    let k = (nth_param (length (rows_of structs)) params shape n).inside h in
    holds_read Short (type_at (types_in structs params) n) k.0 (rw k.1 at (short_nth n params))
