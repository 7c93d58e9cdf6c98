-- `compute_for_struct_field`: skipping types and rows, the field asked for, its pairs, and the ways out.
use Rattle.std.specs.Prelude.{Ok, Err, Some, None, Option}
use Prim.Native.Nat.{ℕ, zero, suc, ◌+◌, ◌-◌, ◌≤◌, ◌<◌}
use mathlib.Core.Bool.{Bool, true, false, cond, not, ◌&&◌}
use mathlib.Core.Logic.{◌⊎◌, ⊎_elim}
use mathlib.Core.Path.{◌≡◌, refl, sym, ap, subst, ◌∙◌}
use mathlib.Core.List.{List, [], ◌∷◌, ◌++◌}
use native.Mathlib.Nat.{zero-add}
use native.Mathlib.Numerals.{add-one}
use native.Mathlib.Omega.{arith}
use lib.Dec.{eqb, ltb}
use lib.ListN.{length, get_or, take, drop, set, replicate, length-append, length-set, length-replicate, drop_of_length-le}
use lib.ListN.{get_or-eq_default}
use lib.Seq.{sets, sets-eq, drop-cons}
use borrow.Author.Tests.{lt-ltb, le-ltb, ltb-true, ltb-false, eqb-true, not-false}
use Rattle.records.proofs.ReadingLaws.{passed, fails_read}
use Rattle.answers.specs.declared.Refusal.{Refusal}
use Rattle.answers.specs.declared.Refusal.TheVariants.{Malformed}
use Rattle.lifetimes.specs.declared.def_lifetime.DefLifetime.{DefLifetime}
use Rattle.lifetimes.specs.declared.maybe_static.MaybeStatic.{MaybeStatic}
use Rattle.lifetimes.specs.declared.maybe_static.MaybeStatic.TheVariants.{Static, NonStatic}
use Rattle.lifetimes.specs.Numbers.{def_lifetime}
use Rattle.lifetimes.specs.LoweredWords.{def_from_word}
use Rattle.answers.specs.Refusals.{unless, over, FirstDue, NoneDue, later, end, next, Outcome}
use Rattle.lifetimes.specs.Linked.{linked_pair}
use Rattle.answers.proofs.RefusalLaws.{due_given, due_refused, refused_first, accepted_none, none_first, none_rest}
use Rattle.answers.proofs.RefusalLaws.{none_split}
use Rattle.lifetimes.proofs.LinkedLaws.{pair_told, pair_only}
use Rattle.records.specs.Reading.{Read, Fails}
use Rattle.hir_types.specs.declared.types.Parts.{Parts}
use Rattle.hir_types.specs.declared.types.Kind.{Kind}
use Rattle.hir_types.specs.declared.types.Kind.TheVariants.{Plain, Opaque, Struct, Slice}
use Rattle.hir_types.specs.LoweredTypes.{LoweredType, read_lowered}
use Rattle.hir_types.specs.Rows.{Row, row_with, read_known, read_types, read_row, rows_of, structs_in_shape, how_many}
use Rattle.hir_types.proofs.FoundLaws.{Found}
use Rattle.hir_types.proofs.ShapeLaws.{counted_shape, refused_shape}
use Rattle.methods.specs.declared.fields.FieldPair.{FieldPair}
use Rattle.methods.specs.declared.fields.FieldLifetimes.{FieldLifetimes}
use Rattle.methods.specs.Method.{row_at, misfits, type_checks, row_checks}
use Rattle.methods.specs.Fields.{field_in, field_at, is_struct, field_pair, filled_by, pairs_from, field_checks}
use Rattle.methods.specs.Fields.{field_pairs, placed, given_pairs}
use Rattle.methods.specs.Inner.{RowStands, RowIs, row_is, Indexes, SkipTo, skip_to, TypesSkip, FieldIs, struct, other}
use Rattle.methods.proofs.PassLaws.{known_read, same_found, types_next, types_none, types_length}
use Rattle.methods.proofs.PassLaws.{Items, items_start, NextItem, items_next, RowParts, row_parts}
use Rattle.answers.proofs.Copying.{drop_replicate}
use Rattle.answers.specs.Lists.{numbered}

-- ---- `skip_types`

pub record Skips (words : List ℕ) (from count at i : ℕ) : Type 0 where
  pub onto : (n : ℕ) (types : List LoweredType) (rest : List ℕ) → read_types n count (drop from words) ≡ Read types rest
      → (left : List LoweredType) × (read_types n (count - i) (drop at words) ≡ Read left rest)

pub skips_start : (words : List ℕ) (from count : ℕ) → Skips words from count from 0
skips_start words from count = record { onto = λ n types rest e. let z : count - 0 ≡ count = omega arith in (types, rw z e) }

module _ {words : List ℕ} {from count at i : ℕ} (inv : Skips words from count at i) where
  module _ (h : i < count) where
    one_more : count - i ≡ suc (count - (i + 1))
    one_more = omega arith

    pub skips_lost : read_lowered (drop at words) ≡ Fails → TypesSkip words from count None
    skips_lost f n types rest e =
        let l = inv.onto n types rest e in
        let x = types_next n (count - (i + 1)) (drop at words) (rw one_more at l.1) in
        fails_read (sym f ∙ (known_read n (drop at words) x.first).reads)

    pub skips_more : {p : Parts} → Found words at (read_lowered (drop at words)) p → Skips words from count p.next (i + 1)
    skips_more f = record {
      onto = λ n types rest e.
          let l = inv.onto n types rest e in
          let x = types_next n (count - (i + 1)) (drop at words) (rw one_more at l.1) in
          (x.more, rw (same_found f n x.first).stands.left x.others);
    }

  pub skips_end : count ≤ i → TypesSkip words from count (Some at)
  skips_end h n types rest e =
      let l = inv.onto n types rest e in
      let z : count - i ≡ 0 = omega arith in
      skip_to {place = at} (sym (types_none n (drop at words) (rw z at l.1)).1)

-- of types that are read, the place behind them is told
skipped_to : {words rest : List ℕ} {place : ℕ} → SkipTo words rest (Some place) → drop place words ≡ rest
skipped_to (skip_to e) = e

never : {words rest : List ℕ} {A : Type 0} → SkipTo words rest None → A
never s = elim s [ ]

-- ---- `row_place`

pub record Placing (structs : List ℕ) (row at number : ℕ) : Type 0 where
  pub steps : ℕ
  pub items : Items read_row number steps (drop at structs) (drop number (rows_of structs))
  pub below : number ≤ row

pub placing_start : (structs : List ℕ) (row : ℕ) → structs_in_shape structs ≡ true → Placing structs row 0 0
placing_start structs row e = record { steps = length structs; items = items_start read_row structs e; below = omega arith }

module _ {structs : List ℕ} {row at number : ℕ} (inv : Placing structs row at number) (h : row < length (rows_of structs)) where
  pub row_next : NextItem read_row number inv.steps (drop at structs) (row_at (rows_of structs) number)
      (drop (number + 1) (rows_of structs))
  row_next =
      let here : drop number (rows_of structs) ≡ row_at (rows_of structs) number ∷ drop (number + 1) (rows_of structs) =
      rw add-one (drop-cons (rows_of structs) number (row_with 0 []) (omega (arith, inv.below))) in
      items_next read_row number inv.steps (drop at structs) (rw here at inv.items)

  pub placing_parts : RowParts number structs at (row_at (rows_of structs) number) row_next.behind
  placing_parts = row_parts number structs at row_next.first

  pub placing_here : at + 1 < length structs
  placing_here = placing_parts.here

  -- its fields are skipped
  fields_skipped : {r : Option ℕ} → TypesSkip structs (at + 2) (get_or structs (at + 1) 0) r → SkipTo structs row_next.behind r
  fields_skipped f = f number (row_at (rows_of structs) number).fields row_next.behind placing_parts.fields

  pub placing_lost : TypesSkip structs (at + 2) (get_or structs (at + 1) 0) None → RowIs structs row None
  placing_lost f = never (fields_skipped f)

  pub placing_more : number < row → {place : ℕ} → TypesSkip structs (at + 2) (get_or structs (at + 1) 0) (Some place)
      → Placing structs row place (number + 1)
  placing_more l {place} f =
      record {
        steps = inv.steps - 1;
        items = rw (add-one number, skipped_to (fields_skipped f)) (rw (add-one number) at row_next.others);
        below = omega arith;
      }

  pub placing_end : row ≤ number → RowIs structs row (Some at)
  placing_end l =
      let e : number ≡ row = omega (arith, inv.below) in
      row_is {place = at}
      (subst (λ (k : ℕ). RowStands structs k at) e (record { rest = row_next.behind; reads = row_next.first; here = placing_here }))

-- ---- `field_at`

-- one of so many types
types_pick : (n i m : ℕ) (words : List ℕ) (types : List LoweredType) {rest : List ℕ} → read_types n (i + suc m) words ≡ Read types rest
    → (behind : List ℕ) × (after : List ℕ) × (read_types n i words ≡ Read (take i types) behind)
    × (read_known n behind ≡ Read (field_in types i) after)
unfolding read_types
types_pick n zero m words types e =
    let z : 0 + suc m ≡ suc m = omega arith in
    let x = types_next n m words (rw z at e) in
    let q : field_in types 0 ≡ x.type = ap (λ (l : List LoweredType). field_in l 0) x.all in
    (words, x.behind, refl, rw q x.first)
types_pick n (suc i) m words types e =
    let z : suc i + suc m ≡ suc (i + suc m) = omega arith in
    let x = types_next n (i + suc m) words (rw z at e) in
    let r = types_pick n i m x.behind x.more x.others in
    let q : take (suc i) types ≡ x.type ∷ take i x.more = ap (take (suc i)) x.all in
    let p : field_in types (suc i) ≡ field_in x.more i = ap (λ (l : List LoweredType). field_in l (suc i)) x.all in
    (r.0, r.1, rw (x.first, r.2, q), rw p r.3)

field_parts : {structs : List ℕ} {row place : ℕ} (s : RowStands structs row place)
    → RowParts row structs place (row_at (rows_of structs) row) s.rest
field_parts {structs} {row} {place} s = row_parts row structs place s.reads

pub row_told : {structs : List ℕ} {row place : ℕ} → RowIs structs row (Some place) → RowStands structs row place
row_told (row_is s) = s

-- the field asked for is read at a place
pub record FieldStands (structs : List ℕ) (row field at : ℕ) : Type 0 where
  pub after : List ℕ
  pub reads : read_known row (drop at structs) ≡ Read (field_at (rows_of structs) row field) after

pub no_struct : {k : Kind} → (k ≡ Plain) ⊎ ((k ≡ Opaque) ⊎ (k ≡ Slice)) → is_struct k ≡ false
no_struct h = ⊎_elim (λ a. rw a) (λ b. ⊎_elim (λ c. rw c) (λ d. rw d) b) h

module _ {structs : List ℕ} {row field : ℕ} where
  -- what the call says, once it is known which way it came out
  pub field_told : {r s : Option (ℕ × Parts)} → FieldIs structs row field r → r ≡ s → FieldIs structs row field s
  field_told h e = subst (FieldIs structs row field) e h

  pub field_no_row : length (rows_of structs) ≤ row → FieldIs structs row field None
  field_no_row h =
      let d : row_at (rows_of structs) row ≡ row_with 0 [] = get_or-eq_default (rows_of structs) (row_with 0 []) h in
      other (rw d)

  pub field_unplaced : RowIs structs row None → FieldIs structs row field None
  field_unplaced s = elim s [ ]

  module _ {place : ℕ} (r : RowIs structs row (Some place)) where
    pub field_past : get_or structs (place + 1) 0 ≤ field → FieldIs structs row field None
    field_past h =
        let n = types_length row (get_or structs (place + 1) 0) (drop (place + 2) structs) (field_parts (row_told r)).fields in
        let d : field_at (rows_of structs) row field ≡ field_in [] 0 =
        get_or-eq_default (row_at (rows_of structs) row).fields (field_in [] 0) (omega arith) in
        other (rw d)

    module _ (h : field < get_or structs (place + 1) 0) where
      picked : (behind : List ℕ) × (after : List ℕ)
          × (read_types row field (drop (place + 2) structs) ≡ Read (take field (row_at (rows_of structs) row).fields) behind)
          × (read_known row behind ≡ Read (field_at (rows_of structs) row field) after)
      picked =
          let z : get_or structs (place + 1) 0 ≡ field + suc (get_or structs (place + 1) 0 - suc field) = omega arith in
          let e : read_types row (field + suc (get_or structs (place + 1) 0 - suc field)) (drop (place + 2) structs)
          ≡ Read (row_at (rows_of structs) row).fields (row_told r).rest = rw (← z) (field_parts (row_told r)).fields in
          types_pick row field (get_or structs (place + 1) 0 - suc field) (drop (place + 2) structs)
          (row_at (rows_of structs) row).fields e

      skipped_field : {r : Option ℕ} → TypesSkip structs (place + 2) field r → SkipTo structs picked.0 r
      skipped_field f = f row (take field (row_at (rows_of structs) row).fields) picked.0 picked.2

      pub field_unskipped : TypesSkip structs (place + 2) field None → FieldIs structs row field None
      field_unskipped f = never (skipped_field f)

      pub field_stands : {at : ℕ} → TypesSkip structs (place + 2) field (Some at) → FieldStands structs row field at
      field_stands f = record { after = picked.1; reads = rw (skipped_to (skipped_field f)) picked.3 }

  module _ {at : ℕ} (s : FieldStands structs row field at) where
    pub field_lost : read_lowered (drop at structs) ≡ Fails → FieldIs structs row field None
    field_lost e = fails_read (sym e ∙ (known_read row (drop at structs) s.reads).reads)

    module _ {p : Parts} (g : Found structs at (read_lowered (drop at structs)) p) where
      pub field_other : is_struct p.kind ≡ false → FieldIs structs row field None
      field_other e = let t = (same_found g row s.reads).stands in other (rw (← t.kind) e)

      pub field_struct : {inner : ℕ} → p.kind ≡ Struct inner → FieldIs structs row field (Some (inner, p))
      field_struct {inner} e =
          let f = same_found g row s.reads in
          let few : length (field_at (rows_of structs) row field).path ≤ 16 = omega (arith, f.stands.count, f.stands.few) in
          struct (sym f.stands.kind ∙ e) (ltb-true inner row (rw e at f.known)) few f.stands.path

-- ---- `pairs_of`

pairs_few : (declared j : ℕ) (path : List ℕ) → length (pairs_from declared j path) ≤ length path
unfolding numbered
pairs_few declared j [] = omega arith
pairs_few declared j (word ∷ path) =
    go (filled_by declared j (def_from_word word)) (one (def_from_word word)) (pairs_few declared (suc j) path)
  where
    go : (l : List FieldPair) → length l ≤ 1 → length (pairs_from declared (suc j) path) ≤ length path
        → length (l ++ pairs_from declared (suc j) path) ≤ suc (length path)
    go l h k = simp length-append (omega arith)

    two : (b : Bool) (p : FieldPair) → length (cond b (p ∷ []) []) ≤ 1
    two true p = omega arith
    two false p = omega arith

    one : (m : MaybeStatic DefLifetime) → length (filled_by declared j m) ≤ 1
    one Static = omega arith
    one (NonStatic l) = two (ltb l.0 declared) (field_pair j l.0)

abbrev blank : List FieldPair
blank = replicate 16 (field_pair 0 0)

pub record Pairing (path : List ℕ) (declared : ℕ) (pairs : List FieldPair) (n i : ℕ) : Type 0 where
  pub before : n ≤ i
  pub size : length pairs ≡ 16
  pub counts : n + length (pairs_from declared i (drop i path)) ≡ length (pairs_from declared 0 path)
  pub stored : sets pairs n (pairs_from declared i (drop i path)) ≡ sets (replicate 16 (field_pair 0 0)) 0 (pairs_from declared 0 path)

pub pairing_start : (path : List ℕ) (declared : ℕ) {a b : DefLifetime} → a ≡ def_lifetime 0 → b ≡ def_lifetime 0
    → Pairing path declared (replicate 16 (record { def = a; outer = b })) 0 0
pairing_start path declared e f = record { before = omega arith; size = rw length-replicate; counts = zero-add _; stored = rw (e, f) }

-- the next word is linked with a lifetime of the field's definition
pub record Linking (path : List ℕ) (declared : ℕ) (pairs : List FieldPair) (n i : ℕ) (def : DefLifetime)
    (m : MaybeStatic DefLifetime) : Type 0 where
  pub pairing : Pairing path declared pairs n i
  pub inside : i < length path
  pub defines : def ≡ def_lifetime i
  pub word : m ≡ def_from_word (get_or path i 0)

module _ (path : List ℕ) (count : ℕ) (same : length path ≡ count) {i : ℕ}
    {linked : Outcome (Option (ℕ × DefLifetime))} (e : linked ≡ linked_pair path count i) (h : i < count) where
  pub linking : {declared : ℕ} {pairs : List FieldPair} {n : ℕ} → Pairing path declared pairs n i
      → {o : Option (ℕ × DefLifetime)} → linked ≡ Ok o → {word : ℕ} {def : DefLifetime} → o ≡ Some (word, def)
      → {m : MaybeStatic DefLifetime} → m ≡ def_from_word word → Linking path declared pairs n i def m
  linking inv t {word} {def} s q =
      let pair : linked ≡ Ok (Some (word, def)) = t ∙ rw s in
      let told = pair_told path count same i h e pair in
      record { pairing = inv; inside = omega arith; defines = told.1; word = q ∙ rw told.0 }

  -- the link is not refused, and its pair is there
  pub never_refused : {B : Type 0} → ((o : Option (ℕ × DefLifetime)) → linked ≡ Ok o → ⊥) → B
  never_refused f = pair_only path count same i h e (λ word def q. f (Some (word, def)) q)

  pub never_past : {B : Type 0} {o : Option (ℕ × DefLifetime)} → linked ≡ Ok o
      → ((p : ℕ × DefLifetime) → o ≡ Some p → ⊥) → B
  never_past t f = pair_only path count same i h e (λ word def q. f (word, def) (let z = sym t ∙ q in cc z))

module _ {path : List ℕ} {declared : ℕ} {pairs : List FieldPair} {n i : ℕ} {def : DefLifetime} {m : MaybeStatic DefLifetime}
    (l : Linking path declared pairs n i def m) where
  abbrev inv : Pairing path declared pairs n i
  inv = l.pairing

  here : pairs_from declared i (drop i path) ≡ filled_by declared i m ++ pairs_from declared (i + 1) (drop (i + 1) path)
  unfolding numbered
  here = rw (l.word, add-one i, drop-cons path i 0 l.inside)

  skipped : filled_by declared i m ≡ [] → Pairing path declared pairs n (i + 1)
  skipped e =
      let s : pairs_from declared i (drop i path) ≡ pairs_from declared (i + 1) (drop (i + 1) path) = here ∙ rw e in
      record {
        before = omega (arith, inv.before);
        size = inv.size;
        counts = rw (← s) inv.counts;
        stored = rw (← s) inv.stored;
      }

  pub pairing_static : m ≡ Static → Pairing path declared pairs n (i + 1)
  pairing_static e = skipped (rw e)

  module _ {outer : DefLifetime} (e : m ≡ NonStatic outer) where
    pub pairing_past : declared ≤ outer.0 → Pairing path declared pairs n (i + 1)
    pairing_past h = skipped (rw (e, le-ltb outer.0 declared h))

    pub pairing_more : outer.0 < declared → Pairing path declared (set pairs n (record { def = def; outer = outer })) (n + 1) (i + 1)
    pairing_more h =
        let s : pairs_from declared i (drop i path) ≡ field_pair i outer.0 ∷ pairs_from declared (i + 1)
        (drop (i + 1) path) = here ∙ rw (e, lt-ltb outer.0 declared h) in
        let c : n + suc (length (pairs_from declared (i + 1) (drop (i + 1) path))) ≡ length (pairs_from declared 0 path) =
        rw s at inv.counts in
        record {
          before = omega (arith, inv.before);
          size = length-set pairs n (record { def = def; outer = outer }) ∙ inv.size;
          counts = omega arith;
          stored = rw (l.defines, add-one n) (rw s at inv.stored);
        }

module _ {path : List ℕ} {declared : ℕ} {pairs : List FieldPair} {n i : ℕ} (inv : Pairing path declared pairs n i) where
  all_stored : length path ≤ 16 → length path ≤ i → (n ≡ length (pairs_from declared 0 path))
      × (pairs ≡ placed (pairs_from declared 0 path))
  unfolding numbered
  all_stored few h =
      let z : drop i path ≡ [] = drop_of_length-le path {i = i} h in
      let c : n + 0 ≡ length (pairs_from declared 0 path) = rw z at inv.counts in
      let s : pairs ≡ sets (replicate 16 (field_pair 0 0)) 0 (pairs_from declared 0 path) = rw z at inv.stored in
      let l : length (pairs_from declared 0 path) ≤ 16 = omega (arith, pairs_few declared 0 path) in (
        omega arith,
        s ∙ sets-eq (pairs_from declared 0 path) (replicate 16 (field_pair 0 0)) 0 (rw (length-replicate, zero-add) l)
            ∙ rw (zero-add, drop_replicate (length (pairs_from declared 0 path)) 16 (field_pair 0 0)),
      )

  module _ (few : length path ≤ 16) (h : length path ≤ i) where
    pub pairing_none : n ≡ 0 → None ≡ given_pairs (pairs_from declared 0 path)
    pairing_none e = go (pairs_from declared 0 path) (sym (all_stored few h).0 ∙ e)
      where
        go : (l : List FieldPair) → length l ≡ 0 → None ≡ given_pairs l
        go [] e = refl
        go (p ∷ l) e = absurd (omega arith)

    pub pairing_some : (n ≡ 0 → ⊥) → Some (record { count = n; pairs = pairs }) ≡ given_pairs (pairs_from declared 0 path)
    pairing_some e = let s = all_stored few h in go (pairs_from declared 0 path) s.0 s.1
      where
        go : (l : List FieldPair) → n ≡ length l → pairs ≡ placed l → Some (record { count = n; pairs = pairs }) ≡ given_pairs l
        go [] k q = absurd (e k)
        go (p ∷ l) k q = rw (k, q)

-- ---- a field of rows that were accepted: its words are as many as the lifetimes of its definition

type_linked : (rows : List Row) (types : List LoweredType) (j : ℕ) → NoneDue (type_checks rows types)
    → misfits rows (field_in types j) ≡ false
type_linked rows [] j n = refl
type_linked rows (t ∷ types) zero n = none_first n
type_linked rows (t ∷ types) (suc j) n = type_linked rows types j (none_rest n)

row_linked : (rows : List Row) (number : ℕ) (more : List Row) (k : ℕ) → NoneDue (row_checks rows number more)
    → NoneDue (type_checks rows (row_at more k).fields)
unfolding numbered
row_linked rows number [] k n = end
row_linked rows number (row ∷ more) zero n =
    (none_split (type_checks rows row.fields) (row_checks rows (suc number) more) (none_rest n)).0
row_linked rows number (row ∷ more) (suc k) n =
    row_linked rows (suc number) more k
    (none_split (type_checks rows row.fields) (row_checks rows (suc number) more) (none_rest n)).1

fits_linked : (rows : List Row) (t : LoweredType) {inner : ℕ} → t.kind ≡ Struct inner → misfits rows t ≡ false
    → length t.path ≡ (row_at rows inner).lifetimes
fits_linked rows t {inner} e h =
    let m : not (eqb (length t.path) (row_at rows inner).lifetimes) ≡ false = rw e at h in
    eqb-true (length t.path) (row_at rows inner).lifetimes (not-false (eqb (length t.path) (row_at rows inner).lifetimes) m)

-- ---- the ways out

module _ (structs : List ℕ) (row field : ℕ) where
  pub compute_torn : {r : Refusal} → Err r ≡ how_many (structs_in_shape structs) (rows_of structs)
      → Err r ≡ over given_pairs (field_pairs structs row field)
  unfolding field_pairs unless
  compute_torn q = let t = refused_shape (structs_in_shape structs) (rows_of structs) q in rw (t.0, t.1)

  module _ {rows : ℕ} (q : Ok rows ≡ how_many (structs_in_shape structs) (rows_of structs)) where
    pub in_order : (structs_in_shape structs ≡ true) × (length (rows_of structs) ≡ rows)
    in_order = counted_shape (structs_in_shape structs) (rows_of structs) q

    pub compute_other : FieldIs structs row field None → Err Malformed ≡ over given_pairs (field_pairs structs row field)
    unfolding field_pairs unless
    compute_other (other h) = rw (in_order.0, h)

    module _ {inner : ℕ} {p : Parts} (asked : FieldIs structs row field (Some (inner, p))) where
      asked_struct : ((field_at (rows_of structs) row field).kind ≡ Struct inner) × (inner < row)
          × (length (field_at (rows_of structs) row field).path ≤ 16)
          × (take p.count (drop p.from structs) ≡ (field_at (rows_of structs) row field).path)
      asked_struct = go asked
        where
          go : FieldIs structs row field (Some (inner, p)) → ((field_at (rows_of structs) row field).kind ≡ Struct inner)
              × (inner < row) × (length (field_at (rows_of structs) row field).path ≤ 16)
              × (take p.count (drop p.from structs) ≡ (field_at (rows_of structs) row field).path)
          go (struct a b c d) = (a, b, c, d)

      -- there are rows as far as the one asked for
      asked_row : row < length (rows_of structs)
      asked_row = go (ltb row (length (rows_of structs))) refl
        where
          go : (b : Bool) → ltb row (length (rows_of structs)) ≡ b → row < length (rows_of structs)
          go true b = ltb-true row (length (rows_of structs)) b
          go false b =
              let d : row_at (rows_of structs) row ≡ row_with 0 [] =
              get_or-eq_default (rows_of structs) (row_with 0 []) (ltb-false row (length (rows_of structs)) b) in
              let plain : is_struct (field_at (rows_of structs) row field).kind ≡ false = rw d in
              let is : is_struct (field_at (rows_of structs) row field).kind ≡ true = rw asked_struct.0 in
              passed (sym plain ∙ is)

      fine : not (structs_in_shape structs && is_struct (field_at (rows_of structs) row field).kind) ≡ false
      fine = rw (in_order.0, asked_struct.0)

      module _ {lifetimes : List ℕ} where
        pub compute_refused : {s : Refusal} → Indexes structs lifetimes (Err s)
            → Err s ≡ over given_pairs (field_pairs structs row field)
        unfolding field_pairs
        compute_refused {s} x =
            let due : FirstDue s (field_checks structs row field) =
            later fine (refused_first (tt {0}) s (row_checks (rows_of structs) 0 (rows_of structs)) (sym x.verdict)) in
            rw (due_refused (pairs_from (row_at (rows_of structs) row).lifetimes 0 (field_at (rows_of structs) row field).path) due)

        module _ (x : Indexes structs lifetimes (Ok (tt {0}))) where
          pub few_rows : (row < 32) × (inner < 32)
          few_rows = (omega (arith, asked_row, x.few refl), omega (arith, asked_row, asked_struct.1, x.few refl))

          rows_none : NoneDue (row_checks (rows_of structs) 0 (rows_of structs))
          rows_none = accepted_none (tt {0}) (row_checks (rows_of structs) 0 (rows_of structs)) (sym x.verdict)

          module _ {path : List ℕ} (lent : path ≡ take p.count (drop p.from structs)) where
            pub path_linked : (length path ≡ get_or lifetimes inner 0) × (get_or lifetimes inner 0 ≤ 16)
            path_linked =
                let l : length (field_at (rows_of structs) row field).path ≡ (row_at (rows_of structs) inner).lifetimes =
                fits_linked (rows_of structs) (field_at (rows_of structs) row field) asked_struct.0
                (type_linked (rows_of structs) (row_at (rows_of structs) row).fields field
                (row_linked (rows_of structs) 0 (rows_of structs) row rows_none)) in
                let d : get_or lifetimes inner 0 ≡ (row_at (rows_of structs) inner).lifetimes =
                x.holding refl inner (omega (arith, asked_row, asked_struct.1)) in
                (ap length (lent ∙ asked_struct.3) ∙ l ∙ sym d, omega (arith, asked_struct.2))

            pub compute_given : {r : Option FieldLifetimes} → r ≡ given_pairs (pairs_from (get_or lifetimes row 0) 0 path)
                → Ok r ≡ over given_pairs (field_pairs structs row field)
            unfolding field_pairs
            compute_given g =
                let none : NoneDue (field_checks structs row field) = next fine rows_none in
                rw (
                  due_given (pairs_from (row_at (rows_of structs) row).lifetimes 0
                      (field_at (rows_of structs) row field).path) none,
                  g,
                  x.holding refl row asked_row,
                  lent,
                  asked_struct.3,
                )
