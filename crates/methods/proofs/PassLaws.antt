-- A second pass over what was read: what stands in front, and what is left, of types and of the items of a record.
use Prim.Native.Nat.{ℕ, zero, suc, ◌+◌, ◌-◌, ◌≤◌, ◌<◌}
use mathlib.Core.Bool.{Bool, true, false, cond, ◌&&◌, and-eq-true_iff}
use mathlib.Core.Path.{◌≡◌, refl, sym, ap, ◌∙◌}
use mathlib.Core.List.{List, [], ◌∷◌}
use native.Mathlib.Numerals.{sub-one, add-one}
use native.Mathlib.Omega.{arith}
use lib.Dec.{leb}
use lib.ListN.{length, get_or, take, drop, length-drop}
use lib.Seq.{drop-cons}
use borrow.Author.Tests.{leb-true}
use Rattle.records.specs.Reading.{Reading, Read, Fails, onward, is_read, read_or, read_word, read_all, in_shape, items_of}
use Rattle.records.specs.Reading.{few_words}
use Rattle.hir_types.specs.declared.types.Parts.{Parts}
use Rattle.hir_types.specs.LoweredTypes.{LoweredType, read_lowered, knows}
use Rattle.hir_types.specs.Rows.{Row, row_with, read_known, read_types, read_row}
use Rattle.hir_types.proofs.FoundLaws.{Found}
use Rattle.records.proofs.ReadingLaws.{passed, fails_read}
use Rattle.hir_types.specs.Places.{Stands}

-- one reading after another: both were read
pub record Both {A B : Type 0} (r : Reading A) (next : A → List ℕ → Reading B) (b : B) (rest : List ℕ) : Type 0 where
  pub one : A
  pub behind : List ℕ
  pub first : r ≡ Read one behind
  pub second : next one behind ≡ Read b rest

pub both_read : {A B : Type 0} (r : Reading A) (next : A → List ℕ → Reading B) {b : B} {rest : List ℕ}
    → onward r next ≡ Read b rest → Both r next b rest
both_read (Read a behind) next e = record { one = a; behind = behind; first = refl; second = e }
both_read Fails next e = fails_read e

-- a test in between that was passed
pub record Tested {A : Type 0} (t : Bool) (r : Reading A) (a : A) (rest : List ℕ) : Type 0 where
  pub passes : t ≡ true
  pub reads : r ≡ Read a rest

pub test_read : {A : Type 0} (t : Bool) (r : Reading A) {a : A} {rest : List ℕ} → cond t r Fails ≡ Read a rest → Tested t r a rest
test_read true r e = record { passes = refl; reads = e }
test_read false r e = fails_read e

-- ---- a type whose row is known

pub record Known (n : ℕ) (words : List ℕ) (t : LoweredType) (rest : List ℕ) : Type 0 where
  pub reads : read_lowered words ≡ Read t rest
  pub known : knows n t.kind ≡ true

pub known_read : (n : ℕ) (words : List ℕ) {t : LoweredType} {rest : List ℕ} → read_known n words ≡ Read t rest → Known n words t rest
unfolding read_known
known_read n words {t} {rest} e =
    let b = both_read (read_lowered words) (λ u behind. cond (knows n u.kind) (Read u behind) Fails) e in
    let k = test_read (knows n b.one.kind) (Read b.one b.behind) b.second in
    let same : b.one ≡ t = cc k.reads in
    let left : b.behind ≡ rest = cc k.reads in
    record { reads = b.first ∙ rw (same, left); known = rw same at k.passes }

-- the type that a call found is the one that was read
pub record Same (words : List ℕ) (at n : ℕ) (t : LoweredType) (rest : List ℕ) (p : Parts) : Type 0 where
  pub stands : Stands words at t rest p
  pub known : knows n p.kind ≡ true

pub same_found : {words : List ℕ} {at : ℕ} {p : Parts} (f : Found words at (read_lowered (drop at words)) p) (n : ℕ)
    {t : LoweredType} {rest : List ℕ} → read_known n (drop at words) ≡ Read t rest
    → Same words at n t rest p
same_found {words} {at} {p} f n {t} {rest} e =
    let k = known_read n (drop at words) e in
    let q : Read f.type f.rest ≡ Read t rest = sym f.reads ∙ k.reads in
    let same : f.type ≡ t = cc in
    let left : f.rest ≡ rest = cc in
    let s : Stands words at t rest p = rw (same, left) at f.stands in
    record { stands = s; known = rw s.kind k.known }

-- ---- so many types

pub record Next (n m : ℕ) (words : List ℕ) (types : List LoweredType) (rest : List ℕ) : Type 0 where
  pub type : LoweredType
  pub more : List LoweredType
  pub behind : List ℕ
  pub first : read_known n words ≡ Read type behind
  pub others : read_types n m behind ≡ Read more rest
  pub all : types ≡ type ∷ more

pub types_next : (n m : ℕ) (words : List ℕ) {types : List LoweredType} {rest : List ℕ}
    → read_types n (suc m) words ≡ Read types rest → Next n m words types rest
unfolding read_types
types_next n m words {types} {rest} e =
    let b = both_read (read_known n words) (λ t behind. onward (read_types n m behind) (λ ts end. Read (t ∷ ts) end)) e in
    let d = both_read (read_types n m b.behind) (λ ts end. Read (b.one ∷ ts) end) b.second in
    let left : d.behind ≡ rest = cc d.second in
    record { type = b.one; more = d.one; behind = b.behind; first = b.first; others = d.first ∙ rw left; all = cc d.second }

pub types_none : (n : ℕ) (words : List ℕ) {types : List LoweredType} {rest : List ℕ}
    → read_types n 0 words ≡ Read types rest → (types ≡ []) × (rest ≡ words)
unfolding read_types
types_none n words e = (cc, cc)

-- ---- the items of a record in shape

pub record Items {A : Type 0} (item : ℕ → List ℕ → Reading A) (number steps : ℕ) (words : List ℕ) (items : List A) : Type 0 where
  pub end : List ℕ
  pub reads : read_all item number steps words ≡ Read items end

pub items_start : {A : Type 0} (item : ℕ → List ℕ → Reading A) (words : List ℕ) → in_shape item words ≡ true
    → Items item 0 (length words) words (items_of item words)
unfolding in_shape items_of
items_start {A} item words e =
    go (read_all item 0 (length words) words) refl ((and-eq-true_iff (few_words words) _).0 e).1
  where
    go : (r : Reading (List A)) → read_all item 0 (length words) words ≡ r → is_read r ≡ true
        → Items item 0 (length words) words (read_or [] (read_all item 0 (length words) words))
    go (Read items end) q h = record { end = end; reads = rw q }
    go Fails q h = passed h

pub record NextItem {A : Type 0} (item : ℕ → List ℕ → Reading A) (number steps : ℕ) (words : List ℕ) (a : A)
    (more : List A) : Type 0 where
  pub behind : List ℕ
  pub first : item number words ≡ Read a behind
  pub others : Items item (suc number) (steps - 1) behind more
  pub some : 0 < length words

pub items_next : {A : Type 0} (item : ℕ → List ℕ → Reading A) (number steps : ℕ) (words : List ℕ) {a : A}
    {more : List A} → Items item number steps words (a ∷ more)
    → NextItem item number steps words a more
unfolding read_all
items_next item number zero [] i = let z : ◌≡◌ {A = ℕ} 0 1 = cc i.reads in absurd (omega arith)
items_next item number zero (word ∷ words) i = fails_read i.reads
items_next item number (suc steps) [] i = let z : ◌≡◌ {A = ℕ} 0 1 = cc i.reads in absurd (omega arith)
items_next item number (suc steps) (word ∷ words) {a} {more} i =
    let b = both_read (item number (word ∷ words))
    (λ x behind. onward (read_all item (suc number) steps behind) (λ items end. Read (x ∷ items) end)) i.reads in
    let d = both_read (read_all item (suc number) steps b.behind) (λ items end. Read (b.one ∷ items) end) b.second in
    let same : b.one ≡ a = cc d.second in
    let left : d.one ≡ more = cc d.second in
    record {
      behind = b.behind;
      first = b.first ∙ rw same;
      others = record { end = d.behind; reads = rw sub-one (d.first ∙ rw left) };
      some = omega arith;
    }

-- the types of a record in shape are so many types
pub items_types : (n number steps : ℕ) (words : List ℕ) (types : List LoweredType)
    → Items (λ number. read_known n) number steps words types
    → (rest : List ℕ) × (read_types n (length types) words ≡ Read types rest)
unfolding read_types
items_types n number steps words [] i = (words, refl)
items_types n number steps words (t ∷ types) i =
    let x = items_next (λ number. read_known n) number steps words i in
    let r = items_types n (suc number) (steps - 1) x.behind types x.others in
    (r.0, rw (x.first, r.1))

pub types_length : (n m : ℕ) (words : List ℕ) {types : List LoweredType} {rest : List ℕ}
    → read_types n m words ≡ Read types rest → length types ≡ m
types_length n zero words e = ap length (types_none n words e).0
types_length n (suc m) words e = let x = types_next n m words e in
    ap length x.all ∙ ap suc (types_length n m x.behind x.others)

-- the first of so many types
pub types_first : (n k m : ℕ) (words : List ℕ) (types : List LoweredType) {rest : List ℕ}
    → read_types n (k + m) words ≡ Read types rest
    → (behind : List ℕ) × (read_types n k words ≡ Read (take k types) behind)
unfolding read_types
types_first n zero m words types e = (words, refl)
types_first n (suc k) m words types e =
    let z : suc k + m ≡ suc (k + m) = omega arith in
    let x = types_next n (k + m) words (rw z at e) in
    let r = types_first n k m x.behind x.more x.others in
    let q : take (suc k) types ≡ x.type ∷ take k x.more = ap (take (suc k)) x.all in
    (r.0, rw (x.first, r.1, q))

-- ---- a row

pub record RowParts (number : ℕ) (structs : List ℕ) (place : ℕ) (row : Row) (rest : List ℕ) : Type 0 where
  pub here : place + 1 < length structs
  pub few : get_or structs (place + 1) 0 ≤ 16
  pub lifetimes : row.lifetimes ≡ get_or structs place 0
  pub fields : read_types number (get_or structs (place + 1) 0) (drop (place + 2) structs) ≡ Read row.fields rest

few_fields : {n m : ℕ} → n ≡ m → n ≤ 16 → m ≤ 16
few_fields e h = rw (← e) h

moved : (number : ℕ) {n m : ℕ} {words other : List ℕ} {types fields : List LoweredType} {behind rest : List ℕ} → n ≡ m
    → words ≡ other → types ≡ fields → behind ≡ rest
    → read_types number n words ≡ Read types behind → read_types number m other ≡ Read fields rest
moved number a b c d e = rw (← a, ← b, ← c, ← d) e

pub row_parts : (number : ℕ) (structs : List ℕ) (place : ℕ) {row : Row} {rest : List ℕ}
    → read_row number (drop place structs) ≡ Read row rest → RowParts number structs place row rest
unfolding read_row
row_parts number structs place {row} {rest} e =
    let b = both_read (read_word (drop place structs)) (λ d behind.
    onward (read_word behind) (λ n fields.
    cond (leb d 16 && leb n 16) (onward (read_types number n fields) (λ ts end. Read (row_with d ts) end)) Fails)) e in
    let c = both_read (read_word b.behind)
    (λ n fields. cond (leb b.one 16 && leb n 16)
    (onward (read_types number n fields) (λ ts end. Read (row_with b.one ts) end)) Fails) b.second in
    let t = test_read (leb b.one 16 && leb c.one 16)
    (onward (read_types number c.one c.behind) (λ ts end. Read (row_with b.one ts) end)) c.second in
    let f = both_read (read_types number c.one c.behind) (λ ts end. Read (row_with b.one ts) end) t.reads in
    let w₁ : drop place structs ≡ b.one ∷ b.behind = word_read (drop place structs) b.first in
    let w₂ : b.behind ≡ c.one ∷ c.behind = word_read b.behind c.first in
    let size : length structs - place ≡ suc (suc (length c.behind)) =
    let w : drop place structs ≡ b.one ∷ c.one ∷ c.behind = rw (← w₂) w₁ in rw length-drop at (ap length w) in
    let k₁ : drop place structs ≡ get_or structs place 0 ∷ drop (place + 1) structs =
    rw add-one (drop-cons structs place 0 (omega arith)) in
    let q₁ : b.one ∷ b.behind ≡ get_or structs place 0 ∷ drop (place + 1) structs = sym w₁ ∙ k₁ in
    let m : b.behind ≡ drop (place + 1) structs = cc in
    let k₂ : drop (place + 1) structs ≡ get_or structs (place + 1) 0 ∷ drop (place + 2) structs =
    let two : place + 2 ≡ suc (place + 1) = omega arith in rw two (drop-cons structs (place + 1) 0 (omega arith)) in
    let q₂ : c.one ∷ c.behind ≡ get_or structs (place + 1) 0 ∷ drop (place + 2) structs = sym w₂ ∙ m ∙ k₂ in
    let e₁ : b.one ≡ get_or structs place 0 = cc in
    let e₂ : c.one ≡ get_or structs (place + 1) 0 = cc in
    let e₃ : c.behind ≡ drop (place + 2) structs = cc in
    let made : row_with b.one f.one ≡ row = cc f.second in
    let left : f.behind ≡ rest = cc f.second in
    record {
      here = omega arith;
      few = few_fields e₂ (leb-true c.one 16 ((and-eq-true_iff (leb b.one 16) _).0 t.passes).1);
      lifetimes = sym (ap (λ (r : Row). r.lifetimes) made) ∙ e₁;
      fields = moved number e₂ e₃ (ap (λ (r : Row). r.fields) made) left f.first;
    }
  where
    word_read : (words : List ℕ) {w : ℕ} {behind : List ℕ} → read_word words ≡ Read w behind → words ≡ w ∷ behind
    word_read [] e = fails_read e
    word_read (v ∷ words) e = cc
