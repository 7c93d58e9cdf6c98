-- The lifetimes of the output, put into a set one after another.
use Rattle.std.specs.Prelude.{Some, None, Option}
use Prim.Native.Nat.{ℕ, suc, ◌+◌, ◌-◌, ◌≤◌, ◌<◌}
use mathlib.Core.Bool.{cond}
use mathlib.Core.Path.{◌≡◌, refl, sym, ◌∙◌}
use mathlib.Core.List.{List, [], ◌∷◌, ◌++◌, map, flat_map, filter_map, filter_map-append}
use native.Mathlib.Numerals.{add-one}
use native.Mathlib.Omega.{arith}
use lib.Dec.{ltb}
use lib.ListN.{length, get_or, take, drop, drop_of_length-le}
use lib.Seq.{drop-cons}
use borrow.Author.Tests.{le-leb, lt-leb, lt-ltb}
use Rattle.lifetimes.specs.declared.lifetime.Lifetime.{Lifetime}
use Rattle.lifetimes.specs.declared.maybe_static.MaybeStatic.{MaybeStatic}
use Rattle.lifetimes.specs.declared.maybe_static.MaybeStatic.TheVariants.{Static, NonStatic}
use Rattle.lifetimes.specs.LoweredWords.{from_word}
use Rattle.lifetimes.specs.Sets.{insert, insert_all}
use Rattle.lifetimes.proofs.SetLaws.{insert_all_append}
use Rattle.records.specs.Reading.{Read, Fails}
use Rattle.hir_types.specs.declared.types.Own.{Own}
use Rattle.hir_types.specs.declared.types.Parts.{Parts}
use Rattle.hir_types.specs.LoweredTypes.{LoweredType, read_lowered, own_lifetimes, lifetimes_of, own_lifetime}
use Rattle.hir_types.proofs.LifetimeLaws.{own_one, own_none}
use Rattle.hir_types.specs.Rows.{read_known, read_types}
use Rattle.hir_types.proofs.FoundLaws.{Found}
use Rattle.methods.specs.Method.{is_past}
use Rattle.methods.specs.Used.{number}
use Rattle.methods.specs.Inner.{CollectIs, within, past, TypesCollect}
use Rattle.records.proofs.ReadingLaws.{fails_read}
use Rattle.methods.proofs.PassLaws.{known_read, same_found, Next, types_next, types_none}
use Rattle.answers.specs.Lists.{any}
use Rattle.answers.proofs.ListLaws.{any_append}

-- ---- one list after another

pub collect_then : {count s t : ℕ} {l m : List (MaybeStatic Lifetime)} {r : Option ℕ} → CollectIs count s l (Some t)
    → CollectIs count t m r → CollectIs count s (l ++ m) r
collect_then {count} {s} {t} {l} {m} (within h e) (within {more = all} k f) =
    within {more = all} (rw (any_append (is_past count) l m, h) k) (rw (filter_map-append number l m, insert_all_append, ← e) f)
collect_then {count} {s} {t} {l} {m} (within h e) (past k) = past (rw (any_append (is_past count) l m, h) k)

pub collect_stops : {count s : ℕ} {l : List (MaybeStatic Lifetime)} (m : List (MaybeStatic Lifetime)) → CollectIs count s l None
    → CollectIs count s (l ++ m) None
collect_stops {count} {s} {l} m (past h) = past (rw (any_append (is_past count) l m, h))

pub collect_none : (count s : ℕ) → CollectIs count s [] (Some s)
unfolding filter_map insert_all any
collect_none count s = within refl refl

-- ---- one lifetime

module _ (count s : ℕ) where
  pub collect_static : {m : MaybeStatic Lifetime} → m ≡ Static → CollectIs count s (m ∷ []) (Some s)
  unfolding filter_map insert_all any
  collect_static e = rw e (within refl refl)

  module _ {m : MaybeStatic Lifetime} {l : Lifetime} (e : m ≡ NonStatic l) where
    pub collect_past : count ≤ l.0 → CollectIs count s (m ∷ []) None
    unfolding any
    collect_past h = rw e (past (rw (le-leb count l.0 h)))

    pub collect_one : count ≤ 64 → l.0 < count → {t : ℕ} → t ≡ cond (ltb l.0 64) (insert s l.0) s
        → CollectIs count s (m ∷ []) (Some t)
    unfolding filter_map insert_all any
    collect_one few h q = rw e (within (rw (lt-leb count l.0 h)) (q ∙ rw (lt-ltb l.0 64 (omega arith))))

-- ---- a type's own lifetime

module _ (count s : ℕ) (o : Own) {e : Option (MaybeStatic Lifetime)} (q : e ≡ own_lifetime o) where
  pub own_collected : {m : MaybeStatic Lifetime} → e ≡ Some m → {r : Option ℕ} → CollectIs count s (m ∷ []) r
      → CollectIs count s (own_lifetimes o) r
  own_collected k h = rw (own_one o q k) h

  pub own_absent : e ≡ None → CollectIs count s (own_lifetimes o) (Some s)
  own_absent k = rw (own_none o q k) (collect_none count s)

-- ---- path words: what is left to put in, put in from here, gives what all gives

pub record Pathing (path : List ℕ) (count before used i : ℕ) : Type 0 where
  pub onto : (r : Option ℕ) → CollectIs count used (map from_word (drop i path)) r
      → CollectIs count before (map from_word path) r

pub pathing_start : (path : List ℕ) (count before : ℕ) → Pathing path count before before 0
pathing_start path count before = record { onto = λ r h. h }

module _ {path : List ℕ} {count before used i : ℕ} (inv : Pathing path count before used i) where
  module _ (h : i < length path) {m : MaybeStatic Lifetime} (e : m ≡ from_word (get_or path i 0)) where
    path_next : map from_word (drop i path) ≡ m ∷ map from_word (drop (i + 1) path)
    path_next = rw (drop-cons path i 0 h, add-one, e)

    pub pathing_stops : CollectIs count used (m ∷ []) None → CollectIs count before (map from_word path) None
    pathing_stops k = inv.onto None (rw path_next (collect_stops (map from_word (drop (i + 1) path)) k))

    pub pathing_more : {next : ℕ} → CollectIs count used (m ∷ []) (Some next) → Pathing path count before next (i + 1)
    pathing_more k = record { onto = λ r l. inv.onto r (rw path_next (collect_then k l)) }

  pub pathing_end : length path ≤ i → CollectIs count before (map from_word path) (Some used)
  pathing_end h = inv.onto (Some used) (rw (drop_of_length-le path {i = i} h) (collect_none count used))

-- ---- types

-- the types that are left, for types that were read
pub record Rest (words : List ℕ) (types count at used i n : ℕ) (ts : List LoweredType) (rest : List ℕ) : Type 0 where
  pub left : List LoweredType
  pub reads : read_types n (types - i) (drop at words) ≡ Read left rest
  pub onto : (r : Option ℕ) → CollectIs count used (flat_map lifetimes_of left) r → CollectIs count 0 (flat_map lifetimes_of ts) r

pub record Collecting (words : List ℕ) (types count at used i : ℕ) : Type 0 where
  pub each : (n : ℕ) (ts : List LoweredType) (rest : List ℕ) → read_types n types (drop 0 words) ≡ Read ts rest
      → Rest words types count at used i n ts rest

pub collecting_start : (words : List ℕ) (types count : ℕ) → Collecting words types count 0 0 0
collecting_start words types count = record {
  each = λ n ts rest e. let z : types - 0 ≡ types = omega arith in record { left = ts; reads = rw z e; onto = λ r h. h };
}

module _ {words : List ℕ} {types count at used i : ℕ} (inv : Collecting words types count at used i) where
  module _ (h : i < types) where
    next_type : {n : ℕ} {ts : List LoweredType} {rest : List ℕ} (l : Rest words types count at used i n ts rest)
        → Next n (types - (i + 1)) (drop at words) l.left rest
    next_type {n} l = let z : types - i ≡ suc (types - (i + 1)) = omega arith in
        types_next n (types - (i + 1)) (drop at words) (rw z at l.reads)

    pub collecting_lost : read_lowered (drop at words) ≡ Fails → TypesCollect words 0 types count 0 None
    collecting_lost f n ts rest e =
        let l = inv.each n ts rest e in
        let x = next_type l in
        fails_read (sym f ∙ (known_read n (drop at words) x.first).reads)

  pub collecting_end : types ≤ i → TypesCollect words 0 types count 0 (Some used)
  unfolding flat_map
  collecting_end h n ts rest e =
      let l = inv.each n ts rest e in
      let z : types - i ≡ 0 = omega arith in
      let none = types_none n (drop at words) (rw z at l.reads) in
      l.onto (Some used) (rw none.0 (collect_none count used))

-- one more type is there
pub record Reading (words : List ℕ) (types count at used i : ℕ) (p : Parts) : Type 0 where
  pub collecting : Collecting words types count at used i
  pub left : i < types
  pub found : Found words at (read_lowered (drop at words)) p

pub reading : {words : List ℕ} {types count at used i : ℕ} {p : Parts} → Collecting words types count at used i → i < types
    → Found words at (read_lowered (drop at words)) p → Reading words types count at used i p
reading inv h f = record { collecting = inv; left = h; found = f }

module _ {words : List ℕ} {types count at used i : ℕ} {p : Parts} (t : Reading words types count at used i p)
    {path : List ℕ} (lent : path ≡ take p.count (drop p.from words)) where
  pub collecting_past : CollectIs count used (map from_word path) None → TypesCollect words 0 types count 0 None
  unfolding flat_map
  collecting_past k n ts rest e =
      let l = t.collecting.each n ts rest e in
      let x = next_type t.collecting t.left l in
      let s = (same_found t.found n x.first).stands in
      let here : CollectIs count used (map from_word x.type.path) None = rw (lent, s.path) at k in
      let type : CollectIs count used (lifetimes_of x.type) None = collect_stops (own_lifetimes x.type.own) here in
      l.onto None (rw x.all (collect_stops (flat_map lifetimes_of x.more) type))

  module _ {more : ℕ} (k : CollectIs count used (map from_word path) (Some more)) where
    whole : (n : ℕ) {t₁ : LoweredType} {behind : List ℕ} {r : Option ℕ} → CollectIs count more (own_lifetimes p.own) r
        → read_known n (drop at words) ≡ Read t₁ behind → CollectIs count used (lifetimes_of t₁) r
    whole n {t₁} {behind} {r} own e =
        let s = (same_found t.found n e).stands in
        let here : CollectIs count used (map from_word t₁.path) (Some more) = rw (lent, s.path) at k in
        let mine : CollectIs count more (own_lifetimes t₁.own) r = rw s.own at own in
        collect_then here mine

    pub collecting_own : CollectIs count more (own_lifetimes p.own) None → TypesCollect words 0 types count 0 None
    unfolding flat_map
    collecting_own own n ts rest e =
        let l = t.collecting.each n ts rest e in
        let x = next_type t.collecting t.left l in
        l.onto None (rw x.all (collect_stops (flat_map lifetimes_of x.more) (whole n own x.first)))

    pub collecting_more : {all : ℕ} → CollectIs count more (own_lifetimes p.own) (Some all)
        → Collecting words types count p.next all (i + 1)
    unfolding flat_map
    collecting_more own = record {
      each = λ n ts rest e.
          let l = t.collecting.each n ts rest e in
          let x = next_type t.collecting t.left l in
          let s = (same_found t.found n x.first).stands in
          record {
            left = x.more;
            reads = rw s.left x.others;
            onto = λ r m. l.onto r (rw x.all (collect_then (whole n own x.first) m));
          };
    }
