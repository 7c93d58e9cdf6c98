-- Storing edges behind others: what is left, stored from here, gives what all gives from the start; the used lifetimes
-- one after another; one edge; the edges of a struct.
use Prim.Native.Nat.{ℕ, zero, suc, ◌+◌, ◌-◌, ◌*◌, ◌^◌, ◌≤◌, ◌<◌}
use mathlib.Core.Bool.{Bool, true, false, cond}
use mathlib.Core.Path.{◌≡◌, refl, sym, ap, ◌∙◌}
use mathlib.Core.List.{List, [], ◌∷◌, ◌++◌, map, flat_map}
use mir.Val.{bool_byte}
use native.Mathlib.Nat.{add-zero, zero-add, pow-suc, pow-le-pow_right, div-eq_of_lt}
use native.Mathlib.Numerals.{add-one}
use native.Mathlib.Omega.{arith}
use borrow.Author.Tests.{lt-ltb, eq-eqb, ne_eqb}
use lib.Count.{count_leading_zeros, leading_length}
use lib.Dec.{ltb}
use lib.ListN.{length, get_or, drop, set, length-append, drop_of_length-le}
use lib.Seq.{sets, length-sets, drop-cons}
use Rattle.lifetimes.specs.declared.lifetime.Lifetime.{Lifetime}
use Rattle.lifetimes.specs.declared.maybe_static.MaybeStatic.{MaybeStatic}
use Rattle.lifetimes.specs.LoweredWords.{from_word}
use Rattle.answers.specs.Lists.{range, filter, numbered}
use Rattle.lifetimes.specs.Sets.{member, insert, members}
use Rattle.hir_types.specs.declared.types.Kind.TheVariants.{Plain, Opaque, Struct, Slice}
use Rattle.hir_types.specs.LoweredTypes.{LoweredType, lifetimes_of}
use Rattle.borrowing_param.specs.declared.visitor.LifetimeEdge.{LifetimeEdge}
use Rattle.borrowing_param.specs.Edges.{edge, width, edge_words}
use Rattle.borrowing_param.specs.Brings.{drawn, any_drawn, one_edge, struct_edges, option_of, bring, note, notes}
use Rattle.borrowing_param.specs.Visit.{draws_in}
use Rattle.borrowing_param.specs.Inner.{CountsFor, SetBelow, all_in, CountsAll, struct_of, StoresWords, Stores}
use Rattle.borrowing_param.proofs.JoinLaws.{join_cons, join_append, sets_behind, words_many}
use Rattle.borrowing_param.proofs.EdgesLaws.{bring_few}

-- ---- some edges, and then others

notes_append : (pairs : List ℕ) (es fs : List LifetimeEdge) → notes pairs (es ++ fs) ≡ notes (notes pairs es) fs
unfolding notes
notes_append pairs [] fs = refl
notes_append pairs (e ∷ es) fs = notes_append (note pairs e) es fs

-- what is left to store
pub record Storing (all left : List LifetimeEdge) (at₀ : ℕ) (pairs₀ words₀ : List ℕ) (at : ℕ) (pairs words : List ℕ) : Type 0 where
  pub stand : sets words (width * at) (flat_map edge_words left) ≡ sets words₀ (width * at₀) (flat_map edge_words all)
  pub many : at + length left ≡ at₀ + length all
  pub carry : notes pairs left ≡ notes pairs₀ all
  pub size : length words ≡ length words₀
  pub room : width * (at₀ + length all) ≤ length words₀

pub storing_start : (all : List LifetimeEdge) (at : ℕ) (pairs words : List ℕ)
    → width * (at + length all) ≤ length words → Storing all all at pairs words at pairs words
storing_start all at pairs words h = record { stand = refl; many = refl; carry = refl; size = refl; room = h }

module _ {all now : List LifetimeEdge} {at₀ : ℕ} {pairs₀ words₀ : List ℕ} {at : ℕ} {pairs words : List ℕ}
    (inv : Storing all now at₀ pairs₀ words₀ at pairs words) where
  pub storing_end : now ≡ [] → Stores all at₀ pairs₀ words₀ at pairs words
  unfolding flat_map notes
  storing_end e =
      let done : at ≡ at₀ + length all = sym (add-zero at) ∙ (rw e at inv.many) in
      record { stores = record { count = done; stored = rw e at inv.stand }; carries = rw e at inv.carry }

  module _ (part rest : List LifetimeEdge) (split : now ≡ part ++ rest) where
    pub storing_fits : width * (at + length part) ≤ length words
    storing_fits =
        let sum : at + (length part + length rest) ≡ at₀ + length all = rw (split, length-append) at inv.many in
        omega (arith, inv.room, inv.size)

    pub storing_part : {at₁ : ℕ} {pairs₁ words₁ : List ℕ} → Stores part at pairs words at₁ pairs₁ words₁
        → Storing all rest at₀ pairs₀ words₀ at₁ pairs₁ words₁
    storing_part {at₁} {pairs₁} {words₁} s =
        let sum : at + (length part + length rest) ≡ at₀ + length all = rw (split, length-append) at inv.many in
        let place : width * at₁ ≡ width * at + length (flat_map edge_words part) = omega (arith, words_many part, s.stores.count) in
        let joined : sets words (width * at) (flat_map edge_words part ++ flat_map edge_words rest)
        ≡ sets words₀ (width * at₀) (flat_map edge_words all) =
        rw (split, join_append edge_words part rest) at inv.stand in
        let noted : notes pairs (part ++ rest) ≡ notes pairs₀ all = rw split at inv.carry in
        record {
          stand = rw (place, s.stores.stored)
              (sym (sets_behind words (width * at) (flat_map edge_words part) (flat_map edge_words rest)) ∙ joined);
          many = omega (arith, s.stores.count);
          carry = rw s.carries (sym (notes_append pairs part rest) ∙ noted);
          size = ap length s.stores.stored ∙ length-sets words (width * at) (flat_map edge_words part) ∙ inv.size;
          room = inv.room;
        }

  pub storing_none : {rest : List LifetimeEdge} → now ≡ rest → Storing all rest at₀ pairs₀ words₀ at pairs words
  storing_none e =
      record {
        stand = rw e at inv.stand;
        many = rw e at inv.many;
        carry = rw e at inv.carry;
        size = inv.size;
        room = inv.room;
      }

-- ---- one edge

pub put_words : (words : List ℕ) (at : ℕ) (e : LifetimeEdge)
    → set (set (set (set (set words (at * 5) e.used) (at * 5 + 1) e.param) (at * 5 + 2) e.kind) (at * 5 + 3)
    e.def) (at * 5 + 4) e.option ≡ sets words (width * at) (edge_words e)
put_words words at e =
    let b : width * at ≡ at * 5 = omega arith in
    let b₁ : at * 5 + 1 ≡ suc (at * 5) = omega arith in
    let b₂ : at * 5 + 2 ≡ suc (suc (at * 5)) = omega arith in
    let b₃ : at * 5 + 3 ≡ suc (suc (suc (at * 5))) = omega arith in
    let b₄ : at * 5 + 4 ≡ suc (suc (suc (suc (at * 5)))) = omega arith in
    rw (b, b₁, b₂, b₃, b₄)

-- an opaque or a slice
module _ (draws : ℕ → Bool) (used param kind : ℕ) (ms : List (MaybeStatic Lifetime)) (at : ℕ) (words : List ℕ) where
  pub one_stored : any_drawn draws ms ≡ true → {words₁ : List ℕ}
      → words₁ ≡ sets words (width * at) (edge_words (edge used param kind 0 0))
      → StoresWords (one_edge draws used param kind ms) at words (at + 1) words₁
  unfolding flat_map
  one_stored e q = rw e (record { count = refl; stored = q })

  pub one_room : any_drawn draws ms ≡ true → width * (at + length (one_edge draws used param kind ms)) ≤ length words
      → width * (at + 1) ≤ length words
  one_room e h = rw e at h

  pub none_stored : any_drawn draws ms ≡ false → StoresWords (one_edge draws used param kind ms) at words at words
  unfolding flat_map
  none_stored e = rw e (record { count = sym (add-zero at); stored = refl })

-- ---- a struct: the edges that are left

abbrev pub left_edges : (ℕ → Bool) → ℕ → ℕ → ℕ → List ℕ → ℕ → List LifetimeEdge
left_edges draws used param option path def = struct_edges draws used param option def (map from_word (drop def path))

module _ (draws : ℕ → Bool) (used param option : ℕ) (path : List ℕ) where
  pub edges_none : (def : ℕ) → length path ≤ def → left_edges draws used param option path def ≡ []
  unfolding numbered
  edges_none def h = rw (drop_of_length-le path {i = def} h)

  module _ (def : ℕ) (h : def < length path) where
    pub edges_one : true ≡ drawn draws (from_word (get_or path def 0))
        → left_edges draws used param option path def ≡ (edge used param 3 def option ∷ [])
        ++ left_edges draws used param option path (def + 1)
    unfolding numbered
    edges_one q = rw (drop-cons path def 0 h, ← q, add-one def)

    pub edges_skip : false ≡ drawn draws (from_word (get_or path def 0))
        → left_edges draws used param option path def ≡ left_edges draws used param option path (def + 1)
    unfolding numbered
    edges_skip q = rw (drop-cons path def 0 h, ← q, add-one def)

pub option_byte : (t : Bool) → bool_byte t ≡ option_of t
option_byte true = refl
option_byte false = refl

-- one of them, with its pair
pub pair_stored : (e : LifetimeEdge) (at : ℕ) (pairs words : List ℕ) {words₁ : List ℕ} {put n : ℕ} → e.kind ≡ 3
    → e.used < 64 → n ≡ e.used
    → words₁ ≡ sets words (width * at) (edge_words e)
    → put ≡ cond (ltb n 64) (insert (get_or pairs e.def 0) n) (get_or pairs e.def 0)
    → Stores (e ∷ []) at pairs words (at + 1) (set pairs e.def put) words₁
unfolding flat_map notes
pair_stored e at pairs words {words₁} {put} {n} is few same q r =
    let puts : put ≡ insert (get_or pairs e.def 0) e.used = r ∙ rw (same, lt-ltb e.used 64 few) in
    record { stores = record { count = refl; stored = q }; carries = rw (puts, eq-eqb e.kind 3 is) }

-- ---- the edges by kind

-- an edge that is no struct's carries no pair
one_carries : (pairs : List ℕ) (used param kind : ℕ) → (kind ≡ 3 → ⊥) → (b : Bool)
    → pairs ≡ notes pairs (cond b (edge used param kind 0 0 ∷ []) [])
unfolding notes
one_carries pairs used param kind n true = rw (ne_eqb kind 3 n)
one_carries pairs used param kind n false = refl

-- room for them
module _ (draws : ℕ → Bool) (used param : ℕ) (t : LoweredType) (at n : ℕ) where
  pub room_opaque : t.kind ≡ Opaque → width * (at + length (bring draws used param t)) ≤ n
      → width * (at + length (one_edge draws used param 1 (lifetimes_of t))) ≤ n
  unfolding bring
  room_opaque e h = rw e at h

  pub room_slice : t.kind ≡ Slice → width * (at + length (bring draws used param t)) ≤ n
      → width * (at + length (one_edge draws used param 2 (lifetimes_of t))) ≤ n
  unfolding bring
  room_slice e h = rw e at h

  pub room_struct : {row : ℕ} → t.kind ≡ Struct row → width * (at + length (bring draws used param t)) ≤ n
      → width * (at + length (struct_of draws used param t)) ≤ n
  unfolding bring
  room_struct e h = rw e at h

module _ (draws : ℕ → Bool) (used param : ℕ) (t : LoweredType) {at : ℕ} {pairs words : List ℕ} where
  pub for_plain : t.kind ≡ Plain → Stores (bring draws used param t) at pairs words at pairs words
  unfolding bring flat_map notes
  for_plain e = rw e (record { stores = record { count = sym (add-zero at); stored = refl }; carries = refl })

  pub for_opaque : t.kind ≡ Opaque → {at₁ : ℕ} {words₁ : List ℕ}
      → StoresWords (one_edge draws used param 1 (lifetimes_of t)) at words at₁ words₁
      → Stores (bring draws used param t) at pairs words at₁ pairs words₁
  unfolding bring
  for_opaque e s =
      rw e
      (record
      { stores = s; carries = one_carries pairs used param 1 (λ z. omega arith) (any_drawn draws (lifetimes_of t)) })

  pub for_slice : t.kind ≡ Slice → {at₁ : ℕ} {words₁ : List ℕ}
      → StoresWords (one_edge draws used param 2 (lifetimes_of t)) at words at₁ words₁
      → Stores (bring draws used param t) at pairs words at₁ pairs words₁
  unfolding bring
  for_slice e s =
      rw e
      (record
      { stores = s; carries = one_carries pairs used param 2 (λ z. omega arith) (any_drawn draws (lifetimes_of t)) })

  pub for_struct : {row : ℕ} → t.kind ≡ Struct row → {at₁ : ℕ} {pairs₁ words₁ : List ℕ}
      → Stores (struct_of draws used param t) at pairs words at₁ pairs₁ words₁
      → Stores (bring draws used param t) at pairs words at₁ pairs₁ words₁
  unfolding bring
  for_struct e s = rw e s

-- ---- the used lifetimes one after another

-- the used lifetimes from a number on
abbrev pub used_from : ℕ → ℕ → List ℕ
used_from used l = filter (member used) (range l (64 - l))

module _ (used : ℕ) where
  pub used_all : members used ≡ used_from used 0
  unfolding members
  used_all = refl

  none_past : (x : ℕ) → used < 2 ^ x → member used x ≡ false
  unfolding member
  none_past x h = rw (div-eq_of_lt h)

  filter_past : (x n : ℕ) → used < 2 ^ x → filter (member used) (range x n) ≡ []
  unfolding range filter
  filter_past x zero h = refl
  filter_past x (suc n) h = rw (none_past x h) (filter_past (suc x) n (omega (arith, pow-suc 2 x)))

  -- no lifetime past the limit is used
  pub past_limit : {limit : ℕ} → SetBelow used limit → (l : ℕ) → limit ≤ l → member used l ≡ false
  past_limit {limit} b l h = none_past l (omega (arith, b.1, pow-le-pow_right {n = 2} (omega arith) h))

  pub used_end : {limit : ℕ} → SetBelow used limit → (l : ℕ) → limit ≤ l → used_from used l ≡ []
  used_end {limit} b l h = filter_past l (64 - l) (omega (arith, b.1, pow-le-pow_right {n = 2} (omega arith) h))

  module _ (l : ℕ) (h : l < 64) where
    row : range l (64 - l) ≡ l ∷ range (l + 1) (64 - (l + 1))
    unfolding range
    row = let e : 64 - l ≡ suc (64 - (l + 1)) = omega arith in rw (e, add-one l)

    pub used_here : true ≡ member used l → used_from used l ≡ l ∷ used_from used (l + 1)
    unfolding filter
    used_here q = rw (row, ← q)

    pub used_not : false ≡ member used l → used_from used l ≡ used_from used (l + 1)
    unfolding filter
    used_not q = rw (row, ← q)

pub below_64 : {used limit l : ℕ} → SetBelow used limit → l < limit → l < 64
below_64 b h = omega (arith, b.0)

-- a number of 64 bits has no ones above its leading zeros
pub below_leading : (used : ℕ) → used < 2 ^ 64 → SetBelow used (64 - count_leading_zeros 64 used)
below_leading used h =
    let m = leading_length 64 used h in
    let e : 64 - count_leading_zeros 64 used ≡ m.0 = omega (arith, m.1) in
    (omega arith, rw e m.2)

-- what is left, for the used lifetimes from a number on
abbrev pub left_all : ℕ → List ℕ → LoweredType → ℕ → ℕ → List LifetimeEdge
left_all used drawn t param l = flat_map (λ x. bring (draws_in (get_or drawn x 0)) x param t) (used_from used l)

module _ (used : ℕ) (drawn : List ℕ) (t : LoweredType) (param : ℕ) where
  pub all_left : all_in used drawn t param ≡ left_all used drawn t param 0
  all_left = rw (used_all used)

  pub all_end : {limit : ℕ} → SetBelow used limit → (l : ℕ) → limit ≤ l → left_all used drawn t param l ≡ []
  unfolding flat_map
  all_end b l h = rw (used_end used b l h)

  module _ (l : ℕ) (h : l < 64) where
    pub all_here : true ≡ member used l → left_all used drawn t param l ≡ bring (draws_in (get_or drawn l 0)) l param t
        ++ left_all used drawn t param (l + 1)
    all_here q = rw (used_here used l h q, join_cons (λ x. bring (draws_in (get_or drawn x 0)) x param t) l (used_from used (l + 1)))

    pub all_not : false ≡ member used l → left_all used drawn t param l ≡ left_all used drawn t param (l + 1)
    all_not q = rw (used_not used l h q)

-- ---- counting all

pub record CountingAll (used : ℕ) (drawn : List ℕ) (t : LoweredType) (n l : ℕ) : Type 0 where
  pub here : l ≤ 64
  pub few : n ≤ 16 * l
  pub counts : (param : ℕ) → n + length (left_all used drawn t param l) ≡ length (all_in used drawn t param)

pub counting_all : (used : ℕ) (drawn : List ℕ) (t : LoweredType) → CountingAll used drawn t 0 0
counting_all used drawn t =
    record {
      here = omega arith;
      few = omega arith;
      counts = λ param. zero-add _ ∙ ap length (sym (all_left used drawn t param));
    }

module _ {used : ℕ} {drawn : List ℕ} {t : LoweredType} {n l : ℕ} (inv : CountingAll used drawn t n l) where
  pub counting_all_end : {limit : ℕ} → SetBelow used limit → limit ≤ l → CountsAll used drawn t n
  counting_all_end b h =
      record { counts = λ param. sym (add-zero n) ∙ (rw (all_end used drawn t param b l h) at (inv.counts param)) }

  pub counting_all_not : l < 64 → false ≡ member used l → CountingAll used drawn t n (l + 1)
  counting_all_not h q =
      record {
        here = omega arith;
        few = omega (arith, inv.few);
        counts = λ param. rw (all_not used drawn t param l h q) at (inv.counts param);
      }

  module _ (few : length t.path ≤ 16) {k : ℕ} (c : CountsFor (draws_in (get_or drawn l 0)) t k) where
    pub counted_few : k ≤ 16
    counted_few = omega (arith, c.counts 0 0, bring_few (draws_in (get_or drawn l 0)) 0 0 t few)

    pub counting_all_more : l < 64 → true ≡ member used l → CountingAll used drawn t (n + k) (l + 1)
    counting_all_more h q = record {
      here = omega arith;
      few = omega (arith, inv.few, counted_few);
      counts = λ param.
          let e : n + length (bring (draws_in (get_or drawn l 0)) l param t ++ left_all used drawn t param (l + 1))
          ≡ length (all_in used drawn t param) = rw (all_here used drawn t param l h q) at (inv.counts param) in
          let f : n
          + (length (bring (draws_in (get_or drawn l 0)) l param t) + length (left_all used drawn t param (l + 1)))
          ≡ length (all_in used drawn t param) = rw length-append at e in
          omega (arith, c.counts l param);
    }
