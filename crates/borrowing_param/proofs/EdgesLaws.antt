-- Which lifetimes of a parameter draw, and how many edges that makes. In order: among words, in a type, edges counted.
use Prim.Native.Nat.{ℕ, suc, ◌+◌, ◌≤◌, ◌<◌}
use mathlib.Core.Bool.{Bool, true, false, cond, ◌||◌}
use mathlib.Core.Path.{◌≡◌, refl, sym, ap, ◌∙◌}
use mathlib.Core.List.{List, [], ◌∷◌, ◌++◌, map}
use native.Mathlib.Nat.{add-zero, zero-add}
use native.Mathlib.Omega.{arith}
use mir.Val.{bool_byte}
use lib.ListN.{length, get_or, take, drop, length-map, length-take}
use Rattle.std.specs.Prelude.{Some, None, Option, Ok}
use Rattle.std.specs.List.{fold, list_any, count_by}
use Rattle.lifetimes.specs.declared.lifetime.Lifetime.{Lifetime}
use Rattle.lifetimes.specs.declared.maybe_static.MaybeStatic.{MaybeStatic}
use Rattle.lifetimes.specs.LoweredWords.{from_word}
use Rattle.lifetimes.specs.declared.def_lifetime.DefLifetime.{DefLifetime}
use Rattle.lifetimes.specs.Numbers.{def_lifetime}
use Rattle.lifetimes.specs.Linked.{linked_word}
use Rattle.lifetimes.proofs.LinkedLaws.{word_there}
use Rattle.answers.specs.Refusals.{Outcome}
use Rattle.hir_types.specs.declared.types.Kind.{Kind}
use Rattle.hir_types.specs.declared.types.Kind.TheVariants.{Plain, Opaque, Struct, Slice}
use Rattle.hir_types.specs.LoweredTypes.{LoweredType, lifetimes_of, own_lifetimes, own_lifetime}
use Rattle.hir_types.proofs.LifetimeLaws.{own_one, own_none}
use Rattle.borrowing_param.specs.declared.visitor.LifetimeEdge.{LifetimeEdge}
use Rattle.borrowing_param.specs.Edges.{edge}
use Rattle.borrowing_param.specs.Brings.{drawn, any_drawn, struct_edges, option_of, bring_as, bring}
use Rattle.borrowing_param.specs.Inner.{CountsFor}
use Rattle.answers.proofs.ListLaws.{count_few}
use Rattle.answers.specs.Lists.{any, count, numbered}

-- ---- among words

abbrev pub drawn_word : (ℕ → Bool) → ℕ → Bool
drawn_word draws w = drawn draws (from_word w)

abbrev pub count_drawn : (ℕ → Bool) → List (MaybeStatic Lifetime) → ℕ
count_drawn draws ms = count (drawn draws) ms

module _ (draws : ℕ → Bool) where
  pub any_words : (words : List ℕ) → list_any (drawn_word draws) words ≡ any_drawn draws (map from_word words)
  unfolding any
  any_words [] = refl
  any_words (w ∷ words) = rw (any_words words)

  counted_from : (n : ℕ) (words : List ℕ)
      → fold (λ m w. m + cond (drawn_word draws w) 1 0) n words ≡ n + count_drawn draws (map from_word words)
  unfolding count
  counted_from n [] = sym (add-zero n)
  counted_from n (w ∷ words) = counted_from (n + cond (drawn_word draws w) 1 0) words ∙ go (drawn_word draws w)
    where
      go : (t : Bool) → n + cond t 1 0 + count_drawn draws (map from_word words)
          ≡ n + cond t (suc (count_drawn draws (map from_word words))) (count_drawn draws (map from_word words))
      go true = omega arith
      go false = omega arith

  pub count_words : (words : List ℕ) → count_by (drawn_word draws) words ≡ count_drawn draws (map from_word words)
  count_words words = counted_from 0 words ∙ zero-add _

  -- among some, then among others
  any_both : (l m : List (MaybeStatic Lifetime)) → any_drawn draws (l ++ m) ≡ any_drawn draws l || any_drawn draws m
  unfolding any
  any_both [] m = refl
  any_both (x ∷ l) m = go (drawn draws x) (any_both l m)
    where
      go : (t : Bool) → any_drawn draws (l ++ m) ≡ any_drawn draws l || any_drawn draws m
          → t || any_drawn draws (l ++ m) ≡ (t || any_drawn draws l) || any_drawn draws m
      go true e = refl
      go false e = e

  -- ---- in a type: its path words, then its own lifetime

  module _ (t : LoweredType) {a : Bool} (among : a ≡ list_any (drawn_word draws) t.path) where
    pub drawn_path : a ≡ true → true ≡ any_drawn draws (lifetimes_of t)
    drawn_path e =
        rw (any_both (map from_word t.path) (own_lifetimes t.own), ← any_words t.path, ← among, e)

    module _ (none : a ≡ false) where
      own_left : any_drawn draws (lifetimes_of t) ≡ any_drawn draws (own_lifetimes t.own)
      own_left = rw (any_both (map from_word t.path) (own_lifetimes t.own), ← any_words t.path, ← among, none)

      module _ {last : Option (MaybeStatic Lifetime)} (own : last ≡ own_lifetime t.own) where
        pub drawn_own : {m : MaybeStatic Lifetime} → last ≡ Some m → {b : Bool} → b ≡ drawn draws m
            → b ≡ any_drawn draws (lifetimes_of t)
        unfolding any
        drawn_own {m} e q = q ∙ either (drawn draws m) ∙ sym (own_left ∙ ap (any_drawn draws) (own_one t.own own e))
          where
            either : (b : Bool) → b ≡ b || false
            either true = refl
            either false = refl

        pub drawn_absent : last ≡ None → false ≡ any_drawn draws (lifetimes_of t)
        unfolding any
        drawn_absent e = sym (own_left ∙ ap (any_drawn draws) (own_none t.own own e))

pub some_same : {x y : ℕ} → ◌≡◌ {A = Option ℕ} (Some x) (Some y) → x ≡ y
some_same e = cc

pub none_some : {x : ℕ} {A : Type 0} → ◌≡◌ {A = Option ℕ} None (Some x) → A
none_some e = let z : ◌≡◌ {A = ℕ} 0 1 = cc in absurd (omega arith)

-- what the link of path words answers for a lifetime of the definition
pub linked_is : (path : List ℕ) {def : ℕ} → def < length path → {d : DefLifetime} → d ≡ def_lifetime def
    → {r : Outcome (Option ℕ)} → r ≡ linked_word path (length path) d → r ≡ Ok (Some (get_or path def 0))
linked_is path {def} h is e = e ∙ rw is (word_there path (length path) refl def h)

-- path words lent: no more than are said to be there
pub path_few : (words : List ℕ) (from : ℕ) {path : List ℕ} {count : ℕ} → path ≡ take count (drop from words) → count ≤ 16
    → length path ≤ 16
path_few words from {path} {count} e h = omega (arith, ap length e, length-take count (drop from words))

-- ---- edges counted

struct_many : (draws : ℕ → Bool) (used param option def : ℕ) (ms : List (MaybeStatic Lifetime))
    → length (struct_edges draws used param option def ms) ≡ count_drawn draws ms
unfolding numbered count
struct_many draws used param option def [] = refl
struct_many draws used param option def (m ∷ ms) = go (drawn draws m) (struct_many draws used param option (suc def) ms)
  where
    go : (t : Bool) → length (struct_edges draws used param option (suc def) ms) ≡ count_drawn draws ms
        → length (cond t (edge used param 3 def option ∷ []) [] ++ struct_edges draws used param option (suc def) ms) ≡ cond t (suc (count_drawn draws ms))
        (count_drawn draws ms)
    go true r = ap suc r
    go false r = r

one_many : (t : Bool) (e : LifetimeEdge) → bool_byte t ≡ length (cond t (e ∷ []) [])
one_many true e = refl
one_many false e = refl

module _ (draws : ℕ → Bool) (t : LoweredType) where
  pub count_plain : t.kind ≡ Plain → CountsFor draws t 0
  unfolding bring
  count_plain e = record { counts = λ used param. rw e }

  pub count_opaque : t.kind ≡ Opaque → {n : ℕ} → n ≡ bool_byte (any_drawn draws (lifetimes_of t)) → CountsFor draws t n
  unfolding bring
  count_opaque e q = record { counts = λ used param. rw (q, e) (one_many (any_drawn draws (lifetimes_of t)) (edge used param 1 0 0)) }

  pub count_slice : t.kind ≡ Slice → {n : ℕ} → n ≡ bool_byte (any_drawn draws (lifetimes_of t)) → CountsFor draws t n
  unfolding bring
  count_slice e q = record { counts = λ used param. rw (q, e) (one_many (any_drawn draws (lifetimes_of t)) (edge used param 2 0 0)) }

  pub count_struct : {row : ℕ} → t.kind ≡ Struct row → {n : ℕ} → n ≡ count_by (drawn_word draws) t.path → CountsFor draws t n
  unfolding bring
  count_struct e q =
      record {
        counts = λ used param. rw (q, e, count_words draws t.path)
            (sym (struct_many draws used param (option_of t.option) 0 (map from_word t.path)));
      }

drawn_few : (draws : ℕ → Bool) (ms : List (MaybeStatic Lifetime)) → count_drawn draws ms ≤ length ms
drawn_few draws ms = count_few (drawn draws) ms

one_few : (t : Bool) (e : LifetimeEdge) → length (cond t (e ∷ []) []) ≤ 16
one_few true e = omega arith
one_few false e = omega arith

pub bring_few : (draws : ℕ → Bool) (used param : ℕ) (t : LoweredType) → length t.path ≤ 16 → length (bring draws used param t) ≤ 16
unfolding bring
bring_few draws used param t h = go t.kind
  where
    go : (k : Kind) → length (bring_as k draws used param t) ≤ 16
    go Plain = omega arith
    go Opaque = one_few (any_drawn draws (lifetimes_of t)) (edge used param 1 0 0)
    go Slice = one_few (any_drawn draws (lifetimes_of t)) (edge used param 2 0 0)
    go (Struct row) =
        let few : count_drawn draws (map from_word t.path) ≤ length t.path =
        rw length-map at (drawn_few draws (map from_word t.path)) in
        rw (struct_many draws used param (option_of t.option) 0 (map from_word t.path)) (omega arith)
