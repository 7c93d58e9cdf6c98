-- What types imply, word by word: the types that are still to be read, the first of them behind a reference or not. The
-- loop of `extend_implied`.
use Rattle.std.specs.Prelude.{Ok, Err}
use Prim.Native.Nat.{ℕ, suc, ◌+◌, ◌-◌, ◌≤◌, ◌<◌}
use mathlib.Core.Path.{◌≡◌, refl, sym, ap, ◌∙◌}
use mathlib.Core.List.{List, [], ◌∷◌, ◌++◌, append_assoc, flat_map}
use native.Mathlib.Omega.{arith}
use native.Mathlib.Numerals.{add-one}
use borrow.Author.Tests.{le-leb, lt-leb}
use lib.ListN.{length, get_or, take, drop, length-append, length-drop}
use lib.Seq.{drop-cons, drop-drop, drop_at, take_at}
use Rattle.answers.specs.declared.Refusal.{Refusal}
use Rattle.answers.specs.Refusals.{Outcome}
use Rattle.ast_lifetimes.specs.declared.env.LifetimeEnv.{LifetimeEnv}
use Rattle.ast_lifetimes.specs.Types.{TypeName, Other, Named, Reference, Option, Result}
use Rattle.ast_lifetimes.specs.Env.{bounds_of, Behind, Nothing, behind_ref}
use Rattle.ast_lifetimes.specs.Entries.{Entry, Path, path, paths, SoFar, fold, step}
use Rattle.ast_lifetimes.specs.Inner.{so_far_of, StandsIn, Leaves, encode, encode_all, OutliveSets}
use Rattle.ast_lifetimes.proofs.StandsLaws.{Folding, folding_start, folding_same, folding_end}
use Rattle.ast_lifetimes.proofs.StandsLaws.{folding_more, folding_refused}

-- the paths of the types that are left, the first of them behind b
unfoldable pub pending_paths : Behind → List TypeName → List Entry
pending_paths b [] = []
pending_paths b (t ∷ ts) = paths b t ++ flat_map (paths Nothing) ts

pub all_pending : (ts : List TypeName) → flat_map (paths Nothing) ts ≡ pending_paths Nothing ts
unfolding pending_paths flat_map
all_pending [] = refl
all_pending (t ∷ ts) = refl

-- what stands in front of some words
record Peeled (words : List ℕ) (at x : ℕ) (rest : List ℕ) : Type 0 where
  inside : at < length words
  head : get_or words at 0 ≡ x
  tail : drop (at + 1) words ≡ rest

peel : (words : List ℕ) (at x : ℕ) (rest : List ℕ) → drop at words ≡ x ∷ rest → Peeled words at x rest
peel words at x rest e =
    let long : length words - at ≡ suc (length rest) = sym (length-drop at words) ∙ ap length e in
    let i : at < length words = omega arith in
    let both : get_or words at 0 ∷ drop (suc at) words ≡ x ∷ rest = sym (drop-cons words at 0 i) ∙ e in
    record { inside = i; head = (cc); tail = rw (add-one at) (cc) }

-- a turn, by the type that stands at a place
pub record Onward (b : Behind) (words : List ℕ) (at : ℕ) (left : List Entry) : Type 0 where
  pub pending : List TypeName
  pub stand : drop at words ≡ encode_all pending
  pub is : left ≡ pending_paths b pending

pub record AtPath (b : Behind) (words : List ℕ) (at : ℕ) (left : List Entry) : Type 0 where
  pub inside : at + 1 < length words
  pub fits : at + 2 + get_or words (at + 1) 0 ≤ length words
  pub lifetimes : List ℕ
  pub slices : take (at + 2 + get_or words (at + 1) 0 - (at + 2)) (drop (at + 2) words) ≡ lifetimes
  pub pending : List TypeName
  pub stand : drop (at + 2 + get_or words (at + 1) 0) words ≡ encode_all pending
  pub is : left ≡ path b lifetimes ++ pending_paths Nothing pending

pub record AtReference (words : List ℕ) (at : ℕ) (left : List Entry) : Type 0 where
  pub inside : at + 1 < length words
  pub onward : Onward (behind_ref (get_or words (at + 1) 0)) words (at + 2) left

data Turn (b : Behind) (words : List ℕ) (at : ℕ) (left : List Entry) : Type 0 where
  plain : (get_or words at 0 ≡ 1 → ⊥) → (get_or words at 0 ≡ 2 → ⊥) → Onward Nothing words (at + 1) left → Turn b words at left
  path_here : get_or words at 0 ≡ 1 → AtPath b words at left → Turn b words at left
  reference : get_or words at 0 ≡ 2 → AtReference words at left → Turn b words at left

module _ (b : Behind) (words : List ℕ) (at : ℕ) where
  turn : (pending : List TypeName) → drop at words ≡ encode_all pending → at < length words
      → Turn b words at (pending_paths b pending)
  unfolding flat_map encode pending_paths paths
  turn [] e h = absurd (let z = ap length e in omega (arith, length-drop at words))
  turn (Other ∷ ts) e h =
      let p = peel words at 0 (encode_all ts) e in
      plain (λ q. omega (arith, p.head)) (λ q. omega (arith, p.head))
      (record { pending = ts; stand = p.tail; is = all_pending ts })
  turn (Named lifetimes ∷ ts) e h =
      let p = peel words at 1 (length lifetimes ∷ lifetimes ++ encode_all ts) e in
      let q = peel words (at + 1) (length lifetimes) (lifetimes ++ encode_all ts) p.tail in
      let two : at + 1 + 1 ≡ at + 2 = omega arith in
      let rest : drop (at + 2) words ≡ lifetimes ++ encode_all ts = rw two at q.tail in
      let long : length words - (at + 2) ≡ length lifetimes + length (encode_all ts) =
      sym (length-drop (at + 2) words) ∙ ap length rest ∙ length-append lifetimes (encode_all ts) in
      path_here p.head (record {
        inside = q.inside;
        fits = omega (arith, q.head, q.inside, long);
        lifetimes = lifetimes;
        slices = let only : at + 2 + length lifetimes - (at + 2) ≡ length lifetimes = omega arith in
            rw (q.head, only, rest) (take_at lifetimes (encode_all ts) (length lifetimes) refl);
        pending = ts;
        stand = rw (q.head, ← drop-drop (length lifetimes) (at + 2) words, rest)
            (drop_at lifetimes (encode_all ts) (length lifetimes) refl);
        is = ap (λ (l : List Entry). path b lifetimes ++ l) (all_pending ts);
      })
  turn (Reference word t ∷ ts) e h =
      let p = peel words at 2 (word ∷ encode t ++ encode_all ts) e in
      let q = peel words (at + 1) word (encode t ++ encode_all ts) p.tail in
      let two : at + 1 + 1 ≡ at + 2 = omega arith in
      reference p.head
      (record {
        inside = q.inside;
        onward = record { pending = t ∷ ts; stand = (rw two at q.tail); is = rw q.head };
      })
  turn (Option t ∷ ts) e h =
      let p = peel words at 3 (encode t ++ encode_all ts) e in
      plain (λ q. omega (arith, p.head)) (λ q. omega (arith, p.head)) (record { pending = t ∷ ts; stand = p.tail; is = refl })
  turn (Result t u ∷ ts) e h =
      let p = peel words at 4 ((encode t ++ encode u) ++ encode_all ts) e in
      plain (λ q. omega (arith, p.head)) (λ q. omega (arith, p.head))
      (record {
        pending = t ∷ u ∷ ts;
        stand = p.tail ∙ append_assoc (encode t) (encode u) (encode_all ts);
        is = append_assoc (paths Nothing t) (paths Nothing u) (flat_map (paths Nothing) ts);
      })

  module _ (pending : List TypeName) (e : drop at words ≡ encode_all pending) (h : at < length words) where
    pub turn_plain : (get_or words at 0 ≡ 1 → ⊥) → (get_or words at 0 ≡ 2 → ⊥)
        → Onward Nothing words (at + 1) (pending_paths b pending)
    turn_plain one two = go (turn pending e h)
      where
        go : Turn b words at (pending_paths b pending) → Onward Nothing words (at + 1) (pending_paths b pending)
        go (plain p q o) = o
        go (path_here p o) = absurd (one p)
        go (reference p o) = absurd (two p)

    pub turn_path : get_or words at 0 ≡ 1 → AtPath b words at (pending_paths b pending)
    turn_path one = go (turn pending e h)
      where
        go : Turn b words at (pending_paths b pending) → AtPath b words at (pending_paths b pending)
        go (plain p q o) = absurd (p one)
        go (path_here p o) = o
        go (reference p o) = absurd (omega arith)

    pub turn_reference : get_or words at 0 ≡ 2 → AtReference words at (pending_paths b pending)
    turn_reference two = go (turn pending e h)
      where
        go : Turn b words at (pending_paths b pending) → AtReference words at (pending_paths b pending)
        go (plain p q o) = absurd (q two)
        go (path_here p o) = absurd (omega arith)
        go (reference p o) = o

-- where no words are left, no type is
encode_long : (t : TypeName) → 0 < length (encode t)
unfolding encode
encode_long Other = omega arith
encode_long (Named lifetimes) = omega arith
encode_long (Reference word t) = omega arith
encode_long (Option t) = omega arith
encode_long (Result t u) = omega arith

pending_none : (words : List ℕ) (at : ℕ) → length words ≤ at → (pending : List TypeName)
    → drop at words ≡ encode_all pending → pending ≡ []
unfolding flat_map
pending_none words at h [] e = refl
pending_none words at h (t ∷ ts) e =
    absurd (omega (arith, encode_long t, length-append (encode t) (encode_all ts), ap length e, length-drop at words))

-- the loop: the words from here on are those of the types that are left, and the run has their paths left
pub record Implying (whole : Outcome SoFar) (words : List ℕ) (e : LifetimeEnv) (sets : List ℕ) (word at : ℕ) : Type 0 where
  pub pending : List TypeName
  pub stand : drop at words ≡ encode_all pending
  pub run : Folding step whole (pending_paths (behind_ref word) pending) e
  pub reaches : OutliveSets (bounds_of e) e.named sets

pub implying_start : (ts : List TypeName) {words : List ℕ} {e : LifetimeEnv} (sets : List ℕ) → encode_all ts ≡ words
    → StandsIn (so_far_of e) e → OutliveSets (bounds_of e) e.named sets
    → Implying (fold step (so_far_of e) (flat_map (paths Nothing) ts)) words e sets 0 0
implying_start ts sets is h r = record {
  pending = ts;
  stand = sym is;
  run = folding_same (folding_start step _ h) (all_pending ts);
  reaches = r;
}

module _ {whole : Outcome SoFar} {words : List ℕ} {e : LifetimeEnv} {sets : List ℕ} {word at : ℕ}
    (inv : Implying whole words e sets word at) where
  pub implying_end : length words ≤ at → Leaves whole e (Ok (tt {0}))
  unfolding pending_paths
  implying_end h = folding_end inv.run (rw (pending_none words at h inv.pending inv.stand))

  module _ (h : at < length words) where
    pub implying_reference : get_or words at 0 ≡ 2
        → (at + 1 < length words) × Implying whole words e sets (get_or words (at + 1) 0) (at + 2)
    implying_reference two =
        let t = turn_reference (behind_ref word) words at inv.pending inv.stand h two in (
          t.inside,
          record {
            pending = t.onward.pending;
            stand = t.onward.stand;
            run = folding_same inv.run t.onward.is;
            reaches = inv.reaches;
          },
        )

    pub implying_plain : (get_or words at 0 ≡ 1 → ⊥) → (get_or words at 0 ≡ 2 → ⊥) → Implying whole words e sets 0 (at + 1)
    implying_plain one two =
        let t = turn_plain (behind_ref word) words at inv.pending inv.stand h one two in
        record { pending = t.pending; stand = t.stand; run = folding_same inv.run t.is; reaches = inv.reaches }

    module _ (one : get_or words at 0 ≡ 1) where
      turned : AtPath (behind_ref word) words at (pending_paths (behind_ref word) inv.pending)
      turned = turn_path (behind_ref word) words at inv.pending inv.stand h one

      pub implying_inside : at + 1 < length words
      implying_inside = turned.inside

      pub implying_fits : at + 2 + get_or words (at + 1) 0 ≤ length words
      implying_fits = turned.fits

      -- a path that stands behind no named reference
      pub implying_free : word < 2 → Implying whole words e sets 0 (at + 2 + get_or words (at + 1) 0)
      implying_free small = record {
        pending = turned.pending;
        stand = turned.stand;
        run = folding_same inv.run (turned.is ∙ rw (lt-leb 2 word small));
        reaches = inv.reaches;
      }

      -- a path behind a named reference
      module _ (named : 2 ≤ word) {e₁ : LifetimeEnv} {r : Outcome (Unit {0})}
          (one_more : Leaves (step (so_far_of e) (Path word (take (at + 2 + get_or words (at + 1) 0 - (at + 2)) (drop (at + 2) words)))) e₁ r) where
        next : pending_paths (behind_ref word) inv.pending
            ≡ Path word (take (at + 2 + get_or words (at + 1) 0 - (at + 2)) (drop (at + 2) words)) ∷ pending_paths Nothing turned.pending
        next = turned.is ∙ rw (le-leb 2 word named, turned.slices)

        pub implying_refused : {x : Refusal} → r ≡ Err x → Leaves {A = Unit {0}} whole e₁ (Err x)
        implying_refused q = folding_refused inv.run next one_more q

        pub implying_path : {a : Unit {0}} → r ≡ Ok a → (sets₁ : List ℕ) → OutliveSets (bounds_of e₁) e₁.named sets₁
            → Implying whole words e₁ sets₁ 0 (at + 2 + get_or words (at + 1) 0)
        implying_path q sets₁ reaches = record {
          pending = turned.pending;
          stand = turned.stand;
          run = folding_more inv.run next one_more q;
          reaches = reaches;
        }
