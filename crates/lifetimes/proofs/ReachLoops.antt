-- The loops of `measure` and `lay`: what is left, done from here, gives what all gives from the start.
use Prim.Native.Nat.{ℕ, zero, suc, ◌+◌, ◌*◌, ◌-◌, ◌≤◌, ◌<◌}
use mathlib.Core.Path.{◌≡◌, refl, sym, ap, ◌∙◌}
use mathlib.Core.List.{List, [], ◌∷◌, ◌++◌, append_assoc, flatten}
use native.Mathlib.Nat.{mul-suc}
use native.Mathlib.Omega.{arith}
use native.Mathlib.Numerals.{add-one}
use borrow.Rule.Slice.PartMut.{put_mid}
use lib.ListN.{length, set, take, length-append}
use lib.Seq.{sets, sets-eq, length-take-le}
use Rattle.std.proofs.lemmas.List.{drop-drop}
use Rattle.answers.specs.Lists.{range}
use Rattle.lifetimes.specs.Walk.{LastFirst}
use Rattle.answers.specs.Lists.{ends_from}
use Rattle.lifetimes.specs.declared.index.Index.{Index}
use Rattle.lifetimes.specs.declared.walk.Walked.{Walked}
use Rattle.lifetimes.specs.Index.{Graph, Indexed, Within, list_over, set_over, lists_from, sets_from, Complete}
use Rattle.lifetimes.specs.Index.{Measures, Lays, Layable}
use Rattle.lifetimes.proofs.ReachLaws.{traversal_few}
use Rattle.answers.proofs.Copying.{sets_append}

-- the first of what is left, and nothing where nothing is left
range_next : (x count : ℕ) → x < count → range x (count - x) ≡ x ∷ range (x + 1) (count - (x + 1))
unfolding range
range_next x count h = let e : count - x ≡ suc (count - (x + 1)) = omega arith in rw (e, add-one x)

range_none : (x count : ℕ) → count ≤ x → range x (count - x) ≡ []
unfolding range
range_none x count h = let e : count - x ≡ 0 = omega arith in rw e

module _ (g : Graph) (count : ℕ) where
  -- the lists, and the sets, that are left
  abbrev pub lists_left : ℕ → List (List ℕ)
  lists_left x = lists_from g x (count - x)

  abbrev pub sets_left : ℕ → List ℕ
  sets_left x = sets_from g x (count - x)

  lists_next : (x : ℕ) → x < count → lists_left x ≡ list_over g x ∷ lists_left (x + 1)
  lists_next x h = rw (range_next x count h)

  sets_next : (x : ℕ) → x < count → sets_left x ≡ set_over g x ∷ sets_left (x + 1)
  sets_next x h = rw (range_next x count h)

  words_next : (x : ℕ) → x < count → flatten (lists_left x) ≡ list_over g x ++ flatten (lists_left (x + 1))
  unfolding flatten
  words_next x h = rw (lists_next x h)

-- `measure`
pub record Measuring (g : Graph) (count : ℕ) (reach₀ reach : List ℕ) (x total : ℕ) : Type 0 where
  pub here : x ≤ count
  pub total_left : total + length (flatten (lists_left g count x)) ≡ length (flatten (lists_from g 0 count))
  pub reach_left : sets reach x (sets_left g count x) ≡ sets reach₀ 0 (sets_from g 0 count)

module _ {g : Graph} {count : ℕ} {reach₀ reach : List ℕ} {x total : ℕ} (inv : Measuring g count reach₀ reach x total) where
  pub measuring_more : x < count → {items : List ℕ} {r : Walked} → r.count ≤ length items → Complete g x items r
      → Measuring g count reach₀ (set reach x r.seen) (x + 1) (total + r.count)
  measuring_more h {items} {r} few done = record {
    here = omega arith;
    total_left = omega (
      arith,
      length-take-le r.count items few,
      ap length done.items,
      rw (words_next g count x h, length-append) at inv.total_left,
    );
    reach_left = rw (done.seen, add-one x) (rw (sets_next g count x h, add-one x) at inv.reach_left);
  }

  pub measuring_end : count ≤ x → Measures g count reach₀ reach total
  unfolding flatten
  measuring_end h =
      let none = range_none x count h in
      record { total = omega (arith, rw none at inv.total_left); reach = (rw none at inv.reach_left) }

-- `lay`

-- what a copy to a part leaves
pub put_sets : (l : List ℕ) (at n : ℕ) (vs : List ℕ) → length vs ≡ n → at + n ≤ length l
    → put_mid at (at + n - at) l vs ≡ sets l at vs
put_sets l at n vs e h =
    let k : at + n - at ≡ length vs = omega arith in
    rw (k, sets-eq vs l at (omega arith), drop-drop (length vs) at l, append_assoc)

pub record Laying (g : Graph) (count : ℕ) (words₀ ends₀ reach₀ words ends reach : List ℕ) (x at : ℕ) : Type 0 where
  pub measuring : Measuring g count reach₀ reach x at
  pub words_left : sets words at (flatten (lists_left g count x)) ≡ sets words₀ 0 (flatten (lists_from g 0 count))
  pub ends_left : sets ends x (ends_from at (lists_left g count x)) ≡ sets ends₀ 0 (ends_from 0 (lists_from g 0 count))

module _ {g : Graph} {count : ℕ} {words₀ ends₀ reach₀ words ends reach : List ℕ} {x at : ℕ}
    (inv : Laying g count words₀ ends₀ reach₀ words ends reach x at) where
  module _ (h : x < count) {items : List ℕ} {r : Walked} (few : r.count ≤ length items) (done : Complete g x items r) where
    long : r.count ≡ length (list_over g x)
    long = sym (length-take-le r.count items few) ∙ ap length done.items

    -- there is room for the next list
    pub laying_room : length (flatten (lists_from g 0 count)) ≤ length words → at + r.count ≤ length words
    laying_room room = omega (arith, long, rw (words_next g count x h, length-append) at inv.measuring.total_left)

    pub laying_more : at + r.count ≤ length words → {vs : List ℕ} → vs ≡ take r.count items
        → Laying g count words₀ ends₀ reach₀ (put_mid at (at + r.count - at) words vs) (set ends x (at + r.count))
        (set reach x r.seen) (x + 1) (at + r.count)
    unfolding ends_from
    laying_more room {vs} p =
        let list : vs ≡ list_over g x = p ∙ done.items in
        let left = rw (words_next g count x h) at inv.words_left in
        record {
          measuring = measuring_more inv.measuring h few done;
          words_left =
              rw (put_sets words at r.count vs (ap length list ∙ sym long) room, list, long)
              (sym (sets_append words at (list_over g x) (flatten (lists_left g count (x + 1)))) ∙ left);
          ends_left = rw (long, add-one x) (rw (lists_next g count x h, add-one x) at inv.ends_left);
        }

  pub laying_end : count ≤ x → Lays g count words₀ ends₀ reach₀ words ends reach at
  unfolding flatten ends_from
  laying_end h =
      let none = range_none x count h in
      record {
        measures = measuring_end inv.measuring h;
        words = (rw none at inv.words_left);
        ends = (rw none at inv.ends_left);
      }

-- A turn of `lay`: what it keeps, and what its walk lists, are of every graph that the index is of; for the one that there
-- is the lists have room together
module _ {ix : Index} {room : ℕ} (layable : Layable ix room) {words₀ ends₀ reach₀ words ends reach : List ℕ} {x at : ℕ}
    (inv : (g : Graph) → Indexed g ix → Laying g ix.count words₀ ends₀ reach₀ words ends reach x at)
    (size : length words ≡ room) (h : x < ix.count) {items : List ℕ} {r : Walked} (few : r.count ≤ length items)
    (done : (g : Graph) → Indexed g ix → Complete g x items r) where
  pub turn_room : at + r.count ≤ length words
  turn_room = let (g, k, fits) = layable in laying_room (inv g k) h few (done g k) (omega (arith, fits))

  pub turn_lays : {vs : List ℕ} → vs ≡ take r.count items → (g : Graph) → Indexed g ix
      → Laying g ix.count words₀ ends₀ reach₀ (put_mid at (at + r.count - at) words vs) (set ends x (at + r.count))
      (set reach x r.seen) (x + 1) (at + r.count)
  turn_lays p g k = laying_more (inv g k) h few (done g k) turn_room p

-- no list is longer than there are lifetimes, so as many words for each of them are enough
pub lists_few : (g : Graph) (limit : ℕ) → Within g limit → (x n : ℕ) → x + n ≤ limit → length (flatten (lists_from g x n)) ≤ limit * n
unfolding flatten range
lists_few g limit w x zero h = omega arith
lists_few g limit w x (suc n) h =
    rw (length-append, mul-suc)
    (omega (
      arith,
      traversal_few LastFirst g.longer g.bounds x limit w (omega arith),
      lists_few g limit w (suc x) n (omega arith),
    ))

pub length_ends : (at : ℕ) (ls : List (List ℕ)) → length (ends_from at ls) ≡ length ls
unfolding ends_from
length_ends at [] = refl
length_ends at (l ∷ ls) = ap suc (length_ends (at + length l) ls)
