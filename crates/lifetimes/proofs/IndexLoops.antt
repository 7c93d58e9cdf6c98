-- The loop of `link`: the index of the first i bounds, in the order in which they are linked.
use Prim.Native.Nat.{ℕ, ◌+◌, ◌-◌, ◌≤◌, ◌<◌}
use mathlib.Core.Bool.{Bool, true, false, cond}
use mathlib.Core.Path.{◌≡◌, refl, sym, ap, ◌∙◌}
use mathlib.Core.List.{List, Memᴰ}
use native.Mathlib.Decide.{ℕ_discrete}
use native.Mathlib.Omega.{arith}
use native.Mathlib.Numerals.{add-one}
use borrow.Author.Tests.{eq-eqb, ne_eqb}
use lib.ListN.{length, get_or, replicate, set, length-set}
use lib.Seq.{get_or-set_same, get_or-set_other}
use Rattle.lifetimes.specs.declared.bounds.Bound.{Bound}
use Rattle.lifetimes.specs.declared.index.Index.{Index}
use Rattle.lifetimes.specs.Bounds.{above}
use Rattle.lifetimes.specs.Walk.{near, far, order_of}
use Rattle.lifetimes.specs.Index.{Fine, Within, Graph, graph_in, linked_in, near_at, far_at, last_of, Indexed}
use Rattle.answers.specs.Refusals.{NoneDue}
use Rattle.lifetimes.specs.declared.env.LifetimeEnv.{LifetimeEnv}
use Rattle.lifetimes.specs.Env.{bounds_of, env_checks}
use Rattle.lifetimes.proofs.EnvLaws.{Valid, valid}
use Rattle.lifetimes.proofs.IndexLaws.{bounds_length, bounds_fine, bounds_within, zeros}
use Rattle.lifetimes.proofs.ChainLaws.{at_mem}
use Rattle.lifetimes.proofs.ReverseLaws.{linked_length, linked_fine, linked_at}

-- what each place below i holds, each below i + 1 holds after a store at i
more : (f : ℕ → ℕ) (l : List ℕ) (i v : ℕ) → i < length l → v ≡ f i → ((j : ℕ) → j < i → get_or l j 0 ≡ f j) → (j : ℕ)
    → j < i + 1 → get_or (set l i v) j 0 ≡ f j
more f l i v h e r j k = go (ℕ_discrete j i)
  where
    go : Dec (j ≡ i) → get_or (set l i v) j 0 ≡ f j
    go (yes q) = rw (q, get_or-set_same l i v 0 h) e
    go (no q) = rw (get_or-set_other l i j v 0 q) (r j (omega arith))

pub record Linking (g : Graph) (i : ℕ) (ix : Index) : Type 0 where
  pub here : i ≤ length g.bounds
  pub far : (j : ℕ) → j < i → get_or ix.far j 0 ≡ far_at g j
  pub before : (j : ℕ) → j < i → get_or ix.before j 0 ≡ last_of g j (near_at g j)
  pub last : (x : ℕ) → x < 64 → get_or ix.last x 0 ≡ last_of g i x
  pub full_far : length ix.far ≡ 256
  pub full_before : length ix.before ≡ 256
  pub full_last : length ix.last ≡ 64

pub linking_start : (g : Graph) (declared count : ℕ) → Linking g 0
    (record { declared = declared; count = count; far = replicate 256 0; before = replicate 256 0; last = replicate 64 0 })
unfolding last_of
linking_start g declared count = record {
  here = omega arith;
  far = λ j h. absurd (omega arith);
  before = λ j h. absurd (omega arith);
  last = λ x h. zeros 64 x;
  full_far = refl;
  full_before = refl;
  full_last = refl;
}

-- the index of one bound more
abbrev pub linked_more : Index → ℕ → ℕ → ℕ → ℕ → Index
linked_more ix i x y older = record {
  declared = ix.declared;
  count = ix.count;
  far = set ix.far i y;
  before = set ix.before i older;
  last = set ix.last x (i + 1);
}

far_small : (d : Bool) {bs : List Bound} → Fine bs → (b : Bound) → Memᴰ b bs → far d b < 64
far_small true fine b k = (fine.small b k).0
far_small false fine b k = (fine.small b k).1

near_small : (d : Bool) {bs : List Bound} → Fine bs → (b : Bound) → Memᴰ b bs → near d b < 64
near_small true fine b k = (fine.small b k).1
near_small false fine b k = (fine.small b k).0

module _ {g : Graph} {i n : ℕ} {ix : Index} (inv : Linking g i ix)
    (fine : Fine g.bounds) (all : length g.bounds ≡ n) where
  pub linking_few : n ≤ 256
  linking_few = omega (arith, fine.few)

  pub linking_end : Within g ix.declared → ix.declared ≤ ix.count → ix.count ≤ 64 → n ≤ i → Indexed g ix
  linking_end within declares counted h =
      let done : length g.bounds ≡ i = omega (arith, inv.here) in
      record {
        within = within;
        declares = declares;
        counted = counted;
        chained =
            record {
              few = fine.few;
              small = far_small g.longer fine;
              far = rw done inv.far;
              before = rw done inv.before;
            };
        last = rw done inv.last;
      }

  -- one turn, that reads the bound b
  module _ {b : Bound} (h : i < n) (reads : get_or g.bounds i (above 0 0) ≡ b) where
    pub linking_near : near g.longer b < 64
    linking_near =
        rw (← reads)
        (near_small g.longer fine (get_or g.bounds i (above 0 0)) (at_mem g.bounds i (above 0 0) (omega arith)))

    pub linking_far : far g.longer b < 64
    linking_far =
        rw (← reads)
        (far_small g.longer fine (get_or g.bounds i (above 0 0)) (at_mem g.bounds i (above 0 0) (omega arith)))

    pub linking_more : (x y older : ℕ) → x ≡ near g.longer b → y ≡ far g.longer b → older ≡ get_or ix.last x 0
        → Linking g (i + 1) (linked_more ix i x y older)
    unfolding last_of
    linking_more x y older p q r =
        let is : x ≡ near_at g i = rw reads p in
        let small : x < 64 = rw p linking_near in
        record {
          here = omega arith;
          far = more (far_at g) ix.far i y (omega (arith, inv.full_far, linking_few)) (rw reads q) inv.far;
          before = more (λ j. last_of g j (near_at g j)) ix.before i older (omega (arith, inv.full_before, linking_few))
              (r ∙ inv.last x small ∙ ap (last_of g i) is) inv.before;
          last = λ z k. elim (ℕ_discrete z x) [
            | yes t ↦
                rw (
                  t,
                  get_or-set_same ix.last x (i + 1) 0 (omega (arith, small, inv.full_last)),
                  add-one i,
                  eq-eqb (near_at g i) x (sym is),
                )
            | no t ↦ rw (
              get_or-set_other ix.last x z (i + 1) 0 t,
              add-one i,
              ne_eqb (near_at g i) z (λ u. t (sym u ∙ sym is)),
            ) (inv.last z k)
          ];
          full_far = length-set ix.far i y ∙ inv.full_far;
          full_before = length-set ix.before i older ∙ inv.full_before;
          full_last = length-set ix.last x (i + 1) ∙ inv.full_last;
        }

-- what `link` keeps, of an environment on which no refusal is due
pub record Links (e : LifetimeEnv) (g : Graph) (i : ℕ) (ix : Index) : Type 0 where
  pub linking : Linking g i ix
  pub declared : ix.declared ≡ e.declared
  pub count : ix.count ≡ e.count

-- A turn of `link`: the bound at the place that `place` gives is the i-th linked
module _ (ast d : Bool) (e : LifetimeEnv) (none : NoneDue (env_checks e)) (full : length e.bounds.list ≡ 256) {i : ℕ} {ix : Index}
    (inv : Links e (graph_in (order_of ast) d (bounds_of e)) i ix) where
  v : Valid e
  v = valid e none

  fine : Fine (linked_in (order_of ast) (bounds_of e))
  fine = linked_fine (order_of ast) (bounds_fine v full)

  all : length (linked_in (order_of ast) (bounds_of e)) ≡ e.bounds.pushed
  all = linked_length (order_of ast) (bounds_of e) ∙ bounds_length v full

  pub link_end : e.bounds.pushed ≤ i → Indexed (graph_in (order_of ast) d (bounds_of e)) ix
  link_end h =
      linking_end inv.linking fine all (bounds_within v (order_of ast) d ix.declared (omega (arith, inv.declared)))
      (omega (arith, inv.declared, inv.count, v.declares)) (omega (arith, inv.count, v.counted)) h

  module _ (h : i < e.bounds.pushed) {at : ℕ} (place : at ≡ cond ast (e.bounds.pushed - 1 - i) i) where
    reads : get_or (linked_in (order_of ast) (bounds_of e)) i (above 0 0) ≡ get_or e.bounds.list at (above 0 0)
    reads = linked_at ast e.bounds i at (bounds_length v full) h place

    pub link_near : {x : ℕ} → x ≡ near d (get_or e.bounds.list at (above 0 0)) → x < 64
    link_near p = rw p (linking_near inv.linking fine all h reads)

    pub link_far : {y : ℕ} → y ≡ far d (get_or e.bounds.list at (above 0 0)) → y < 64
    link_far p = rw p (linking_far inv.linking fine all h reads)

    pub link_more : {x y : ℕ} → x ≡ near d (get_or e.bounds.list at (above 0 0)) → y ≡ far d (get_or e.bounds.list at (above 0 0))
        → Links e (graph_in (order_of ast) d (bounds_of e)) (i + 1) (linked_more ix i x y (get_or ix.last x 0))
    link_more {x} {y} p q = record {
      linking = linking_more inv.linking fine all h reads x y (get_or ix.last x 0) p q refl;
      declared = inv.declared;
      count = inv.count;
    }
