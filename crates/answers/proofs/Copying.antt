-- Runs of stores: `sets` of lib.Seq over joined lists, a loop that copies, and what an answer in a lent slice is.
use Prim.Native.Nat.{ℕ, zero, suc, ◌+◌, ◌-◌, ◌≤◌, ◌<◌}
use mathlib.Core.Path.{◌≡◌, refl, sym, ap, ◌∙◌}
use mathlib.Core.List.{List, [], ◌∷◌, ◌++◌}
use native.Mathlib.Nat.{add-zero, zero-add, sub-zero, zero-sub, suc-sub-suc}
use native.Mathlib.Omega.{arith}
use native.Mathlib.Numerals.{add-one}
use lib.ListN.{length, get_or, take, drop, set, replicate, length-set, drop_of_length-le}
use lib.Seq.{drop-cons, get_or-take, length-take-le, set_out, sets, sets-eq}

-- one run after another
pub sets_append : (l : List ℕ) (i : ℕ) (vs ws : List ℕ) → sets l i (vs ++ ws) ≡ sets (sets l i vs) (i + length vs) ws
sets_append l i [] ws = rw add-zero
sets_append l i (v ∷ vs) ws = let e : suc i + length vs ≡ i + suc (length vs) = omega arith in
    sets_append (set l i v) (suc i) vs ws ∙ ap (λ (k : ℕ). sets (sets (set l i v) (suc i) vs) k ws) e

-- a run from the front
pub sets_front : (l vs : List ℕ) → length vs ≤ length l → sets l 0 vs ≡ vs ++ drop (length vs) l
sets_front l vs h = sets-eq vs l 0 (omega arith) ∙ rw zero-add

-- a run of stores past the end changes nothing, and a run cut where there is no more room is the whole run
pub sets_out : (l : List ℕ) (i : ℕ) (vs : List ℕ) → length l ≤ i → sets l i vs ≡ l
sets_out l i [] h = refl
sets_out l i (v ∷ vs) h = rw (set_out l i v h) (sets_out l (suc i) vs (omega arith))

pub sets_cut : (n : ℕ) (l : List ℕ) (i : ℕ) (vs : List ℕ) → length l ≤ i + n → sets l i (take n vs) ≡ sets l i vs
sets_cut zero l i vs h = sym (sets_out l i vs (omega arith))
sets_cut (suc n) l i [] h = refl
sets_cut (suc n) l i (v ∷ vs) h = sets_cut n (set l i v) (suc i) vs (rw (length-set l i v) (omega arith))

pub drop_replicate : {A : Type 0} (n m : ℕ) (x : A) → drop n (replicate m x) ≡ replicate (m - n) x
drop_replicate zero m x = rw sub-zero
drop_replicate (suc n) zero x = rw zero-sub
drop_replicate (suc n) (suc m) x = rw suc-sub-suc (drop_replicate n m x)

-- a loop that copies: what is left, stored from here, is all of it stored from the start
pub record Copying (items : List ℕ) (n at : ℕ) (out₀ out : List ℕ) (i : ℕ) : Type 0 where
  pub here : i ≤ n
  pub size : length out ≡ length out₀
  pub rest : sets out (at + i) (drop i (take n items)) ≡ sets out₀ at (take n items)

pub copying_start : (items : List ℕ) (n at : ℕ) (out : List ℕ) → Copying items n at out out 0
copying_start items n at out = record { here = omega arith; size = refl; rest = rw add-zero }

module _ {items : List ℕ} {n at : ℕ} {out₀ out : List ℕ} {i : ℕ} (inv : Copying items n at out₀ out i) (full : n ≤ length items) where
  pub copying_more : i < n → Copying items n at out₀ (set out (at + i) (get_or items i 0)) (i + 1)
  copying_more h =
      let one : drop i (take n items) ≡ get_or items i 0 ∷ drop (suc i) (take n items) =
      drop-cons (take n items) i 0 (omega (arith, length-take-le n items full)) ∙ rw (get_or-take n items i 0 h) in
      let e : suc (at + i) ≡ at + suc i = omega arith in
      record {
        here = omega arith;
        size = length-set out (at + i) (get_or items i 0) ∙ inv.size;
        rest = rw (add-one i, ← e) (rw one at inv.rest);
      }

  pub copying_end : n ≤ i → out ≡ sets out₀ at (take n items)
  copying_end h = rw (drop_of_length-le (take n items) {i = i} (omega (arith, length-take-le n items full))) at inv.rest
