-- Laws of bounds: how a loop reads them, from the first to the last; a larger limit; bounds that are made, and with one
-- more. Then the loop of `Bounds::check`.
use Rattle.std.specs.Prelude.{Ok, Err}
use Prim.Native.Nat.{ℕ, ◌+◌, ◌-◌, ◌≤◌, ◌<◌}
use mathlib.Core.Bool.{Bool, true, false, ◌&&◌, and-eq-true_iff}
use mathlib.Core.Path.{◌≡◌, refl, ◌∙◌}
use mathlib.Core.List.{List, [], ◌∷◌, ◌++◌, Memᴰ}
use native.Mathlib.Numerals.{add-one}
use native.Mathlib.Omega.{arith}
use borrow.Author.Tests.{lt-ltb, le-ltb, ltb-true}
use lib.Dec.{ltb}
use lib.ListN.{length, get_or, drop, replicate, set, take, length-take, drop_of_length-le}
use lib.Seq.{get_or-take, drop-cons, take-append_seam, take-suc-set}
use Rattle.answers.specs.declared.Refusal.TheVariants.{Full, OutOfRange}
use Rattle.answers.specs.Lists.{all}
use Rattle.answers.specs.Refusals.{unless}
use Rattle.answers.specs.Lent.{judged}
use Rattle.answers.proofs.ListLaws.{all_has, has_all, all_append}
use Rattle.lifetimes.specs.declared.bounds.Bound.{Bound}
use Rattle.lifetimes.specs.declared.bounds.Bounds.{Bounds}
use Rattle.lifetimes.specs.Bounds.{above, list_of, bounds_from, both_below, all_below, bounds_checks}

-- ---- reading

module _ (b : Bounds) (i : ℕ) where
  pub bound_read : length b.list ≡ 256 → b.pushed ≤ 256 → i < b.pushed
      → drop i (list_of b) ≡ get_or b.list i (above 0 0) ∷ drop (i + 1) (list_of b)
  bound_read full few h =
      drop-cons (list_of b) i (above 0 0) (simp length-take (omega arith))
      ∙ rw (add-one, get_or-take b.pushed b.list i (above 0 0) h)

  pub bounds_read : b.pushed ≤ i → drop i (list_of b) ≡ []
  bounds_read h = drop_of_length-le (list_of b) {i = i} (simp length-take (omega arith))

-- ---- both sides below a limit

pub both_below_lem : {n : ℕ} (b : Bound) → both_below n b ≡ true → (b.longer < n) × (b.shorter < n)
both_below_lem {n} b e =
    let both = (and-eq-true_iff (ltb b.longer n) (ltb b.shorter n)).0 e in
    (ltb-true b.longer n both.0, ltb-true b.shorter n both.1)

pub below_both : {n : ℕ} (b : Bound) → b.longer < n → b.shorter < n → both_below n b ≡ true
below_both {n} b l s = rw (lt-ltb b.longer n l, lt-ltb b.shorter n s)

pub all_below_lem : (n : ℕ) (bs : List Bound) → all_below n bs ≡ true → (b : Bound) → Memᴰ b bs
    → (b.longer < n) × (b.shorter < n)
all_below_lem n bs h b k = both_below_lem b (all_has (both_below n) bs h b k)

pub below_larger : (m n : ℕ) → m ≤ n → (bs : List Bound) → all_below m bs ≡ true → all_below n bs ≡ true
below_larger m n h bs e =
    has_all (both_below n) bs
    (λ b k. let sides = all_below_lem m bs e b k in below_both b (omega (arith, sides.0)) (omega (arith, sides.1)))

pub below_append : (n : ℕ) (bs cs : List Bound) → all_below n bs ≡ true → all_below n cs ≡ true → all_below n (bs ++ cs) ≡ true
below_append n bs cs b c = rw (all_append (both_below n) bs cs, b, c)

-- ---- bounds that are made, and with one more

pub bounds_made : (bs : List Bound) → list_of (bounds_from bs) ≡ bs
unfolding bounds_from
bounds_made bs = take-append_seam bs (replicate (256 - length bs) (above 0 0))

pub bounds_pushed : (n : ℕ) (b : Bounds) (x : Bound) → length b.list ≡ 256 → b.pushed < 256
    → all_below n (take (b.pushed + 1) (set b.list b.pushed x)) ≡ all_below n (list_of b) && both_below n x
unfolding all
bounds_pushed n b x full h =
    rw (add-one, take-suc-set b.list b.pushed x (omega arith), all_append (both_below n) (list_of b) (x ∷ []))
    (go (all_below n (list_of b)) (both_below n x))
  where
    go : (s t : Bool) → s && (t && true) ≡ s && t
    go s true = refl
    go s false = refl

-- ---- `Bounds::check`: the bounds that were read are within the limit

pub check_many : (n : ℕ) (b : Bounds) → 256 < b.pushed → Err Full ≡ judged (bounds_checks n b)
unfolding unless
check_many n b h = rw (lt-ltb 256 b.pushed h)

pub record Checking (n : ℕ) (b : Bounds) (i : ℕ) : Type 0 where
  pub few : b.pushed ≤ 256
  pub left : all_below n (list_of b) ≡ all_below n (drop i (list_of b))

module _ {n : ℕ} {b : Bounds} {i : ℕ} (inv : Checking n b i) where
  pub checking_end : b.pushed ≤ i → Ok (tt {0}) ≡ judged (bounds_checks n b)
  unfolding unless all
  checking_end h = rw (le-ltb 256 b.pushed inv.few, inv.left, bounds_read b i h)

  module _ (full : length b.list ≡ 256) (h : i < b.pushed) where
    pub checking_refused : both_below n (get_or b.list i (above 0 0)) ≡ false → Err OutOfRange ≡ judged (bounds_checks n b)
    unfolding unless all
    checking_refused f = rw (le-ltb 256 b.pushed inv.few, inv.left, bound_read b i full inv.few h, f)

    pub checking_more : both_below n (get_or b.list i (above 0 0)) ≡ true → Checking n b (i + 1)
    unfolding all
    checking_more t = record { few = inv.few; left = inv.left ∙ rw (bound_read b i full inv.few h, t) }
