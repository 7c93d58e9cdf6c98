-- The loop of `advance`: the entries passed over were seen.
use Rattle.std.specs.Prelude.{Some, None}
use Prim.Native.Nat.{ℕ, ◌+◌, ◌≤◌, ◌<◌}
use mathlib.Core.Bool.{true, false}
use mathlib.Core.Path.{◌≡◌, sym, ◌∙◌}
use mathlib.Core.List.{List, ◌∷◌}
use native.Mathlib.Omega.{arith}
use native.Mathlib.Numerals.{add-one}
use lib.ListN.{length, get_or}
use Rattle.lifetimes.specs.declared.index.Index.{Index}
use Rattle.lifetimes.specs.declared.lifetime.Lifetime.{Lifetime}
use Rattle.lifetimes.specs.Sets.{member}
use Rattle.lifetimes.specs.Bounds.{above}
use Rattle.lifetimes.specs.Index.{Graph, near_at, chain, chains, pending, skip, Chained, Ready, Steps}
use Rattle.lifetimes.proofs.ChainLaws.{at_mem, last_le, chain_more}

pub record Skipping (g : Graph) (stack : List ℕ) (seen at₀ depth₀ at depth : ℕ) : Type 0 where
  pub skips : skip seen (pending g stack at depth) ≡ skip seen (pending g stack at₀ depth₀)
  pub here : at ≤ length g.bounds
  pub deep : depth ≤ depth₀

module _ {g : Graph} {ix : Index} {stack : List ℕ} (ch : Chained g ix) {seen at₀ depth₀ : ℕ}
    (ready : Ready g stack at₀ depth₀) {at depth : ℕ} (inv : Skipping g stack seen at₀ depth₀ at depth) where
  -- the stack's last chain is taken
  module _ (z : at ≡ 0) (k : ℕ) (e : depth ≡ k + 1) where
    pub skipping_top : get_or stack k 0 ≤ length g.bounds
    skipping_top = ready.held k (omega (arith, inv.deep))

    pub skipping_pop : Skipping g stack seen at₀ depth₀ (get_or stack k 0) k
    unfolding chain chains
    skipping_pop = record { skips = (rw (z, e, add-one k) at inv.skips); here = skipping_top; deep = omega (arith, inv.deep) }

  pub skipping_end : at ≡ 0 → depth ≡ 0 → Steps g stack seen at₀ depth₀ (record { next = None; at = at; depth = depth })
  unfolding chain chains skip
  skipping_end z e = record { skips = sym (rw (z, e) at inv.skips); here = inv.here; deep = inv.deep }

  -- the chain's next bound
  module _ (i : ℕ) (e : at ≡ i + 1) where
    inside : i < length g.bounds
    inside = omega (arith, inv.here)

    pub skipping_far : get_or ix.far i 0 < 64
    skipping_far = rw (ch.far i inside) (ch.small (get_or g.bounds i (above 0 0)) (at_mem g.bounds i (above 0 0) inside))

    pub skipping_before : get_or ix.before i 0 ≤ i
    skipping_before = rw (ch.before i inside) (last_le g i (near_at g i))

    one : chain g at ≡ get_or ix.far i 0 ∷ chain g (get_or ix.before i 0)
    one = rw (e, add-one i, chain_more g i, ch.far i inside, ch.before i inside)

    pub skipping_seen : member seen (get_or ix.far i 0) ≡ true → Skipping g stack seen at₀ depth₀ (get_or ix.before i 0) depth
    unfolding skip
    skipping_seen m = record {
      skips = (rw (one, m) at inv.skips);
      here = omega (arith, skipping_before, inside);
      deep = inv.deep;
    }

    pub skipping_found : member seen (get_or ix.far i 0) ≡ false → (l : Lifetime) → l.0 ≡ get_or ix.far i 0
        → Steps g stack seen at₀ depth₀ (record { next = Some l; at = get_or ix.before i 0; depth = depth })
    unfolding skip
    skipping_found m l f = record {
      skips = sym (rw (one, m) at inv.skips) ∙ rw f;
      here = omega (arith, skipping_before, inside);
      deep = inv.deep;
    }
