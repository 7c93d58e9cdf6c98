-- An environment on which no refusal is due can be indexed, and all that its bounds lead to is declared.
use Prim.Native.Nat.{ℕ, zero, suc, ◌≤◌}
use mathlib.Core.Bool.{Bool}
use mathlib.Core.Path.{◌≡◌, refl}
use native.Mathlib.Omega.{arith}
use lib.ListN.{length, get_or, replicate, length-take}
use Rattle.lifetimes.specs.declared.env.LifetimeEnv.{LifetimeEnv}
use Rattle.lifetimes.specs.Env.{bounds_of}
use Rattle.lifetimes.specs.Walk.{Order}
use Rattle.lifetimes.specs.Index.{Fine, graph_in, Within}
use Rattle.lifetimes.proofs.EnvLaws.{Valid, far_declared}
use Rattle.lifetimes.proofs.ReverseLaws.{linked_in_lem}

module _ {e : LifetimeEnv} (v : Valid e) where
  pub bounds_length : length e.bounds.list ≡ 256 → length (bounds_of e) ≡ e.bounds.pushed
  bounds_length full = simp length-take (omega (arith, v.few))

  pub bounds_fine : length e.bounds.list ≡ 256 → Fine (bounds_of e)
  bounds_fine full = record {
    few = omega (arith, bounds_length full, v.few);
    small = λ b k. let h = v.below b k in omega (arith, h, v.declares, v.counted);
  }

  pub bounds_within : (o : Order) (d : Bool) (n : ℕ) → e.declared ≤ n → Within (graph_in o d (bounds_of e)) n
  bounds_within o d n h b k = omega (arith, far_declared d v b (linked_in_lem o (bounds_of e) k))

pub zeros : (n x : ℕ) → ◌≡◌ {A = ℕ} (get_or (replicate n 0) x 0) 0
zeros zero x = refl
zeros (suc n) zero = refl
zeros (suc n) (suc x) = zeros n x
