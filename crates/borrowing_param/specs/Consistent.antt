-- What a crate above may rely on, of the used lifetimes, the answers by parameter and the edges in listing order,
-- without looking into the definitions.
use Rattle.std.specs.Prelude.{ℕ, ◌*◌, ◌≤◌, ◌<◌, ◌≡◌, ◌↔◌, ◌⊎◌, length, get_or}
use mathlib.Core.List.{List, Memᴰ, Pairwise}
use Rattle.lifetimes.specs.Limits.{most_lifetimes}
use Rattle.methods.specs.Method.{most_params}
use Rattle.borrowing_param.specs.declared.visitor.LifetimeEdge.{LifetimeEdge}
use Rattle.borrowing_param.specs.Edges.{most_defs}

-- 01's order of the edges: by used lifetime, parameter, def
abbrev pub Before : LifetimeEdge → LifetimeEdge → Type 0
Before a b =
    (a.used < b.used) ⊎ ((a.used ≡ b.used) × ((a.param < b.param) ⊎ ((a.param ≡ b.param) × (a.def < b.def))))

-- the answers, and the edges, of parameters numbered from 0 and of these used lifetimes
pub record Consistent (used answers : List ℕ) (edges : List LifetimeEdge) : Type 0 where
  pub used_increasing : Pairwise ◌<◌ used
  pub edges_in_order : Pairwise Before edges
  pub edge_used : (e : LifetimeEdge) → Memᴰ e edges → Memᴰ e.used used
  pub edge_param : (e : LifetimeEdge) → Memᴰ e edges → e.param < length answers
  pub edge_def : (e : LifetimeEdge) → Memᴰ e edges → e.def < most_defs
  pub edge_kind : (e : LifetimeEdge) → Memᴰ e edges → (1 ≤ e.kind) × (e.kind ≤ 3)
  pub edge_option : (e : LifetimeEdge) → Memᴰ e edges → e.option ≤ 1
  -- "def and option are 0 but for kind 3"
  pub plain : (e : LifetimeEdge) → Memᴰ e edges → e.kind < 3 → (e.def ≡ 0) × (e.option ≡ 0)
  -- kind 3 exactly where the parameter's answer is 3
  pub struct : (e : LifetimeEdge) → Memᴰ e edges → (e.kind ≡ 3) ↔ (get_or answers e.param 0 ≡ 3)
  pub one_option : (e x : LifetimeEdge) → Memᴰ e edges → Memᴰ x edges → e.param ≡ x.param
      → e.option ≡ x.option
  -- a parameter has an edge exactly if its answer is 2, 3 or 4
  pub borrowed : (p : ℕ) → p < length answers
      → (2 ≤ get_or answers p 0) ↔ ((e : LifetimeEdge) × Memᴰ e edges × (e.param ≡ p))
  pub most : (p : ℕ) → p < length answers → get_or answers p 0 ≤ 4
  pub used_below : (l : ℕ) → Memᴰ l used → l < most_lifetimes
  pub few_used : length used ≤ most_lifetimes
  pub few_params : length answers ≤ most_params
  pub few_edges : length edges ≤ most_lifetimes * (most_params * most_defs)
