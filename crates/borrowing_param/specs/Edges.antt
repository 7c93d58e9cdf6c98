-- An edge, and its words in a lent slice. `width` is how many they are; in the code it is `EDGE_WORDS`.
use Rattle.std.specs.Prelude.{ℕ, zero, suc, ◌*◌, ◌/◌, cond, ltb, length, get_or, drop, Some, None, Option}
use mathlib.Core.List.{List, [], ◌∷◌, filter}
use Rattle.std.proofs.Math.Decide.{ℕ_discrete}
use Rattle.borrowing_param.specs.declared.visitor.LifetimeEdge.{LifetimeEdge}

-- 01: "An edge is the values of its listing line": used lifetime, parameter, kind (1 opaque, 2 slice, 3 struct),
-- definition lifetime, option
abbrev pub edge : ℕ → ℕ → ℕ → ℕ → ℕ → LifetimeEdge
edge used param kind def option = record { used = used; param = param; kind = kind; def = def; option = option }

abbrev pub width : ℕ
width = 5

-- how many lifetimes a struct's definition has at most, and so how many path words a type
abbrev pub most_defs : ℕ
most_defs = 16

abbrev pub edge_words : LifetimeEdge → List ℕ
edge_words e = e.used ∷ e.param ∷ e.kind ∷ e.def ∷ e.option ∷ []

-- the edge that the first words of a list say
abbrev pub edge_at : List ℕ → LifetimeEdge
edge_at words = edge (get_or words 0 0) (get_or words 1 0) (get_or words 2 0) (get_or words 3 0) (get_or words 4 0)

-- the first n edges of a slice
unfoldable pub edges_in : ℕ → List ℕ → List LifetimeEdge
edges_in zero words = []
edges_in (suc n) words = edge_at words ∷ edges_in n (drop width words)

-- the edge with a number, from 0, of those that a slice has room for
abbrev pub edge_in : List ℕ → ℕ → Option LifetimeEdge
edge_in words place = cond (ltb place (length words / width)) (Some (edge_at (drop (width * place) words))) None

-- the edges of a used lifetime, in order
abbrev pub edges_of : ℕ → List LifetimeEdge → List LifetimeEdge
edges_of used es = filter (λ (e : LifetimeEdge). ℕ_discrete e.used used) es
