-- For private functions only: searching, counting and storing the edges of one parameter. No public contract cites this
-- file.
use Rattle.std.specs.Prelude.{ℕ, zero, suc, ◌+◌, ◌*◌, ◌^◌, ◌≤◌, ◌<◌, Bool, cond, ◌≡◌, eqb}
use Rattle.std.specs.Prelude.{Option, length, get_or, take, drop}
use mathlib.Core.List.{List, map, flat_map}
use Rattle.std.proofs.lemmas.List.Edits.{sets}
use Rattle.lifetimes.specs.LoweredWords.{from_word}
use Rattle.lifetimes.specs.Limits.{most_lifetimes}
use Rattle.lifetimes.specs.Sets.{members}
use Rattle.records.specs.Reading.{Reading, onward}
use Rattle.hir_types.specs.declared.types.Kind.{Kind}
use Rattle.hir_types.specs.declared.types.Kind.TheVariants.{Plain, Opaque, Struct, Slice}
use Rattle.hir_types.specs.declared.types.Parts.{Parts}
use Rattle.hir_types.specs.LoweredTypes.{LoweredType, read_lowered}
use Rattle.hir_types.specs.Places.{Locates, CodedAt}
use Rattle.borrowing_param.specs.declared.visitor.LifetimeEdge.{LifetimeEdge}
use Rattle.borrowing_param.specs.Edges.{width, edge_words}
use Rattle.borrowing_param.specs.Brings.{drawn, struct_edges, option_of, bring, notes}
use Rattle.borrowing_param.specs.Visit.{draws_in}

-- a type by its parts and its path words
abbrev pub typed : Parts → List ℕ → LoweredType
typed p path = record { option = p.option; kind = p.kind; path = path; own = p.own }

-- the type that stands in some words by its parts
abbrev pub type_in : List ℕ → Parts → LoweredType
type_in words p = typed p (take p.count (drop p.from words))

-- how many edges a type brings to one used lifetime, and to all
pub record CountsFor (draws : ℕ → Bool) (t : LoweredType) (n : ℕ) : Type 0 where
  pub counts : (used param : ℕ) → n ≡ length (bring draws used param t)

-- all lifetimes of a set are below a number that is itself within the limit
abbrev pub SetBelow : ℕ → ℕ → Type 0
SetBelow set limit = (limit ≤ most_lifetimes) × (set < 2 ^ limit)

-- what it brings to all, by the set of the used ones and the sets that draw
abbrev pub all_in : ℕ → List ℕ → LoweredType → ℕ → List LifetimeEdge
all_in used drawn t param = flat_map (λ l. bring (draws_in (get_or drawn l 0)) l param t) (members used)

pub record CountsAll (used : ℕ) (drawn : List ℕ) (t : LoweredType) (n : ℕ) : Type 0 where
  pub counts : (param : ℕ) → n ≡ length (all_in used drawn t param)

-- the edges of a struct
abbrev pub struct_of : (ℕ → Bool) → ℕ → ℕ → LoweredType → List LifetimeEdge
struct_of draws used param t = struct_edges draws used param (option_of t.option) 0 (map from_word t.path)

-- some edges were stored behind so many: how many there are then, and the words; and their pairs
pub record StoresWords (es : List LifetimeEdge) (at : ℕ) (words : List ℕ) (at₁ : ℕ) (words₁ : List ℕ) : Type 0 where
  pub count : at₁ ≡ at + length es
  pub stored : words₁ ≡ sets words (width * at) (flat_map edge_words es)

pub record Stores (es : List LifetimeEdge) (at : ℕ) (pairs words : List ℕ) (at₁ : ℕ)
    (pairs₁ words₁ : List ℕ) : Type 0 where
  pub stores : StoresWords es at words at₁ words₁
  pub carries : pairs₁ ≡ notes pairs es

-- the type with a number, one after another from the front of some words
unfoldable pub nth_type : ℕ → List ℕ → Reading LoweredType
nth_type zero words = read_lowered words
nth_type (suc n) words = onward (read_lowered words) (λ t rest. nth_type n rest)

pub record FoundAt (words : List ℕ) (n : ℕ) (r : Option Parts) : Type 0 where
  pub at : ℕ
  pub found : Locates words at (nth_type n words) r
  pub coded : CodedAt words r

-- the answer's number by the kind and by how many edges there are
abbrev pub number_by : Kind → ℕ → ℕ
number_by Plain n = 0
number_by Opaque n = cond (eqb n 0) 0 4
number_by Slice n = cond (eqb n 0) 1 2
number_by (Struct row) n = cond (eqb n 0) 0 3
