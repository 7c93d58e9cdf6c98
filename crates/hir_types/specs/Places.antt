-- For private functions only: where a type's words stand, and its code. Both follow from the answer of `type_at`
-- (proofs/LocatedLaws.antt); no public contract cites this file.
use Rattle.std.specs.Prelude.{ℕ, ◌-◌, ◌≤◌, ◌<◌, ◌≡◌, List, length, get_or, take, drop, Some, None, Option}
use Rattle.records.specs.Reading.{Reading, Read, Fails, most_list}
use Rattle.hir_types.specs.declared.types.Kind.{Kind}
use Rattle.hir_types.specs.declared.types.Kind.TheVariants.{Plain, Opaque, Struct, Slice}
use Rattle.hir_types.specs.declared.types.Parts.{Parts}
use Rattle.hir_types.specs.LoweredTypes.{LoweredType}

-- the parts of a type that stands at a place and is followed by some words
pub record Stands (words : List ℕ) (at : ℕ) (t : LoweredType) (rest : List ℕ) (p : Parts) : Type 0 where
  pub option : p.option ≡ t.option
  pub kind : p.kind ≡ t.kind
  pub count : p.count ≡ length t.path
  pub few : p.count ≤ most_list
  pub path : take p.count (drop p.from words) ≡ t.path
  pub own : p.own ≡ t.own
  pub left : drop p.next words ≡ rest
  pub past : at < p.next
  pub within : p.next ≤ length words

pub data Locates (words : List ℕ) (at : ℕ) : Reading LoweredType → Option Parts → Type 0 where
  locates : {t : LoweredType} {rest : List ℕ} {p : Parts} → Stands words at t rest p
      → Locates words at (Read t rest) (Some p)
  nowhere : Locates words at Fails None

-- the code with which a type of a kind begins
abbrev pub code_of : Kind → ℕ
code_of Plain = 0
code_of Opaque = 1
code_of (Struct row) = 2
code_of Slice = 3

-- it stands three places before the path words, under an option or not
abbrev pub code_in : List ℕ → Parts → ℕ
code_in words p = get_or words (p.from - 3) 0

pub record Coded (words : List ℕ) (p : Parts) : Type 0 where
  pub behind : 3 ≤ p.from
  pub inside : p.from - 3 < length words
  pub code : code_in words p ≡ code_of p.kind

abbrev pub CodedAt : List ℕ → Option Parts → Type 0
CodedAt words (Some p) = Coded words p
CodedAt words None = Unit {0}
