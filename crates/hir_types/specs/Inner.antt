-- For private functions only: the parts of a type that is no option, and where a reading ends that may be of no word at
-- all. No public contract cites this file.
use Rattle.std.specs.Prelude.{ℕ, ◌+◌, ◌≤◌, Bool, ◌≡◌, List, length, drop, Some, None, Option}
use Rattle.records.specs.Reading.{Reading, Read, Fails}
use Rattle.hir_types.specs.LoweredTypes.{LoweredType}
use Rattle.hir_types.specs.Places.{Locates}
use Rattle.hir_types.specs.declared.types.Parts.{Parts}

-- a type that is no option: its path words start three places behind it
abbrev pub starts_at : Bool → ℕ → Option Parts → Type 0
starts_at option start (Some p) = (p.option ≡ option) × (p.from ≡ start)
starts_at option start None = Unit {0}

pub record LocatesBare (words : List ℕ) (at : ℕ) (option : Bool) (reading : Reading LoweredType)
    (r : Option Parts) : Type 0 where
  pub found : Locates words at reading r
  pub start : starts_at option (at + 3) r

-- where a reading ends that may be of no word at all
pub data EndsFrom {A : Type 0} (words : List ℕ) (at : ℕ) : Reading A → Option ℕ → Type 0 where
  ends : {a : A} {rest : List ℕ} {next : ℕ} → drop next words ≡ rest → at ≤ next → next ≤ length words
      → EndsFrom words at (Read a rest) (Some next)
  missing : EndsFrom words at Fails None
