-- For private functions only: where a reading ends that starts at a place of some words. No public contract cites this
-- file.
use Rattle.std.specs.Prelude.{ℕ, ◌≤◌, ◌<◌, ◌≡◌, List, length, drop, Some, None, Option}
use Rattle.records.specs.Reading.{Reading, Read, Fails}

-- it ends past that place, and what is left there is what the reading leaves
pub data EndsAt {A : Type 0} (words : List ℕ) (at : ℕ) : Reading A → Option ℕ → Type 0 where
  ends : {a : A} {rest : List ℕ} {next : ℕ} → drop next words ≡ rest → at < next → next ≤ length words
      → EndsAt words at (Read a rest) (Some next)
  missing : EndsAt words at Fails None
