-- The limits of an environment (01: "total count (at most 64), bounds in push order (at most 256)").
use Rattle.std.specs.Prelude.{ℕ}

-- lifetimes, declared and elided; so many a set can tell apart, too
abbrev pub most_lifetimes : ℕ
most_lifetimes = 64

abbrev pub most_bounds : ℕ
most_bounds = 256
