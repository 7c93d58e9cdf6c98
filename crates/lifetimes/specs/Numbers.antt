-- The two kinds of lifetime: each is its number.
use Rattle.std.specs.Prelude.{ℕ}
use Rattle.lifetimes.specs.declared.lifetime.Lifetime.{Lifetime}
use Rattle.lifetimes.specs.declared.def_lifetime.DefLifetime.{DefLifetime}

-- the method's lifetime with this number
abbrev pub lifetime : ℕ → Lifetime
lifetime n = record { 0 = n }

-- the definition's lifetime with this number
abbrev pub def_lifetime : ℕ → DefLifetime
def_lifetime n = record { 0 = n }
