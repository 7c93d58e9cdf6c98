-- The main theorem of this crate, stated. Its proof, a term of exactly this type and of the same name in small letters,
-- is in proofs/Theorems.antt.
use Rattle.std.specs.Prelude.{ℕ, ◌<◌, ◌≡◌, length, get_or, slice_get, Some, None}
use Rattle.lifetimes.specs.declared.maybe_static.MaybeStatic.TheVariants.{NonStatic}
use Rattle.lifetimes.specs.Numbers.{lifetime}
use Rattle.lifetimes.specs.LoweredWords.{from_word}
use Rattle.hir_types.specs.declared.types.Own.TheVariants as own
use Rattle.hir_types.specs.LoweredTypes.{LoweredType, lifetimes_of}

-- `Type::lifetimes` by index (01: "gives path words, then the borrow; `Strs` gives the lifetime numbered 2^64 − 1"):
-- what stands at each index
pub record ListsLifetimes (t : LoweredType) : Type 0 where
  pub path : (i : ℕ) → i < length t.path → slice_get (lifetimes_of t) i ≡ Some (from_word (get_or t.path i 0))
  pub borrow : (word : ℕ) → t.own ≡ own.Word word
      → slice_get (lifetimes_of t) (length t.path) ≡ Some (from_word word)
  pub strs : t.own ≡ own.Strs
      → slice_get (lifetimes_of t) (length t.path) ≡ Some (NonStatic (lifetime 18446744073709551615))
  pub unborrowed : t.own ≡ own.Absent → slice_get (lifetimes_of t) (length t.path) ≡ None
  pub past : (i : ℕ) → length t.path < i → slice_get (lifetimes_of t) i ≡ None

abbrev pub LifetimesInOrder : Type 0
LifetimesInOrder = (t : LoweredType) → ListsLifetimes t
