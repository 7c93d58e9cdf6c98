-- Where a type ends, one law for each way out of `type_end`.
use Rattle.std.specs.Prelude as prelude
use Rattle.std.specs.Prelude.{Some, None}
use Prim.Native.Nat.{ℕ, zero, suc, ◌+◌, ◌-◌, ◌≤◌, ◌<◌}
use mathlib.Core.Path.{◌≡◌, refl}
use mathlib.Core.List.{List, ◌∷◌}
use native.Mathlib.Numerals.{add-one}
use native.Mathlib.Omega.{arith}
use lib.ListN.{length, get_or, drop, drop_of_length-le}
use lib.Seq.{drop-cons}
use borrow.Author.Tests.{ne_eqb}
use Rattle.records.specs.Reading.{read_lifetimes}
use Rattle.records.specs.Ends.{EndsAt, ends, missing}
use Rattle.records.proofs.EndLaws.{wrapped, wrapped_missing, wrapped_both}
use Rattle.ast_lifetimes.specs.Types.{Named, Reference, Option, Result, read_type}

-- some nesting is allowed, and a word stands there
pub record Stands (words : List ℕ) (at nesting : ℕ) : Type 0 where
  pub some : nesting ≡ 0 → ⊥
  pub here : at < length words

pub type_deep : (words : List ℕ) (at nesting : ℕ) → nesting ≡ 0 → EndsAt words at (read_type nesting (drop at words)) None
unfolding read_type
type_deep words at nesting e = rw e missing

pub type_none : (words : List ℕ) (at nesting : ℕ) → length words ≤ at → EndsAt words at (read_type nesting (drop at words)) None
unfolding read_type
type_none words at zero h = missing
type_none words at (suc nesting) h = rw (drop_of_length-le words {i = at} h) missing

module _ {words : List ℕ} {at nesting : ℕ} (s : Stands words at nesting) where
  code_read : (code : ℕ) → get_or words at 0 ≡ code
      → read_type nesting (drop at words) ≡ read_type (suc (nesting - 1)) (code ∷ drop (at + 1) words)
  code_read code e = let n : suc (nesting - 1) ≡ nesting = omega (arith, s.some) in
      rw (n, add-one, drop-cons words at 0 s.here, e)

  pub type_other : get_or words at 0 ≡ 0 → EndsAt words at (read_type nesting (drop at words)) (Some (at + 1))
  unfolding read_type
  type_other e = rw (code_read 0 e) (ends {next = at + 1} refl (omega arith) (omega (arith, s.here)))

  pub type_path : get_or words at 0 ≡ 1 → {r : prelude.Option ℕ} → EndsAt words (at + 1) (read_lifetimes (drop (at + 1) words)) r
      → EndsAt words at (read_type nesting (drop at words)) r
  unfolding read_type
  type_path e h = rw (code_read 1 e) (wrapped at (omega arith) Named h)

  pub type_reference_short : get_or words at 0 ≡ 2 → length words ≤ at + 1 → EndsAt words at (read_type nesting (drop at words)) None
  unfolding read_type
  type_reference_short e h = rw (code_read 2 e, drop_of_length-le words {i = at + 1} h) missing

  pub type_reference : get_or words at 0 ≡ 2 → at + 1 < length words → {r : prelude.Option ℕ}
      → EndsAt words (at + 1 + 1) (read_type (nesting - 1) (drop (at + 1 + 1) words)) r
      → EndsAt words at (read_type nesting (drop at words)) r
  unfolding read_type
  type_reference e l h =
      rw (code_read 2 e, drop-cons words (at + 1) 0 l, ← add-one (at + 1))
      (wrapped at (omega arith) (Reference (get_or words (at + 1) 0)) h)

  pub type_option : get_or words at 0 ≡ 3 → {r : prelude.Option ℕ}
      → EndsAt words (at + 1) (read_type (nesting - 1) (drop (at + 1) words)) r
      → EndsAt words at (read_type nesting (drop at words)) r
  unfolding read_type
  type_option e h = rw (code_read 3 e) (wrapped at (omega arith) Option h)

  module _ (e : get_or words at 0 ≡ 4) where
    pub type_result_missing : EndsAt words (at + 1) (read_type (nesting - 1) (drop (at + 1) words)) None
        → EndsAt words at (read_type nesting (drop at words)) None
    unfolding read_type
    type_result_missing h = rw (code_read 4 e) (wrapped_missing at (read_type (nesting - 1)) Result h)

    pub type_result : {second : ℕ} {r : prelude.Option ℕ} → EndsAt words (at + 1) (read_type (nesting - 1) (drop (at + 1) words)) (Some second)
        → EndsAt words second (read_type (nesting - 1) (drop second words)) r → EndsAt words at (read_type nesting (drop at words)) r
    unfolding read_type
    type_result h k = rw (code_read 4 e) (wrapped_both at (omega arith) (read_type (nesting - 1)) Result h k)

  pub type_no_code : (get_or words at 0 ≡ 0 → ⊥) → (get_or words at 0 ≡ 1 → ⊥) → (get_or words at 0 ≡ 2 → ⊥)
      → (get_or words at 0 ≡ 3 → ⊥) → (get_or words at 0 ≡ 4 → ⊥)
      → EndsAt words at (read_type nesting (drop at words)) None
  unfolding read_type
  type_no_code e₀ e₁ e₂ e₃ e₄ =
      rw (code_read (get_or words at 0) refl, ne_eqb _ _ e₀, ne_eqb _ _ e₁, ne_eqb _ _ e₂, ne_eqb _ _ e₃, ne_eqb _ _ e₄)
      missing
