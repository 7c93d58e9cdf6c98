-- Names: the number of a name is what the library's `position` gives, and it is its place.
use Rattle.std.specs.Prelude.{Option, Some, None, Ok, Err}
use Prim.Native.Nat.{ℕ, suc, ◌+◌}
use mathlib.Core.Bool.{Bool, true, false, cond, not}
use mathlib.Core.Path.{◌≡◌, refl, sym, ap, ◌∙◌}
use mathlib.Core.List.{List, [], ◌∷◌}
use native.Mathlib.Numerals.{one-add}
use lib.Dec.{eqb}
use Rattle.std.specs.List.{position_or_len}
use Rattle.std.specs.Option.{is_some, ok_or}
use Rattle.answers.specs.declared.Refusal.{Refusal}
use Rattle.answers.specs.Refusals.{Outcome}
use Rattle.ast_lifetimes.proofs.OptionLaws.{ok_or_missing, ok_or_found}
use Rattle.ast_lifetimes.specs.Env.{place, is_declared, id_of}

place_position : (names : List ℕ) (word : ℕ) → position_or_len (λ name. eqb name word) names ≡ place names word
unfolding place
place_position [] word = refl
place_position (name ∷ names) word = go (eqb name word) (place_position names word)
  where
    go : (t : Bool) → position_or_len (λ name. eqb name word) names ≡ place names word
        → cond (not t) (1 + position_or_len (λ name. eqb name word) names) 0 ≡ cond t 0 (suc (place names word))
    go true h = refl
    go false h = one-add _ ∙ ap suc h

-- a number is given where the name is declared
pub number_place : (names : List ℕ) (word : ℕ) → id_of names word ≡ cond (is_declared names word) (Some (place names word)) None
number_place names word = rw (place_position names word)

module _ (names : List ℕ) (word : ℕ) where
  pub number_none : id_of names word ≡ None → is_declared names word ≡ false
  number_none e = go (is_declared names word) refl
    where
      go : (t : Bool) → is_declared names word ≡ t → is_declared names word ≡ false
      go true h = absurd (let q : ◌≡◌ {A = Option ℕ} None (Some (place names word)) = sym e ∙ number_place names word ∙ rw h in cc)
      go false h = h

  pub number_some : {at : ℕ} → id_of names word ≡ Some at → (is_declared names word ≡ true) × (at ≡ place names word)
  number_some {at} e = go (is_declared names word) refl
    where
      go : (t : Bool) → is_declared names word ≡ t → (is_declared names word ≡ true) × (at ≡ place names word)
      go true h = (h, let q : ◌≡◌ {A = Option ℕ} (Some at) (Some (place names word)) = sym e ∙ number_place names word ∙ rw h in cc)
      go false h = absurd (let q : ◌≡◌ {A = Option ℕ} (Some at) None = sym e ∙ number_place names word ∙ rw h in cc)

  pub number_is_some : {r : Option ℕ} → r ≡ id_of names word → is_some r ≡ is_declared names word
  number_is_some e = rw (e, number_place names word) (go (is_declared names word))
    where
      go : (t : Bool) → is_some (cond t (Some (place names word)) None) ≡ t
      go true = refl
      go false = refl

  -- a number or a refusal
  module _ {r : Option ℕ} (e : r ≡ id_of names word) (x : Refusal) {o : Outcome ℕ} (f : o ≡ ok_or r x) where
    pub missing : {y : Refusal} → o ≡ Err y → (is_declared names word ≡ false) × (y ≡ x)
    missing k = let m = ok_or_missing x f k in (number_none (sym e ∙ m.0), m.1)

    pub found : {at : ℕ} → o ≡ Ok at → (is_declared names word ≡ true) × (at ≡ place names word)
    found k = number_some (sym e ∙ ok_or_found x f k)
