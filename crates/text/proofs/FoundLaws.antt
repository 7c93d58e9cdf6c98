-- What an answer of `read_number` says of the bytes, for whoever reads on behind the number.
use Prim.Native.Nat.{ℕ, suc, ◌+◌, ◌≤◌, ◌<◌}
use mathlib.Core.Bool.{Bool, true, false, cond}
use mathlib.Core.Path.{◌≡◌, refl, sym, ap, ◌∙◌}
use mathlib.Core.List.{List, [], ◌∷◌}
use Rattle.std.specs.Prelude.{Option, None, Some}
use native.Mathlib.Omega.{arith}
use lib.ListN.{length, get_or, drop, length-drop}
use lib.Seq.{drop-cons, drop-drop}
use Rattle.text.specs.declared.number.Found.{Found}
use Rattle.text.specs.Number.{is_digit, digits_in, behind_digits, number_in, found_to, found_at}
use Rattle.text.specs.Theorems.{NoDigit}
use Rattle.text.proofs.NumberLaws.{digits_in_lem, none_in}
use Rattle.text.proofs.InverseLaws.{none_behind}

-- no more digits than bytes; one at least where there is a number; none where the first byte is none
digits_inside : (bytes : List ℕ) → length (digits_in bytes) ≤ length bytes
unfolding digits_in
digits_inside [] = omega arith
digits_inside (b ∷ bytes) = go (is_digit b) (digits_inside bytes)
  where
    go : (t : Bool) → length (digits_in bytes) ≤ length bytes → length (cond t (b ∷ digits_in bytes) []) ≤ suc (length bytes)
    go true h = omega (arith, h)
    go false h = omega arith

some_digit : (limit : ℕ) (bytes : List ℕ) (n : ℕ) → number_in limit bytes ≡ Some n → 1 ≤ length (digits_in bytes)
some_digit limit bytes n e = go (digits_in bytes) refl
  where
    go : (ds : List ℕ) → digits_in bytes ≡ ds → 1 ≤ length ds
    go [] q = let k = none_in limit bytes q in let z : ◌≡◌ {A = ℕ} 0 1 = cc in absurd (omega arith)
    go (d ∷ ds) q = omega arith

no_digit_first : (b : ℕ) (bytes : List ℕ) → NoDigit (b ∷ bytes) → is_digit b ≡ false
no_digit_first b bytes e = go (is_digit b) refl
  where
    go : (t : Bool) → is_digit b ≡ t → is_digit b ≡ false
    go true q = let k = digits_in_lem b bytes q in let z : ◌≡◌ {A = ℕ} 0 1 = cc in absurd (omega arith)
    go false q = q

-- a number stands from one place to another, and no digit behind it
pub record StandsAt (limit : ℕ) (bytes : List ℕ) (from value at : ℕ) : Type 0 where
  pub number : number_in limit (drop from bytes) ≡ Some value
  pub rest : behind_digits (drop from bytes) ≡ drop at bytes
  pub after : from < at
  pub inside : at ≤ length bytes
  pub stops : at < length bytes → is_digit (get_or bytes at 0) ≡ false

module _ (limit : ℕ) (bytes : List ℕ) (from : ℕ) where
  parts : (f : Found) (to : ℕ) (o : Option ℕ) → found_to to o ≡ Some f → (o ≡ Some f.value) × (to ≡ f.at)
  parts f to None e = let z : ◌≡◌ {A = ℕ} 0 1 = cc in absurd (omega arith)
  parts f to (Some n) e =
      let same : record { value = n; at = to } ≡ f = cc in
      (ap (λ (x : Found). Some x.value) same, ap (λ (x : Found). x.at) same)

  no_parts : (to : ℕ) (o : Option ℕ) → found_to to o ≡ None → o ≡ None
  no_parts to None e = refl
  no_parts to (Some n) e = let z : ◌≡◌ {A = ℕ} 0 1 = cc in absurd (omega arith)

  pub found_stands : {f : Found} → found_at limit bytes from ≡ Some f → StandsAt limit bytes from f.value f.at
  unfolding found_at
  found_stands {f} e =
      let value = f.value in
      let at = f.at in
      let p = parts f (from + length (digits_in (drop from bytes))) (number_in limit (drop from bytes)) e in
      let some = some_digit limit (drop from bytes) value p.0 in
      let size = length-drop from bytes in
      let inside : at ≤ length bytes = omega (arith, p.1, some, size, digits_inside (drop from bytes)) in
      let rest : behind_digits (drop from bytes) ≡ drop at bytes =
      drop-drop (length (digits_in (drop from bytes))) from bytes ∙ rw p.1 in
      record {
        number = p.0;
        rest = rest;
        after = omega (arith, p.1, some);
        inside = inside;
        stops = λ h. no_digit_first (get_or bytes at 0) (drop (suc at) bytes)
            (ap digits_in (sym (rest ∙ drop-cons bytes at 0 h)) ∙ none_behind (drop from bytes));
      }

  pub found_nothing : found_at limit bytes from ≡ None → number_in limit (drop from bytes) ≡ None
  unfolding found_at
  found_nothing e = no_parts (from + length (digits_in (drop from bytes))) (number_in limit (drop from bytes)) e
