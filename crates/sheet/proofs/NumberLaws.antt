-- A number that was found, as reading sees it: reading goes on behind its digits, and where none was found the bytes
-- cannot be read.
use Prim.Native.Nat.{ℕ, ◌+◌, ◌*◌, ◌-◌, ◌≤◌, ◌<◌}
use mathlib.Core.Bool.{Bool, true, false, cond, ◌&&◌}
use mathlib.Core.Path.{◌≡◌, refl, sym, ap, ◌∙◌}
use mathlib.Core.List.{List, [], ◌∷◌}
use Rattle.std.specs.Prelude.{None, Option, Some}
use native.Mathlib.Omega.{arith}
use borrow.Author.Tests.{ltb-true, ltb-false, leb-true, leb-false, ne_eqb}
use lib.Dec.{ltb, leb}
use lib.ListN.{length, get_or, drop, drop_of_length-le}
use Rattle.text.specs.declared.number.Found.{Found}
use Rattle.text.specs.Decimal.{newline, space}
use Rattle.text.specs.Number.{is_digit, digits_in, behind_digits, value_behind, number_in, found_at}
use Rattle.text.proofs.NumberLaws.{digit_range, digits_in_lem, no_digits_in, goes_on, goes_no_further, nought_leads}
use Rattle.text.proofs.NumberLaws.{one_above, one_more, none_in, number_in_lem}
use Rattle.text.proofs.FoundLaws.{found_stands}
use Rattle.text.proofs.FoundLaws as text
use Rattle.sheet.specs.Text.{most_word}
use Rattle.sheet.specs.Reading.{WordStart, Behind, continues, read_lines}
use Rattle.sheet.specs.Inner.{read_from}

-- at the end of the bytes
pub at_end : (bytes : List ℕ) (i : ℕ) → length bytes ≤ i
    → (read_from WordStart bytes i ≡ None) × ((n : ℕ) → read_from (Behind n) bytes i ≡ None)
unfolding read_lines
at_end bytes i h = (rw (drop_of_length-le bytes {i = i} h), λ n. rw (drop_of_length-le bytes {i = i} h))

-- a digit behind digits of a value
digit_behind : (value b : ℕ) (bytes : List ℕ) → is_digit b ≡ true
    → read_lines most_word (Behind value) (b ∷ bytes)
    ≡ cond (ltb 0 value && leb (value * 10 + (b - 48)) most_word)
    (read_lines most_word (Behind (value * 10 + (b - 48))) bytes) None
unfolding read_lines
digit_behind value b bytes e =
    let r = digit_range b e in
    rw (ne_eqb b newline (λ q. omega (arith, r.0)), ne_eqb b space (λ q. omega (arith, r.0)), e)

-- what reading behind digits of a value says: on behind the last digit, or nothing
pub record ReadsOn (value : ℕ) (bytes : List ℕ) : Type 0 where
  pub goes : goes_on most_word value (digits_in bytes) ≡ true
      → read_lines most_word (Behind value) bytes
      ≡ read_lines most_word (Behind (value_behind value (digits_in bytes))) (behind_digits bytes)
  pub ends : goes_on most_word value (digits_in bytes) ≡ false → read_lines most_word (Behind value) bytes ≡ None

no_digit_left : (value : ℕ) (bytes : List ℕ) → value ≤ most_word → digits_in bytes ≡ [] → ReadsOn value bytes
no_digit_left value bytes h e =
    let g = goes_no_further most_word value h in
    record {
      goes = λ q. rw (e, g.1);
      ends = λ q. let f : goes_on most_word value [] ≡ false = rw e at q in
          let z : ◌≡◌ {A = ℕ} 0 1 = cc in absurd (omega arith);
    }

module _ (value b : ℕ) (bytes : List ℕ) (d : is_digit b ≡ true) where
  abbrev rest : List ℕ
  rest = digits_in bytes

  never : goes_on most_word value (b ∷ rest) ≡ false → read_lines most_word (Behind value) (b ∷ bytes) ≡ None
      → ReadsOn value (b ∷ bytes)
  never f e =
      record {
        goes = λ q. let g : goes_on most_word value (b ∷ rest) ≡ true = rw (digits_in_lem b bytes d) at q in
            let z : ◌≡◌ {A = ℕ} 0 1 = cc in absurd (omega arith);
        ends = λ q. e;
      }

  digit_left : (value * 10 + (b - 48) ≤ most_word → ReadsOn (value * 10 + (b - 48)) bytes) → ReadsOn value (b ∷ bytes)
  digit_left ih = go (ltb 0 value) refl (leb (value * 10 + (b - 48)) most_word) refl
    where
      go : (s : Bool) → ltb 0 value ≡ s → (t : Bool) → leb (value * 10 + (b - 48)) most_word ≡ t → ReadsOn value (b ∷ bytes)
      go false p t q =
          let z : value ≡ 0 = omega (arith, ltb-false 0 value p) in
          never (nought_leads most_word value b rest z) (digit_behind value b bytes d ∙ rw p)
      go true p false q =
          never (one_above most_word value b rest (leb-false (value * 10 + (b - 48)) most_word q))
          (digit_behind value b bytes d ∙ rw (p, q))
      go true p true q =
          let g = one_more most_word value b rest (ltb-true 0 value p) in
          let i = ih (leb-true (value * 10 + (b - 48)) most_word q) in
          let on : read_lines most_word (Behind value) (b ∷ bytes) ≡ read_lines most_word (Behind (value * 10 + (b - 48))) bytes =
          digit_behind value b bytes d ∙ rw (p, q) in
          record {
            goes = λ k.
                let f : goes_on most_word value (b ∷ rest) ≡ true = rw (digits_in_lem b bytes d) at k in
                on ∙ i.goes (sym g.0 ∙ f) ∙ rw (digits_in_lem b bytes d, g.1);
            ends = λ k.
                let f : goes_on most_word value (b ∷ rest) ≡ false = rw (digits_in_lem b bytes d) at k in
                on ∙ i.ends (sym g.0 ∙ f);
          }

pub reads_on : (value : ℕ) (bytes : List ℕ) → value ≤ most_word → ReadsOn value bytes
unfolding digits_in
reads_on value [] h = no_digit_left value [] h refl
reads_on value (b ∷ bytes) h = go (is_digit b) refl (reads_on (value * 10 + (b - 48)) bytes)
  where
    go : (t : Bool) → is_digit b ≡ t
        → (value * 10 + (b - 48) ≤ most_word → ReadsOn (value * 10 + (b - 48)) bytes) → ReadsOn value (b ∷ bytes)
    go true d ih = digit_left value b bytes d ih
    go false d ih = no_digit_left value (b ∷ bytes) h (no_digits_in b bytes d)

-- from the start of a word
number : (b : ℕ) (bytes : List ℕ) → is_digit b ≡ true
    → (number_in most_word (b ∷ bytes) ≡ None → read_lines most_word (Behind (b - 48)) bytes ≡ None)
    × ((n : ℕ) → number_in most_word (b ∷ bytes) ≡ Some n
    → read_lines most_word (Behind (b - 48)) bytes ≡ read_lines most_word (Behind n) (behind_digits (b ∷ bytes)))
number b bytes d = go (goes_on most_word (b - 48) (digits_in bytes)) refl
  where
    r : (48 ≤ b) × (b ≤ 57)
    r = digit_range b d

    on : ReadsOn (b - 48) bytes
    on = reads_on (b - 48) bytes (omega (arith, r.1))

    is : number_in most_word (b ∷ bytes) ≡ cond (goes_on most_word (b - 48) (digits_in bytes)) (Some (value_behind (b - 48) (digits_in bytes))) None
    is = number_in_lem most_word (b ∷ bytes) b (digits_in bytes) (digits_in_lem b bytes d) r.0

    go : (t : Bool) → goes_on most_word (b - 48) (digits_in bytes) ≡ t
        → (number_in most_word (b ∷ bytes) ≡ None → read_lines most_word (Behind (b - 48)) bytes ≡ None)
        × ((n : ℕ) → number_in most_word (b ∷ bytes) ≡ Some n
        → read_lines most_word (Behind (b - 48)) bytes ≡ read_lines most_word (Behind n) (behind_digits (b ∷ bytes)))
    go true g =
        let k : number_in most_word (b ∷ bytes) ≡ Some (value_behind (b - 48) (digits_in bytes)) = is ∙ rw g in (
          λ e. let z : ◌≡◌ {A = ℕ} 0 1 = cc in absurd (omega arith),
          λ n e. let v : value_behind (b - 48) (digits_in bytes) ≡ n = cc in on.goes g ∙ rw (digits_in_lem b bytes d, v),
        )
    go false g =
        let k : number_in most_word (b ∷ bytes) ≡ None = is ∙ rw g in
        (λ e. on.ends g, λ n e. let z : ◌≡◌ {A = ℕ} 0 1 = cc in absurd (omega arith))

starts : (bytes : List ℕ) → (number_in most_word bytes ≡ None → read_lines most_word WordStart bytes ≡ None)
    × ((n : ℕ) → number_in most_word bytes ≡ Some n
    → read_lines most_word WordStart bytes ≡ read_lines most_word (Behind n) (behind_digits bytes))
unfolding read_lines digits_in
starts [] =
    let none-there = none_in most_word [] refl in
    (λ e. refl, λ n e. let z : ◌≡◌ {A = ℕ} 0 1 = cc in absurd (omega arith))
starts (b ∷ bytes) = go (is_digit b) refl
  where
    go : (t : Bool) → is_digit b ≡ t
        → (number_in most_word (b ∷ bytes) ≡ None → cond t (read_lines most_word (Behind (b - 48)) bytes) None ≡ None)
        × ((n : ℕ) → number_in most_word (b ∷ bytes) ≡ Some n
        → cond t (read_lines most_word (Behind (b - 48)) bytes) None
        ≡ read_lines most_word (Behind n) (behind_digits (b ∷ bytes)))
    go true d = number b bytes d
    go false d =
        let none-there = none_in most_word (b ∷ bytes) (no_digits_in b bytes d) in
        (λ e. refl, λ n e. let z : ◌≡◌ {A = ℕ} 0 1 = cc in absurd (omega arith))

-- a number stands from one index to another, and the byte there does not continue it
pub record NumberAt (bytes : List ℕ) (from value at : ℕ) : Type 0 where
  pub reads : read_from WordStart bytes from ≡ read_from (Behind value) bytes at
  pub after : from < at
  pub inside : at ≤ length bytes
  pub stops : at < length bytes → continues most_word value (get_or bytes at 0) ≡ false

-- what `read_number` answers, by its answer
module _ (bytes : List ℕ) (i : ℕ) where
  pub found_number : {f : Found} → Some f ≡ found_at most_word bytes i → NumberAt bytes i f.value f.at
  found_number {f} e =
      let s = found_stands most_word bytes i (sym e) in
      record {
        reads = (starts (drop i bytes)).1 f.value s.number ∙ ap (read_lines most_word (Behind f.value)) s.rest;
        after = s.after;
        inside = s.inside;
        stops = λ h. rw (s.stops h);
      }

  pub found_nothing : ◌≡◌ {A = Option Found} None (found_at most_word bytes i) → read_from WordStart bytes i ≡ None
  found_nothing e = (starts (drop i bytes)).0 (text.found_nothing most_word bytes i (sym e))
