-- Printing: one text behind another, what is left to print, what a measured text has room for, and the loops of
-- print.rt.
use Prim.Native.Nat.{ℕ, suc, ◌+◌, ◌-◌, ◌/◌, ◌%◌, ◌^◌, ◌≤◌, ◌<◌, min}
use mathlib.Core.Bool.{Bool, true, false}
use mathlib.Core.Path.{◌≡◌, refl, sym, ap, ◌∙◌}
use mathlib.Core.List.{List, [], ◌∷◌, ◌++◌}
use native.Mathlib.Nat.{div-add-mod'}
use native.Mathlib.Omega.{arith}
use native.Mathlib.Numerals.{add-one}
use borrow.Author.Tests.{leb-true, leb-false}
use lib.Dec.{leb}
use lib.ListN.{length, get_or, take, drop, set, replicate, length-append, length-replicate, get_or-replicate}
use lib.ListN.{drop_of_length-le}
use lib.Seq.{drop-cons, set_out, sets, length-sets, take_all, take-length}
use Rattle.answers.proofs.Copying.{sets_append, sets_front, sets_out, sets_cut, Copying, copying_more, copying_end}
use Rattle.text.specs.Decimal.{newline, space, digits, padded, following, line}
use Rattle.text.specs.Printing.{behind, Prints}
use Rattle.text.proofs.DigitLaws.{digits_single, digits_more, digits_length}

-- ---- one text behind another

pub behind_more : (at : ℕ) (s t : List ℕ) → behind (behind at s) t ≡ behind at (s ++ t)
behind_more at s t = rw length-append (omega arith)

-- no slice goes so far that a text is stored behind the last place
pub sets_more : (out : List ℕ) (at : ℕ) (s t : List ℕ) → length out < 2 ^ 64
    → sets (sets out at s) (behind at s) t ≡ sets out at (s ++ t)
sets_more out at s t h = go (leb (at + length s) (2 ^ 64 - 1)) refl ∙ sym (sets_append out at s t)
  where
    size : length (sets out at s) ≡ length out
    size = length-sets out at s

    go : (b : Bool) → leb (at + length s) (2 ^ 64 - 1) ≡ b
        → sets (sets out at s) (behind at s) t ≡ sets (sets out at s) (at + length s) t
    go true e =
        let l = leb-true (at + length s) (2 ^ 64 - 1) e in
        let same : behind at s ≡ at + length s = omega arith in
        rw same
    go false e =
        let l = leb-false (at + length s) (2 ^ 64 - 1) e in
        let far : behind at s ≡ 2 ^ 64 - 1 = omega arith in
        sets_out (sets out at s) (behind at s) t (omega (arith, far, size, h))
        ∙ sym (sets_out (sets out at s) (at + length s) t (omega (arith, l, size, h)))

-- what a printer answers and leaves, as one
pub prints : {text : List ℕ} {at : ℕ} {out : List ℕ} {at₁ : ℕ} {out₁ : List ℕ}
    → (at₁ ≡ behind at text) × (out₁ ≡ sets out at text) → Prints text at out at₁ out₁
prints (a, s) = record { answer = a; stored = s }

pub prints_more : {s t : List ℕ} {at at₁ at₂ : ℕ} {out out₁ out₂ : List ℕ} → length out < 2 ^ 64
    → Prints s at out at₁ out₁ → Prints t at₁ out₁ at₂ out₂ → Prints (s ++ t) at out at₂ out₂
prints_more {s} {t} {at} {out = out} h p q =
    record {
      answer = q.answer ∙ rw p.answer (behind_more at s t);
      stored = q.stored ∙ rw (p.answer, p.stored) (sets_more out at s t h);
    }

-- the two parts again
pub printed : {text : List ℕ} {at : ℕ} {out : List ℕ} {at₁ : ℕ} {out₁ : List ℕ} → Prints text at out at₁ out₁
    → (at₁ ≡ behind at text) × (out₁ ≡ sets out at text)
printed p = (p.answer, p.stored)

-- from the front, where there is room: the text and what stood behind it; and a text that is short is measured
pub prints_front : {text : List ℕ} {out : List ℕ} {n : ℕ} {out₁ : List ℕ} → Prints text 0 out n out₁
    → length text ≤ length out → out₁ ≡ text ++ drop (length text) out
prints_front {text} {out} p h = p.stored ∙ sets_front out text h

pub prints_length : {text : List ℕ} {at : ℕ} {out : List ℕ} {n : ℕ} {out₁ : List ℕ} → Prints text at out n out₁
    → at + length text < 2 ^ 64 → n ≡ at + length text
prints_length p h = p.answer ∙ omega (arith, h)

-- ---- what is left to print: stored from here it is all of a text stored from its start, and it ends where that ends
pub record Leaves (text : List ℕ) (at : ℕ) (out : List ℕ) (rest : List ℕ) (at₁ : ℕ) (out₁ : List ℕ) : Type 0 where
  pub room : length out < 2 ^ 64
  pub here : at₁ < 2 ^ 64
  pub answer : behind at₁ rest ≡ behind at text
  pub stored : sets out₁ at₁ rest ≡ sets out at text

pub leaves_all : (text : List ℕ) (at : ℕ) (out : List ℕ) → length out < 2 ^ 64 → at < 2 ^ 64
    → Leaves text at out text at out
leaves_all text at out h a = record { room = h; here = a; answer = refl; stored = refl }

pub leaves_size : {text : List ℕ} {at : ℕ} {out : List ℕ} {rest : List ℕ} {at₁ : ℕ} {out₁ : List ℕ}
    → Leaves text at out rest at₁ out₁ → length out₁ ≡ length out
leaves_size {text} {at} {out} {rest} {at₁} {out₁} l = sym (length-sets out₁ at₁ rest) ∙ ap length l.stored
    ∙ length-sets out at text

module _ {text : List ℕ} {at : ℕ} {out : List ℕ} {s : List ℕ} {at₁ at₂ : ℕ} {out₁ out₂ : List ℕ} where
  pub leaves_rest : (rest : List ℕ) → Leaves text at out (s ++ rest) at₁ out₁ → Prints s at₁ out₁ at₂ out₂
      → Leaves text at out rest at₂ out₂
  leaves_rest rest l p =
      record {
        room = l.room;
        here = omega (arith, p.answer);
        answer = rw p.answer (behind_more at₁ s rest ∙ l.answer);
        stored = rw (p.answer, p.stored)
            (sets_more out₁ at₁ s rest (omega (arith, l.room, leaves_size l)) ∙ l.stored);
      }

  pub leaves_none : Leaves text at out s at₁ out₁ → Prints s at₁ out₁ at₂ out₂ → Prints text at out at₂ out₂
  leaves_none l p = record { answer = p.answer ∙ l.answer; stored = p.stored ∙ l.stored }

-- all is printed
pub leaves_nothing : {text : List ℕ} {at : ℕ} {out : List ℕ} {at₁ : ℕ} {out₁ : List ℕ}
    → Leaves text at out [] at₁ out₁ → Prints text at out at₁ out₁
leaves_nothing {at₁ = at₁} l = let e : behind at₁ [] ≡ at₁ = omega (arith, l.here) in
    record { answer = sym e ∙ l.answer; stored = l.stored }

-- ---- one byte

pub byte_inside : (out : List ℕ) (at b : ℕ) → at < length out → length out < 2 ^ 64
    → Prints (b ∷ []) at out (at + 1) (set out at b)
byte_inside out at b h r = record { answer = omega arith; stored = refl }

-- past the end it goes nowhere
pub byte_outside : (out : List ℕ) (at b : ℕ) {r : ℕ} → length out ≤ at → r ≡ min (at + 1) (2 ^ 64 - 1)
    → Prints (b ∷ []) at out r out
byte_outside out at b h e = record { answer = e; stored = sym (set_out out at b h) }

-- ---- digit by digit

pub digit_prints : (n : ℕ) {at r : ℕ} {out out₁ : List ℕ} → n < 10 → Prints ((48 + n) ∷ []) at out r out₁
    → Prints (digits n) at out r out₁
digit_prints n h p = rw (digits_single h) p

pub digits_print : (n : ℕ) {at at₁ r : ℕ} {out out₁ out₂ : List ℕ} → 10 ≤ n → length out < 2 ^ 64
    → Prints (digits (n / 10)) at out at₁ out₁ → Prints ((48 + n % 10) ∷ []) at₁ out₁ r out₂
    → Prints (digits n) at out r out₂
digits_print n h small p q = rw (digits_more h) (prints_more small p q)

digits_two : {n : ℕ} → 10 ≤ n → n < 100 → digits n ≡ (48 + n / 10) ∷ (48 + n % 10) ∷ []
digits_two {n} low high = let tens : n / 10 < 10 = omega (arith, div-add-mod' n 10) in digits_more low ∙ rw (digits_single tens)

pub two_print : (n : ℕ) {at at₁ r : ℕ} {out out₁ out₂ : List ℕ} → 10 ≤ n → n < 100 → length out < 2 ^ 64
    → Prints ((48 + n / 10) ∷ []) at out at₁ out₁ → Prints ((48 + n % 10) ∷ []) at₁ out₁ r out₂
    → Prints (digits n) at out r out₂
two_print n low high h p q = rw (digits_two low high) (prints_more h p q)

-- into no room: how many digits there are
pub digits_measured : (n : ℕ) {none none₁ : List ℕ} {count : ℕ} → n < 2 ^ 64 → Prints (digits n) 0 none count none₁
    → count ≡ length (digits n)
digits_measured n h p = p.answer ∙ omega (arith, digits_length 19 n (omega (arith, h)))

-- ---- as much of a text as there is room for

-- the loop of `put_text`
pub text_end : {text : List ℕ} {n at i : ℕ} {out₀ out : List ℕ} → Copying text n at out₀ out i
    → n ≡ min (length text) (length out₀ - at) → n ≤ i → out ≡ sets out₀ at text
text_end {text} {n} {at} {i} {out₀} {out} inv e h =
    let most : n ≤ length text = omega arith in
    copying_end inv most h ∙ go (leb (length text) n) refl
  where
    go : (t : Bool) → leb (length text) n ≡ t → sets out₀ at (take n text) ≡ sets out₀ at text
    go true l = rw (take_all n text (leb-true (length text) n l))
    go false l = sets_cut n out₀ at text (omega (arith, leb-false (length text) n l))

-- the loop of `put_blanks`
module _ (count : ℕ) {n at i : ℕ} {out₀ out : List ℕ} (inv : Copying (replicate count space) n at out₀ out i) where
  pub blanks_more : n ≤ count → i < n → Copying (replicate count space) n at out₀ (set out (at + i) space) (i + 1)
  blanks_more f h =
      let e : get_or (replicate count space) i 0 ≡ space = get_or-replicate count i space 0 (omega arith) in
      rw e at (copying_more inv (rw length-replicate f) h)

  pub blanks_end : {r : ℕ} → n ≡ min count (length out₀ - at) → n ≤ i → r ≡ min (at + count) (2 ^ 64 - 1)
      → Prints (replicate count space) at out₀ r out
  blanks_end e h a =
      record { answer = a ∙ rw length-replicate; stored = text_end inv (rw length-replicate e) h }

-- a number at the right of a column
pub padded_prints : (width count blanks number : ℕ) {at at₁ at₂ : ℕ} {out out₁ out₂ : List ℕ} → length out < 2 ^ 64
    → count ≡ length (digits number) → blanks ≡ width - count → Prints (replicate blanks space) at out at₁ out₁
    → Prints (digits number) at₁ out₁ at₂ out₂ → Prints (padded width number) at out at₂ out₂
unfolding padded
padded_prints width count blanks number h c b p q = rw (← c, ← b) (prints_more h p q)

-- ---- lines

-- a word behind a space: where there may be no room for two digits, or for all of them
pub word_digits : (word : ℕ) {at at₁ r : ℕ} {out out₁ out₂ : List ℕ} → length out < 2 ^ 64
    → Prints (space ∷ []) at out at₁ out₁ → Prints (digits word) at₁ out₁ r out₂ → Prints (space ∷ digits word) at out r out₂
word_digits word h p q = prints_more {s = space ∷ []} h p q

-- where there is
module _ (out : List ℕ) (at word : ℕ) (fits : at + 3 ≤ length out) (small : length out < 2 ^ 64) where
  pub word_one : word < 10 → Prints (space ∷ digits word) at out (at + 2) (set (set out at space) (at + 1) (48 + word))
  word_one h = rw (digits_single h, add-one at) (record { answer = omega (arith, fits, small); stored = refl })

  pub word_two : 10 ≤ word → word < 100
      → Prints (space ∷ digits word) at out (at + 3)
      (set (set (set out at space) (at + 1) (48 + word / 10)) (at + 2) (48 + word % 10))
  word_two low high =
      let e : at + 2 ≡ suc (suc at) = omega arith in
      rw (digits_two low high, add-one at, e) (record { answer = omega (arith, fits, small); stored = refl })

  pub word_more : {r : ℕ} {out₁ : List ℕ} → Prints (digits word) (at + 1) (set out at space) r out₁
      → Prints (space ∷ digits word) at out r out₁
  word_more p = word_digits word small (byte_inside out at space (omega (arith, fits)) small) p

-- the loop of `put_following`: what follows from an index on is left
pub record Following (words : List ℕ) (at : ℕ) (out₀ out : List ℕ) (to i : ℕ) : Type 0 where
  pub here : i ≤ length words
  pub left : Leaves (following words) at out₀ (following (drop i words)) to out

pub following_start : (words : List ℕ) (at : ℕ) (out : List ℕ) → length out < 2 ^ 64 → at < 2 ^ 64
    → Following words at out out at 0
following_start words at out h a = record { here = omega arith; left = leaves_all (following words) at out h a }

following_next : (words : List ℕ) (i : ℕ) → i < length words
    → following (drop i words) ≡ (space ∷ digits (get_or words i 0)) ++ following (drop (suc i) words)
unfolding following
following_next words i h = rw (drop-cons words i 0 h)

module _ {words : List ℕ} {at : ℕ} {out₀ out : List ℕ} {to i : ℕ} (inv : Following words at out₀ out to i) where
  pub following_size : length out ≡ length out₀
  following_size = leaves_size inv.left

  pub following_end : {to₁ : ℕ} {out₁ : List ℕ} → length words ≤ i → Prints (newline ∷ []) to out to₁ out₁
      → Prints (following words) at out₀ to₁ out₁
  unfolding following
  following_end h p = leaves_none (rw (drop_of_length-le words {i = i} h) at inv.left) p

  pub following_more : i < length words → {to₁ : ℕ} {out₁ : List ℕ}
      → Prints (space ∷ digits (get_or words i 0)) to out to₁ out₁ → Following words at out₀ out₁ to₁ (i + 1)
  following_more h p =
      record {
        here = omega arith;
        left = rw (add-one i)
            (leaves_rest (following (drop (suc i) words)) (rw (following_next words i h) at inv.left) p);
      }

-- a line of words
line_none : (words : List ℕ) → length words ≡ 0 → line words ≡ newline ∷ []
unfolding line
line_none [] h = refl
line_none (word ∷ words) h = absurd (omega arith)

line_some : (words : List ℕ) → (length words ≡ 0 → ⊥)
    → line words ≡ digits (get_or words 0 0) ++ following (take (length words - 1) (drop 1 words))
unfolding line
line_some [] h = absurd (h refl)
line_some (word ∷ words) h = let e : suc (length words) - 1 ≡ length words = omega arith in rw (e, take-length words)

pub line_end : (words : List ℕ) {at r : ℕ} {out out₁ : List ℕ} → length words ≡ 0 → Prints (newline ∷ []) at out r out₁
    → Prints (line words) at out r out₁
line_end words h p = rw (line_none words h) p

pub line_prints : (words : List ℕ) {at at₁ r : ℕ} {out out₁ out₂ : List ℕ} → (length words ≡ 0 → ⊥)
    → length out < 2 ^ 64 → Prints (digits (get_or words 0 0)) at out at₁ out₁
    → Prints (following (take (length words - 1) (drop 1 words))) at₁ out₁ r out₂ → Prints (line words) at out r out₂
line_prints words n h p q = rw (line_some words n) (prints_more h p q)
