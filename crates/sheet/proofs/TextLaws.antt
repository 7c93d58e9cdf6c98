-- Reading what was printed: digits, a line, lines, the heading. In this direction the limit is any.
use Prim.Native.Nat.{ℕ, zero, suc, ◌+◌, ◌*◌, ◌-◌, ◌/◌, ◌%◌, ◌≤◌, ◌<◌}
use mathlib.Core.Bool.{Bool, true, false, cond}
use mathlib.Core.Path.{◌≡◌, refl, ap, ◌∙◌}
use mathlib.Core.List.Memᴰ
use mathlib.Core.List.{List, [], ◌∷◌, ◌++◌, append_assoc, flat_map, flatten, Memᴰ}
use Rattle.std.specs.Prelude.{None, Option, Some}
use native.Mathlib.Nat.{div-add-mod', mod-lt}
use native.Mathlib.Omega.{arith}
use borrow.Author.Tests.{ltb-true, ltb-false, lt-ltb, le-leb, eq-eqb, ne_eqb, eqb-true}
use lib.Dec.{ltb, eqb}
use Rattle.text.specs.Number.{is_digit}
use Rattle.text.specs.Decimal.{newline, space, digits, following, line}
use Rattle.sheet.specs.Reading.{strip_prefix, Place, LineStart, WordStart, Behind, line_before, word_before}
use Rattle.sheet.specs.Reading.{read_lines}
use Rattle.text.proofs.DigitLaws.{tenth_less, digits_single, digits_more}

-- a digit's byte
pub digit_is : {d : ℕ} → d < 10 → is_digit (48 + d) ≡ true
digit_is {d} h = rw (le-leb 48 (48 + d) (omega arith), le-leb (48 + d) 57 (omega arith))

-- where a word may start: at the start of a line, or behind a space
abbrev pub start_of : Bool → Place
start_of true = LineStart
start_of false = WordStart

-- a word before the words of a line
pub word_line : (n : ℕ) (l : List ℕ) (o : Option (List (List ℕ))) → word_before n (line_before l o) ≡ line_before (n ∷ l) o
word_line n l None = refl
word_line n l (Some ls) = refl

module _ (limit : ℕ) where
  -- a first digit, and one more
  pub first_digit : (t : Bool) (d : ℕ) (bytes : List ℕ) → d < 10
      → read_lines limit (start_of t) ((48 + d) ∷ bytes) ≡ read_lines limit (Behind d) bytes
  unfolding read_lines
  first_digit true d bytes h =
      let e : 48 + d - 48 ≡ d = omega arith in rw (ne_eqb (48 + d) newline (λ q. omega arith), digit_is h, e)
  first_digit false d bytes h = let e : 48 + d - 48 ≡ d = omega arith in rw (digit_is h, e)

  pub next_digit : (n d : ℕ) (bytes : List ℕ) → d < 10 → 0 < n → n * 10 + d ≤ limit
      → read_lines limit (Behind n) ((48 + d) ∷ bytes) ≡ read_lines limit (Behind (n * 10 + d)) bytes
  unfolding read_lines
  next_digit n d bytes h p q =
      let e : 48 + d - 48 ≡ d = omega arith in
      rw (
        ne_eqb (48 + d) newline (λ q. omega arith),
        ne_eqb (48 + d) space (λ q. omega arith),
        digit_is h,
        e,
        lt-ltb 0 n p,
        le-leb (n * 10 + d) limit q,
      )

  -- the digits of a number; fuel is any number above it
  number_for_lem : (t : Bool) (fuel n : ℕ) (bytes : List ℕ) → n < fuel → n ≤ limit
      → read_lines limit (start_of t) (digits n ++ bytes) ≡ read_lines limit (Behind n) bytes
  number_for_lem t zero n bytes p q = absurd (omega arith)
  number_for_lem t (suc fuel) n bytes p q = go (ltb n 10) refl (λ r. number_for_lem t fuel (n / 10) r)
    where
      go : (s : Bool) → ltb n 10 ≡ s
          → ((r : List ℕ) → n / 10 < fuel → n / 10 ≤ limit
          → read_lines limit (start_of t) (digits (n / 10) ++ r) ≡ read_lines limit (Behind (n / 10)) r)
          → read_lines limit (start_of t) (digits n ++ bytes) ≡ read_lines limit (Behind n) bytes
      go true e ih = rw (digits_single (ltb-true n 10 e)) (first_digit t n bytes (ltb-true n 10 e))
      go false e ih =
          let h = ltb-false n 10 e in
          let m = mod-lt n {m = 10} (omega arith) in
          let v : n / 10 * 10 + n % 10 ≡ n = div-add-mod' n 10 in
          let tail = (48 + n % 10) ∷ bytes in
          rw (digits_more h, append_assoc)
          (ih tail (omega (arith, tenth_less h)) (omega (arith, tenth_less h))
          ∙ next_digit (n / 10) (n % 10) bytes m (omega arith) (omega arith) ∙ rw v)

  pub read_number : (t : Bool) (n : ℕ) (bytes : List ℕ) → n ≤ limit
      → read_lines limit (start_of t) (digits n ++ bytes) ≡ read_lines limit (Behind n) bytes
  read_number t n bytes h = number_for_lem t (suc n) n bytes (omega arith) h

  -- what follows a word
  at_space : (n : ℕ) (bytes : List ℕ) → read_lines limit (Behind n) (space ∷ bytes) ≡ word_before n (read_lines limit WordStart bytes)
  unfolding read_lines
  at_space n bytes = refl

  read_following : (n : ℕ) (words bytes : List ℕ) → ((w : ℕ) → Memᴰ w words → w ≤ limit)
      → read_lines limit (Behind n) (following words ++ bytes) ≡ line_before (n ∷ words) (read_lines limit LineStart bytes)
  unfolding read_lines following
  read_following n [] bytes h = refl
  read_following n (w ∷ words) bytes h =
      let rest : read_lines limit WordStart ((digits w ++ following words) ++ bytes)
      ≡ line_before (w ∷ words) (read_lines limit LineStart bytes) =
      rw append_assoc
      (read_number false w (following words ++ bytes) (h w (Memᴰ.head refl))
      ∙ read_following w words bytes (λ v m. h v (Memᴰ.tail m))) in
      at_space n ((digits w ++ following words) ++ bytes) ∙ ap (word_before n) rest
      ∙ word_line n (w ∷ words) (read_lines limit LineStart bytes)

  -- a line, and lines
  pub read_line : (words bytes : List ℕ) → ((w : ℕ) → Memᴰ w words → w ≤ limit)
      → read_lines limit LineStart (line words ++ bytes) ≡ line_before words (read_lines limit LineStart bytes)
  unfolding read_lines line
  read_line [] bytes h = refl
  read_line (w ∷ words) bytes h =
      rw append_assoc
      (read_number true w (following words ++ bytes) (h w (Memᴰ.head refl))
      ∙ read_following w words bytes (λ v m. h v (Memᴰ.tail m)))

  pub read_lines_lem : (ls : List (List ℕ)) → ((w : ℕ) → Memᴰ w (flatten ls) → w ≤ limit)
      → read_lines limit LineStart (flat_map line ls) ≡ Some ls
  unfolding read_lines flat_map flatten
  read_lines_lem [] h = refl
  read_lines_lem (l ∷ ls) h =
      read_line l (flat_map line ls) (λ w m. h w (Memᴰ.append_left (flatten ls) m))
      ∙ rw (read_lines_lem ls (λ w m. h w (Memᴰ.append_right l m)))

-- what stands behind a prefix
pub behind_append : (prefix bytes : List ℕ) → strip_prefix prefix (prefix ++ bytes) ≡ Some bytes
unfolding strip_prefix
behind_append [] bytes = refl
behind_append (p ∷ prefix) bytes = rw (eq-eqb p p refl) (behind_append prefix bytes)

pub behind_splits : (prefix bytes rest : List ℕ) → strip_prefix prefix bytes ≡ Some rest → bytes ≡ prefix ++ rest
unfolding strip_prefix
behind_splits [] bytes rest e = cc
behind_splits (p ∷ prefix) [] rest e = let z : ◌≡◌ {A = ℕ} 0 1 = cc in absurd (omega arith)
behind_splits (p ∷ prefix) (b ∷ bytes) rest e = go (eqb p b) refl (behind_splits prefix bytes rest) e
  where
    go : (t : Bool) → eqb p b ≡ t → (strip_prefix prefix bytes ≡ Some rest → bytes ≡ prefix ++ rest)
        → cond t (strip_prefix prefix bytes) None ≡ Some rest → b ∷ bytes ≡ p ∷ prefix ++ rest
    go true q ih e = let f = ih e in let g = eqb-true p b q in cc
    go false q ih e = let z : ◌≡◌ {A = ℕ} 0 1 = cc in absurd (omega arith)
