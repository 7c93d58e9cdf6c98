-- What is read is what was printed: the lines that the bytes are give these bytes back, and no word of theirs is above
-- the limit.
use Prim.Native.Nat.{ℕ, ◌+◌, ◌*◌, ◌-◌, ◌≤◌, ◌<◌}
use mathlib.Core.Bool.{Bool, true, false, cond, ◌&&◌, and-eq-true_iff}
use mathlib.Core.Logic.{⊎_elim}
use mathlib.Core.Path.{◌≡◌, refl, sym, ap, subst, ◌∙◌}
use mathlib.Core.List.Memᴰ
use mathlib.Core.List.{List, [], ◌∷◌, ◌++◌, append_assoc, flat_map, flatten, Memᴰ}
use Rattle.std.specs.Prelude.{None, Option, Some}
use native.Mathlib.Omega.{arith}
use borrow.Author.Tests.{ltb-true, leb-true, eqb-true}
use lib.Dec.{ltb, leb, eqb}
use Rattle.text.specs.Number.{is_digit}
use Rattle.text.specs.Decimal.{newline, space, digits, following, line}
use Rattle.sheet.specs.Reading.{Place, LineStart, WordStart, Behind, continues, line_before, word_before}
use Rattle.sheet.specs.Reading.{read_lines}
use Rattle.text.proofs.DigitLaws.{digits_single, digits_push}
use Rattle.sheet.proofs.TextLaws.{start_of}

-- what was printed of the word where reading stands
abbrev pub shown : Place → List ℕ
shown LineStart = []
shown WordStart = []
shown (Behind n) = digits n

-- in a line a word comes first
abbrev pub WordFirst : List (List ℕ) → Type 0
WordFirst [] = ⊥
WordFirst ([] ∷ ls) = ⊥
WordFirst ((w ∷ ws) ∷ ls) = Unit {0}

abbrev pub Opens : Place → List (List ℕ) → Type 0
Opens LineStart ls = Unit {0}
Opens WordStart ls = WordFirst ls
Opens (Behind n) ls = WordFirst ls

-- the number so far is within the limit
abbrev pub Kept : ℕ → Place → Type 0
Kept limit LineStart = Unit {0}
Kept limit WordStart = Unit {0}
Kept limit (Behind n) = n ≤ limit

pub record Spelt (limit : ℕ) (p : Place) (bytes : List ℕ) (ls : List (List ℕ)) : Type 0 where
  pub spells : shown p ++ bytes ≡ flat_map line ls
  pub within : (w : ℕ) → Memᴰ w (flatten ls) → w ≤ limit
  pub opens : Opens p ls

opens_start : (t : Bool) (ls : List (List ℕ)) → WordFirst ls → Opens (start_of t) ls
opens_start true ls o = tt
opens_start false ls o = o

shown_start : (t : Bool) → shown (start_of t) ≡ []
shown_start true = refl
shown_start false = refl

-- the end of the text
spelt_end : (limit : ℕ) → Spelt limit LineStart [] []
unfolding flat_map flatten
spelt_end limit = record { spells = refl; within = λ w m. absurd (Memᴰ.not-nil m); opens = tt }

-- the steps
module _ {limit : ℕ} {bytes : List ℕ} {ls : List (List ℕ)} where
  spelt_empty : Spelt limit LineStart bytes ls → Spelt limit LineStart (newline ∷ bytes) ([] ∷ ls)
  unfolding flat_map flatten line
  spelt_empty s = record { spells = ap (λ (l : List ℕ). newline ∷ l) s.spells; within = s.within; opens = tt }

  spelt_last : {n : ℕ} → n ≤ limit → Spelt limit LineStart bytes ls → Spelt limit (Behind n) (newline ∷ bytes) ((n ∷ []) ∷ ls)
  unfolding flat_map flatten line following
  spelt_last {n} h s = record {
    spells = ap (λ (l : List ℕ). digits n ++ newline ∷ l) s.spells ∙ rw append_assoc;
    within = λ w m. ⊎_elim (λ (e : w ≡ n). rw e h) (λ i. s.within w i) (Memᴰ.cases_cons m);
    opens = tt;
  }

  spelt_next : {n : ℕ} (l : List ℕ) → n ≤ limit → Spelt limit WordStart bytes (l ∷ ls)
      → Spelt limit (Behind n) (space ∷ bytes) ((n ∷ l) ∷ ls)
  unfolding flat_map flatten line following
  spelt_next {n} [] h s = absurd s.opens
  spelt_next {n} (v ∷ vs) h s = record {
    spells = ap (λ (l : List ℕ). digits n ++ space ∷ l) s.spells ∙ simp append_assoc;
    within = λ w m. ⊎_elim (λ (e : w ≡ n). rw e h) (λ i. s.within w i) (Memᴰ.cases_cons m);
    opens = tt;
  }

  spelt_first : (t : Bool) {d : ℕ} → d < 10 → Spelt limit (Behind d) bytes ls → Spelt limit (start_of t) ((48 + d) ∷ bytes) ls
  spelt_first t {d} h s = record {
    spells = rw (shown_start t) (ap (λ (l : List ℕ). l ++ bytes) (sym (digits_single h)) ∙ s.spells);
    within = s.within;
    opens = opens_start t ls s.opens;
  }

  spelt_more : {n d : ℕ} → 0 < n → d < 10 → Spelt limit (Behind (n * 10 + d)) bytes ls → Spelt limit (Behind n) ((48 + d) ∷ bytes) ls
  spelt_more {n} {d} p h s = record {
    spells = sym (append_assoc (digits n) ((48 + d) ∷ []) bytes)
        ∙ ap (λ (l : List ℕ). l ++ bytes) (sym (digits_push p h)) ∙ s.spells;
    within = s.within;
    opens = s.opens;
  }

-- what stands behind a line or a word that was read
line_before_lem : (l : List ℕ) (o : Option (List (List ℕ))) (ls : List (List ℕ)) → line_before l o ≡ Some ls
    → (r : List (List ℕ)) × (o ≡ Some r) × (l ∷ r ≡ ls)
line_before_lem l None ls e = let z : ◌≡◌ {A = ℕ} 0 1 = cc in absurd (omega arith)
line_before_lem l (Some r) ls e = (r, refl, (cc))

word_before_lem : (w : ℕ) (o : Option (List (List ℕ))) (ls : List (List ℕ)) → word_before w o ≡ Some ls
    → (l : List ℕ) × (r : List (List ℕ)) × (o ≡ Some (l ∷ r)) × ((w ∷ l) ∷ r ≡ ls)
word_before_lem w None ls e = let z : ◌≡◌ {A = ℕ} 0 1 = cc in absurd (omega arith)
word_before_lem w (Some []) ls e = let z : ◌≡◌ {A = ℕ} 0 1 = cc in absurd (omega arith)
word_before_lem w (Some (l ∷ r)) ls e = (l, r, refl, (cc))

-- a digit's byte
digit_of : (b : ℕ) → is_digit b ≡ true → (48 + (b - 48) ≡ b) × (b - 48 < 10)
digit_of b e =
    let s = (and-eq-true_iff (leb 48 b) (leb b 57)).0 e in
    let p = leb-true 48 b s.0 in
    let q = leb-true b 57 s.1 in
    (omega arith, omega arith)

-- by the first byte
module _ {limit : ℕ} (nine : 9 ≤ limit) where
  -- a number starts here
  starts : (t : Bool) (b : ℕ) (bytes : List ℕ) (ls : List (List ℕ))
      → (b - 48 ≤ limit → read_lines limit (Behind (b - 48)) bytes ≡ Some ls → Spelt limit (Behind (b - 48)) bytes ls)
      → cond (is_digit b) (read_lines limit (Behind (b - 48)) bytes) None ≡ Some ls → Spelt limit (start_of t) (b ∷ bytes) ls
  starts t b bytes ls ih e = go (is_digit b) refl e
    where
      go : (s : Bool) → is_digit b ≡ s → cond s (read_lines limit (Behind (b - 48)) bytes) None ≡ Some ls
          → Spelt limit (start_of t) (b ∷ bytes) ls
      go true d e =
          let v = digit_of b d in
          subst (λ (x : ℕ). Spelt limit (start_of t) (x ∷ bytes) ls) v.0 (spelt_first t v.1 (ih (omega (arith, v.1)) e))
      go false d e = let z : ◌≡◌ {A = ℕ} 0 1 = cc in absurd (omega arith)

  -- a number goes on
  goes_on : (n b : ℕ) (bytes : List ℕ) (ls : List (List ℕ))
      → (n * 10 + (b - 48) ≤ limit → read_lines limit (Behind (n * 10 + (b - 48))) bytes ≡ Some ls
      → Spelt limit (Behind (n * 10 + (b - 48))) bytes ls)
      → cond (continues limit n b) (read_lines limit (Behind (n * 10 + (b - 48))) bytes) None ≡ Some ls
      → Spelt limit (Behind n) (b ∷ bytes) ls
  goes_on n b bytes ls ih e = go (continues limit n b) refl e
    where
      go : (s : Bool) → continues limit n b ≡ s → cond s (read_lines limit (Behind (n * 10 + (b - 48))) bytes) None
          ≡ Some ls → Spelt limit (Behind n) (b ∷ bytes) ls
      go true c e =
          let p = (and-eq-true_iff (is_digit b) (ltb 0 n && leb (n * 10 + (b - 48)) limit)).0 c in
          let q = (and-eq-true_iff (ltb 0 n) (leb (n * 10 + (b - 48)) limit)).0 p.1 in
          let v = digit_of b p.0 in
          subst (λ (x : ℕ). Spelt limit (Behind n) (x ∷ bytes) ls) v.0
          (spelt_more (ltb-true 0 n q.0) v.1 (ih (leb-true (n * 10 + (b - 48)) limit q.1) e))
      go false c e = let z : ◌≡◌ {A = ℕ} 0 1 = cc in absurd (omega arith)

  -- a word ends, and its line
  ends_line : (n : ℕ) (bytes : List ℕ) (ls : List (List ℕ)) → n ≤ limit
      → ((r : List (List ℕ)) → read_lines limit LineStart bytes ≡ Some r → Spelt limit LineStart bytes r)
      → line_before (n ∷ []) (read_lines limit LineStart bytes) ≡ Some ls → Spelt limit (Behind n) (newline ∷ bytes) ls
  ends_line n bytes ls h ih e =
      let k = line_before_lem (n ∷ []) (read_lines limit LineStart bytes) ls e in
      subst (λ (x : List (List ℕ)). Spelt limit (Behind n) (newline ∷ bytes) x) k.2 (spelt_last h (ih k.0 k.1))

  -- a word ends, and another comes
  ends_word : (n : ℕ) (bytes : List ℕ) (ls : List (List ℕ)) → n ≤ limit
      → ((r : List (List ℕ)) → read_lines limit WordStart bytes ≡ Some r → Spelt limit WordStart bytes r)
      → word_before n (read_lines limit WordStart bytes) ≡ Some ls → Spelt limit (Behind n) (space ∷ bytes) ls
  ends_word n bytes ls h ih e =
      let k = word_before_lem n (read_lines limit WordStart bytes) ls e in
      subst (λ (x : List (List ℕ)). Spelt limit (Behind n) (space ∷ bytes) x) k.3 (spelt_next k.0 h (ih (k.0 ∷ k.1) k.2))

  -- a line is empty
  empty_line : (bytes : List ℕ) (ls : List (List ℕ))
      → ((r : List (List ℕ)) → read_lines limit LineStart bytes ≡ Some r → Spelt limit LineStart bytes r)
      → line_before [] (read_lines limit LineStart bytes) ≡ Some ls → Spelt limit LineStart (newline ∷ bytes) ls
  empty_line bytes ls ih e =
      let k = line_before_lem [] (read_lines limit LineStart bytes) ls e in
      subst (λ (x : List (List ℕ)). Spelt limit LineStart (newline ∷ bytes) x) k.2 (spelt_empty (ih k.0 k.1))

  pub read_spelt : (p : Place) (bytes : List ℕ) (ls : List (List ℕ)) → Kept limit p → read_lines limit p bytes ≡ Some ls
      → Spelt limit p bytes ls
  unfolding read_lines
  read_spelt LineStart [] ls h e = let q : [] ≡ ls = cc in
      subst (λ (x : List (List ℕ)). Spelt limit LineStart [] x) q (spelt_end limit)
  read_spelt WordStart [] ls h e = let z : ◌≡◌ {A = ℕ} 0 1 = cc in absurd (omega arith)
  read_spelt (Behind n) [] ls h e = let z : ◌≡◌ {A = ℕ} 0 1 = cc in absurd (omega arith)
  read_spelt LineStart (b ∷ bytes) ls h e =
      go (eqb b newline) refl (λ r. read_spelt LineStart bytes r tt) (read_spelt (Behind (b - 48)) bytes ls) e
    where
      go : (t : Bool) → eqb b newline ≡ t
          → ((r : List (List ℕ)) → read_lines limit LineStart bytes ≡ Some r → Spelt limit LineStart bytes r)
          → (b - 48 ≤ limit → read_lines limit (Behind (b - 48)) bytes ≡ Some ls → Spelt limit (Behind (b - 48)) bytes ls)
          → cond t (line_before [] (read_lines limit LineStart bytes))
          (cond (is_digit b) (read_lines limit (Behind (b - 48)) bytes) None) ≡ Some ls
          → Spelt limit LineStart (b ∷ bytes) ls
      go true q i j e = rw (eqb-true b newline q) (empty_line bytes ls i e)
      go false q i j e = starts true b bytes ls j e
  read_spelt WordStart (b ∷ bytes) ls h e = starts false b bytes ls (read_spelt (Behind (b - 48)) bytes ls) e
  read_spelt (Behind n) (b ∷ bytes) ls h e =
      go (eqb b newline) refl (λ r. read_spelt LineStart bytes r tt) (λ r. read_spelt WordStart bytes r tt)
      (read_spelt (Behind (n * 10 + (b - 48))) bytes ls) e
    where
      at_space : (t : Bool) → eqb b space ≡ t
          → ((r : List (List ℕ)) → read_lines limit WordStart bytes ≡ Some r → Spelt limit WordStart bytes r)
          → (n * 10 + (b - 48) ≤ limit → read_lines limit (Behind (n * 10 + (b - 48))) bytes ≡ Some ls
          → Spelt limit (Behind (n * 10 + (b - 48))) bytes ls)
          → cond t (word_before n (read_lines limit WordStart bytes))
          (cond (continues limit n b) (read_lines limit (Behind (n * 10 + (b - 48))) bytes) None) ≡ Some ls
          → Spelt limit (Behind n) (b ∷ bytes) ls
      at_space true q i j e = rw (eqb-true b space q) (ends_word n bytes ls h i e)
      at_space false q i j e = goes_on n b bytes ls j e

      go : (t : Bool) → eqb b newline ≡ t
          → ((r : List (List ℕ)) → read_lines limit LineStart bytes ≡ Some r → Spelt limit LineStart bytes r)
          → ((r : List (List ℕ)) → read_lines limit WordStart bytes ≡ Some r → Spelt limit WordStart bytes r)
          → (n * 10 + (b - 48) ≤ limit → read_lines limit (Behind (n * 10 + (b - 48))) bytes ≡ Some ls
          → Spelt limit (Behind (n * 10 + (b - 48))) bytes ls)
          → cond t (line_before (n ∷ []) (read_lines limit LineStart bytes))
          (cond (eqb b space) (word_before n (read_lines limit WordStart bytes))
          (cond (continues limit n b) (read_lines limit (Behind (n * 10 + (b - 48))) bytes) None))
          ≡ Some ls
          → Spelt limit (Behind n) (b ∷ bytes) ls
      go true q i j k e = rw (eqb-true b newline q) (ends_line n bytes ls h i e)
      go false q i j k e = at_space (eqb b space) refl j k e
