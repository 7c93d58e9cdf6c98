-- The loop of `line`: the words so far, and reading on at the next word.
use Prim.Native.Nat.{ℕ, ◌+◌, ◌≤◌, ◌<◌}
use mathlib.Core.Path.{◌≡◌, refl, sym, ap, ◌∙◌}
use mathlib.Core.List.{List, [], ◌∷◌, ◌++◌}
use Rattle.std.specs.Prelude.{None, Option}
use native.Mathlib.Numerals.{add-one}
use native.Mathlib.Omega.{arith}
use borrow.Author.Tests.{eq-eqb, ne_eqb}
use lib.ListN.{length, get_or, set, length-append}
use lib.Seq.{drop-cons, sets, length-sets}
use Rattle.answers.proofs.Copying.{sets_append}
use Rattle.text.specs.Decimal.{newline, space}
use Rattle.sheet.specs.Reading.{LineStart, WordStart, Behind, line_before, word_before, read_lines}
use Rattle.sheet.specs.Inner.{read_from, LineAt}
use Rattle.sheet.proofs.TextLaws.{word_line}
use Rattle.sheet.proofs.NumberLaws.{at_end, NumberAt}

-- words before the words of the first line
abbrev pub words_before : List ℕ → Option (List (List ℕ)) → Option (List (List ℕ))
words_before [] o = o
words_before (w ∷ ws) o = word_before w (words_before ws o)

pub words_none : (ws : List ℕ) → words_before ws None ≡ None
words_none [] = refl
words_none (w ∷ ws) = ap (word_before w) (words_none ws)

pub words_more : (ws : List ℕ) (v : ℕ) (o : Option (List (List ℕ))) → words_before (ws ++ (v ∷ [])) o ≡ words_before ws (word_before v o)
words_more [] v o = refl
words_more (w ∷ ws) v o = ap (word_before w) (words_more ws v o)

pub words_last : (ws : List ℕ) (v : ℕ) (o : Option (List (List ℕ)))
    → words_before ws (line_before (v ∷ []) o) ≡ line_before (ws ++ (v ∷ [])) o
words_last [] v o = refl
words_last (w ∷ ws) v o = ap (word_before w) (words_last ws v o) ∙ word_line w (ws ++ (v ∷ [])) o

-- reading from an index on, by the byte there
module _ (bytes : List ℕ) (i : ℕ) (h : i < length bytes) where
  pub at_newline : get_or bytes i 0 ≡ newline → read_from LineStart bytes i ≡ line_before [] (read_from LineStart bytes (i + 1))
  unfolding read_lines
  at_newline e = rw (drop-cons bytes i 0 h, eq-eqb (get_or bytes i 0) newline e, add-one i)

  pub at_word : (get_or bytes i 0 ≡ newline → ⊥) → read_from LineStart bytes i ≡ read_from WordStart bytes i
  unfolding read_lines
  at_word n = rw (drop-cons bytes i 0 h, ne_eqb (get_or bytes i 0) newline n)

  pub newline_behind : (v : ℕ) → get_or bytes i 0 ≡ newline
      → read_from (Behind v) bytes i ≡ line_before (v ∷ []) (read_from LineStart bytes (i + 1))
  unfolding read_lines
  newline_behind v e = rw (drop-cons bytes i 0 h, eq-eqb (get_or bytes i 0) newline e, add-one i)

  pub space_behind : (v : ℕ) → get_or bytes i 0 ≡ space → read_from (Behind v) bytes i ≡ word_before v (read_from WordStart bytes (i + 1))
  unfolding read_lines
  space_behind v e =
      let n : get_or bytes i 0 ≡ newline → ⊥ = λ q. omega arith in
      rw (drop-cons bytes i 0 h, ne_eqb (get_or bytes i 0) newline n, eq-eqb (get_or bytes i 0) space e, add-one i)

-- the invariant
pub record Wording (bytes : List ℕ) (from to : ℕ) (words₀ words : List ℕ) (i count : ℕ) : Type 0 where
  pub line : List ℕ
  pub reads : read_from LineStart bytes from ≡ words_before line (read_from WordStart bytes i)
  pub counts : count ≡ to + length line
  pub stored : words ≡ sets words₀ to line
  pub place : from + length line ≤ i
  pub inside : i ≤ length bytes

module _ (bytes : List ℕ) (from to : ℕ) (words : List ℕ) (h : from < length bytes) where
  pub empty_line : get_or bytes from 0 ≡ newline → LineAt bytes from words words to (from + 1) to
  empty_line e =
      record {
        line = [];
        reads = at_newline bytes from h e;
        counts = omega arith;
        stored = refl;
        after = omega arith;
        inside = omega arith;
      }

  pub wording_start : (get_or bytes from 0 ≡ newline → ⊥) → Wording bytes from to words words from to
  wording_start n =
      record {
        line = [];
        reads = at_word bytes from h n;
        counts = omega arith;
        stored = refl;
        place = omega arith;
        inside = omega arith;
      }

module _ {bytes : List ℕ} {from to : ℕ} {words₀ words : List ℕ} {i count : ℕ} (inv : Wording bytes from to words₀ words i count) where
  pub wording_size : length words ≡ length words₀
  wording_size = ap length inv.stored ∙ length-sets words₀ to inv.line

  pub wording_none : read_from WordStart bytes i ≡ None → read_from LineStart bytes from ≡ None
  wording_none e = inv.reads ∙ ap (words_before inv.line) e ∙ words_none inv.line

  module _ {value at : ℕ} (number : NumberAt bytes i value at) where
    reads_on : read_from LineStart bytes from ≡ words_before inv.line (read_from (Behind value) bytes at)
    reads_on = inv.reads ∙ ap (words_before inv.line) number.reads

    bad : read_from (Behind value) bytes at ≡ None → read_from LineStart bytes from ≡ None
    bad e = reads_on ∙ ap (words_before inv.line) e ∙ words_none inv.line

    pub wording_cut : length bytes ≤ at → read_from LineStart bytes from ≡ None
    wording_cut h = bad ((at_end bytes at h).1 value)

    module _ (h : at < length bytes) where
      stuck : (get_or bytes at 0 ≡ newline → ⊥) → (get_or bytes at 0 ≡ space → ⊥) → read_from (Behind value) bytes at ≡ None
      unfolding read_lines
      stuck n s = rw (drop-cons bytes at 0 h, ne_eqb (get_or bytes at 0) newline n, ne_eqb (get_or bytes at 0) space s, number.stops h)

      pub wording_bad : (get_or bytes at 0 ≡ newline → ⊥) → (get_or bytes at 0 ≡ space → ⊥) → read_from LineStart bytes from ≡ None
      wording_bad n s = bad (stuck n s)

      longer : length (inv.line ++ (value ∷ [])) ≡ length inv.line + 1
      longer = length-append inv.line (value ∷ [])

      module _ {words' : List ℕ} (put : words' ≡ set words count value) where
        puts : words' ≡ sets words₀ to (inv.line ++ (value ∷ []))
        puts = put ∙ rw (inv.stored, inv.counts) (sym (sets_append words₀ to inv.line (value ∷ [])))

        pub wording_end : get_or bytes at 0 ≡ newline → LineAt bytes from words₀ words' to (at + 1) (count + 1)
        wording_end e = record {
          line = inv.line ++ (value ∷ []);
          reads = reads_on ∙ ap (words_before inv.line) (newline_behind bytes at h value e)
              ∙ words_last inv.line value (read_from LineStart bytes (at + 1));
          counts = omega (arith, longer, inv.counts);
          stored = puts;
          after = omega (arith, longer, inv.place, number.after);
          inside = omega arith;
        }

        pub wording_more : get_or bytes at 0 ≡ space → Wording bytes from to words₀ words' (at + 1) (count + 1)
        wording_more e = record {
          line = inv.line ++ (value ∷ []);
          reads = reads_on
              ∙ ap (words_before inv.line) (space_behind bytes at h value e)
              ∙ sym (words_more inv.line value (read_from WordStart bytes (at + 1)));
          counts = omega (arith, longer, inv.counts);
          stored = puts;
          place = omega (arith, longer, inv.place, number.after);
          inside = omega arith;
        }
