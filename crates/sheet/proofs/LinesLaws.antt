-- The loop of `lines`: the lines so far, and reading on at the next line.
use Prim.Native.Nat.{ℕ, ◌+◌, ◌-◌, ◌≤◌, ◌<◌}
use mathlib.Core.Bool.{Bool, true, false, ◌&&◌}
use mathlib.Core.Path.{◌≡◌, refl, sym, ap, subst, ◌∙◌}
use mathlib.Core.Logic.{⊎_elim}
use mathlib.Core.List.{List, [], ◌∷◌, ◌++◌, append-nil, append_assoc, flat_map, flatten}
use Rattle.std.specs.Prelude.{None, Option, Some, Ok, Err}
use native.Mathlib.Nat.{add-zero, zero-add}
use native.Mathlib.Numerals.{add-one}
use native.Mathlib.Omega.{arith}
use borrow.Author.Tests.{eq-eqb, ne_eqb, eqb-false}
use lib.Dec.{eqb, leb}
use lib.ListN.{length, take, drop, set, length-append, length-set, drop_of_length-le}
use lib.Seq.{drop-cons, sets, length-sets, take-suc-set, take_all}
use Rattle.answers.proofs.Copying.{sets_append}
use Rattle.answers.specs.declared.Refusal.TheVariants.{Malformed, Unreadable}
use Rattle.answers.specs.Refusals.{unless}
use Rattle.records.specs.Reading.{most_words}
use Rattle.sheet.specs.Text.{most_word}
use Rattle.sheet.specs.Reading.{LineStart, line_before, read_lines, records_of, ten, all_short}
use Rattle.answers.specs.Lists.{ends_from, all}
use Rattle.sheet.specs.Answer.{text_with}
use Rattle.sheet.specs.declared.lines.LineEnd.{LineEnd}
use Rattle.sheet.specs.Inner.{read_from, NoLine, LineAt, LineRead, ten_ends, TenStored}
use Rattle.sheet.proofs.SpellingLaws.{read_spelt}

-- what is said of the line that was read holds of what that is
pub line_told : (bytes : List ℕ) (from : ℕ) (words words' : List ℕ) (to : ℕ) {r s : Option LineEnd}
    → LineRead bytes from words words' to r → r ≡ s → LineRead bytes from words words' to s
line_told bytes from words words' to h e = subst (λ (x : Option LineEnd). LineRead bytes from words words' to x) e h

-- lines before other lines
abbrev pub lines_before : List (List ℕ) → Option (List (List ℕ)) → Option (List (List ℕ))
lines_before [] o = o
lines_before (l ∷ ls) o = line_before l (lines_before ls o)

lines_none : (ls : List (List ℕ)) → lines_before ls None ≡ None
lines_none [] = refl
lines_none (l ∷ ls) = ap (line_before l) (lines_none ls)

lines_some : (ls rs : List (List ℕ)) → lines_before ls (Some rs) ≡ Some (ls ++ rs)
lines_some [] rs = refl
lines_some (l ∷ ls) rs = ap (line_before l) (lines_some ls rs)

lines_more : (ls : List (List ℕ)) (l : List ℕ) (o : Option (List (List ℕ)))
    → lines_before (ls ++ (l ∷ [])) o ≡ lines_before ls (line_before l o)
lines_more [] l o = refl
lines_more (k ∷ ls) l o = ap (line_before k) (lines_more ls l o)

and_true : (t : Bool) → (t && true) ≡ t
and_true true = refl
and_true false = refl

and_assoc : (a b c : Bool) → (a && (b && c)) ≡ ((a && b) && c)
and_assoc true b c = refl
and_assoc false b c = refl

-- one line more: its words, its size, its end
flatten_more : (ls : List (List ℕ)) (l : List ℕ) → flatten (ls ++ (l ∷ [])) ≡ flatten ls ++ l
unfolding flatten
flatten_more [] l = append-nil l
flatten_more (k ∷ ls) l = rw append_assoc (ap (λ (x : List ℕ). k ++ x) (flatten_more ls l))

few_more : (ls : List (List ℕ)) (l : List ℕ) → all_short (ls ++ (l ∷ [])) ≡ all_short ls && leb (length l) most_words
unfolding all
few_more [] l = and_true (leb (length l) most_words)
few_more (k ∷ ls) l = rw (few_more ls l) (and_assoc (leb (length k) most_words) (all_short ls) (leb (length l) most_words))

ends_more : (at : ℕ) (ls : List (List ℕ)) (l : List ℕ)
    → ends_from at (ls ++ (l ∷ [])) ≡ ends_from at ls ++ ((at + length (flatten ls) + length l) ∷ [])
unfolding ends_from flatten
ends_more at [] l = rw add-zero
ends_more at (k ∷ ls) l =
    let e : at + length k + length (flatten ls) + length l ≡ at + length (k ++ flatten ls) + length l =
    omega (arith, length-append k (flatten ls)) in
    ap (λ (x : List ℕ). (at + length k) ∷ x) (ends_more (at + length k) ls l ∙ rw e)

-- at the end of the bytes there are no more lines; elsewhere there is one, or they are not readable
end_of_bytes : (bytes : List ℕ) (at : ℕ) → length bytes ≤ at → read_from LineStart bytes at ≡ Some []
unfolding read_lines
end_of_bytes bytes at h = rw (drop_of_length-le bytes {i = at} h)

some_line : (bytes : List ℕ) (at : ℕ) → at < length bytes → read_from LineStart bytes at ≡ Some [] → ⊥
unfolding flat_map
some_line bytes at h e =
    let s = read_spelt {limit = most_word} (omega arith) LineStart (drop at bytes) [] tt e in
    let d = drop-cons bytes at 0 h in
    let z : ◌≡◌ {A = ℕ} 0 1 = cc s.spells in
    omega arith

-- what is answered where there are not ten lines, and what is stored then: nothing is said
not_ten : (words words' : List ℕ) (o : Option (List (List ℕ))) → ten o ≡ None
    → (Err Unreadable ≡ ten_ends o) × TenStored o words words'
unfolding ten ten_ends unless
not_ten words words' None e = (refl, λ ls q c. let z : ◌≡◌ {A = ℕ} 0 1 = cc in absurd (omega arith))
not_ten words words' (Some ls) e = go (eqb (length ls) 10) refl
  where
    go : (t : Bool) → eqb (length ls) 10 ≡ t
        → (Err Unreadable ≡ ten_ends (Some ls)) × TenStored (Some ls) words words'
    go true q = let f : Some (records_of ls) ≡ None = rw q at e in let z : ◌≡◌ {A = ℕ} 0 1 = cc in absurd (omega arith)
    go false q = (
      rw q,
      λ ls' f c. let same : ls ≡ ls' = cc in
          absurd (eqb-false (length ls) 10 q (ap length same ∙ c)),
    )

-- the invariant
pub record Lining (bytes : List ℕ) (from : ℕ) (words₀ words ends : List ℕ) (at count : ℕ) (few : Bool) (i : ℕ) : Type 0 where
  pub lines : List (List ℕ)
  pub reads : read_from LineStart bytes from ≡ lines_before lines (read_from LineStart bytes at)
  pub many : length lines ≡ i
  pub counts : count ≡ length (flatten lines)
  pub stored : words ≡ sets words₀ 0 (flatten lines)
  pub placed : take i ends ≡ ends_from 0 lines
  pub size : length ends ≡ 10
  pub short : few ≡ all_short lines
  pub place : count ≤ at
  pub last : i ≤ 10

pub lining_start : (bytes : List ℕ) (from : ℕ) (words ends : List ℕ) → length ends ≡ 10
    → Lining bytes from words words ends from 0 true 0
unfolding flatten ends_from all
lining_start bytes from words ends h = record {
  lines = [];
  reads = refl;
  many = refl;
  counts = refl;
  stored = refl;
  placed = refl;
  size = h;
  short = refl;
  place = omega arith;
  last = omega arith;
}

module _ {bytes : List ℕ} {from : ℕ} {words₀ words ends : List ℕ} {at count : ℕ} {few : Bool} {i : ℕ}
    (inv : Lining bytes from words₀ words ends at count few i) where
  pub lining_size : length words ≡ length words₀
  lining_size = ap length inv.stored ∙ length-sets words₀ 0 (flatten inv.lines)

  unread : read_from LineStart bytes at ≡ None → ten (read_from LineStart bytes from) ≡ None
  unfolding ten
  unread e = ap ten (inv.reads ∙ ap (lines_before inv.lines) e ∙ lines_none inv.lines)

  -- not ten lines
  other : (rs : List (List ℕ)) → (i + length rs ≡ 10 → ⊥) → read_from LineStart bytes at ≡ Some rs
      → ten (read_from LineStart bytes from) ≡ None
  unfolding ten
  other rs n e =
      let m : length (inv.lines ++ rs) ≡ 10 → ⊥ = λ q. n (omega (arith, length-append inv.lines rs, inv.many)) in
      ap ten (inv.reads ∙ ap (lines_before inv.lines) e ∙ lines_some inv.lines rs)
      ∙ rw (ne_eqb (length (inv.lines ++ rs)) 10 m)

  pub lining_none : {words' : List ℕ} → i < 10 → NoLine bytes at
      → (Err Unreadable ≡ ten_ends (read_from LineStart bytes from))
      × TenStored (read_from LineStart bytes from) words₀ words'
  lining_none h l =
      not_ten words₀ _ (read_from LineStart bytes from)
      (⊎_elim (λ e. other [] (λ q. omega arith) (end_of_bytes bytes at e)) unread l)

  pub lining_many : {words' : List ℕ} → 10 ≤ i → at < length bytes
      → (Err Unreadable ≡ ten_ends (read_from LineStart bytes from))
      × TenStored (read_from LineStart bytes from) words₀ words'
  lining_many h b = not_ten words₀ _ (read_from LineStart bytes from) (go (read_from LineStart bytes at) refl)
    where
      go : (o : Option (List (List ℕ))) → read_from LineStart bytes at ≡ o → ten (read_from LineStart bytes from) ≡ None
      go None e = unread e
      go (Some []) e = absurd (some_line bytes at b e)
      go (Some (r ∷ rs)) e = other (r ∷ rs) (λ q. omega arith) e

  -- ten lines, and where the bytes end
  module _ (h : 10 ≤ i) (e : length bytes ≤ at) where
    are_ten : length inv.lines ≡ 10
    are_ten = omega (arith, inv.many, inv.last)

    all_read : read_from LineStart bytes from ≡ Some inv.lines
    all_read = inv.reads ∙ ap (lines_before inv.lines) (end_of_bytes bytes at e) ∙ lines_some inv.lines [] ∙ rw append-nil

    pub lining_stored : TenStored (read_from LineStart bytes from) words₀ words
    lining_stored ls r c =
        let q : Some inv.lines ≡ Some ls = sym all_read ∙ r in
        let same : inv.lines ≡ ls = cc in
        inv.stored ∙ rw same

    pub lining_long : few ≡ false → Err Malformed ≡ ten_ends (read_from LineStart bytes from)
    unfolding ten_ends unless
    lining_long f = let long : all_short inv.lines ≡ false = sym inv.short ∙ f in rw (all_read, eq-eqb _ _ are_ten, long)

    pub lining_end : few ≡ true → Ok (text_with ends) ≡ ten_ends (read_from LineStart bytes from)
    unfolding ten_ends unless
    lining_end f =
        let good : all_short inv.lines ≡ true = sym inv.short ∙ f in
        let placed : ends ≡ ends_from 0 inv.lines =
        sym (take_all i ends (omega (arith, inv.size))) ∙ inv.placed in
        rw (all_read, eq-eqb _ _ are_ten, good, placed)

  module _ {words' : List ℕ} {next more : ℕ} (l : LineAt bytes at words words' count next more) where
    -- the words of the line that was read are counted without wrapping
    pub lining_sub : count ≤ more
    lining_sub = omega (arith, l.counts)

    pub lining_more : i < 10 → {few' : Bool} {ends' : List ℕ}
        → few' ≡ few && leb (more - count) most_words → ends' ≡ set ends i more
        → Lining bytes from words₀ words' ends' next more few' (i + 1)
    lining_more h {few'} {ends'} f e =
        let z : length (flatten (inv.lines ++ (l.line ∷ []))) ≡ count + length l.line =
        ap length (flatten_more inv.lines l.line) ∙ length-append (flatten inv.lines) l.line ∙ rw (← inv.counts) in
        let d : more - count ≡ length l.line = omega (arith, l.counts) in
        let m : 0 + length (flatten inv.lines) + length l.line ≡ more = omega (arith, l.counts, inv.counts) in
        let s : sets words₀ 0 (flatten (inv.lines ++ (l.line ∷ []))) ≡ words' =
        rw (
          flatten_more inv.lines l.line,
          sets_append words₀ 0 (flatten inv.lines) l.line,
          ← inv.stored,
          zero-add,
          ← inv.counts,
        ) (sym l.stored) in
        record {
          lines = inv.lines ++ (l.line ∷ []);
          reads = inv.reads ∙ ap (lines_before inv.lines) l.reads
              ∙ sym (lines_more inv.lines l.line (read_from LineStart bytes next));
          many = length-append inv.lines (l.line ∷ []) ∙ rw inv.many;
          counts = omega (arith, l.counts, z);
          stored = sym s;
          placed = rw (e, add-one i)
              (take-suc-set ends i more (omega (arith, inv.size))
              ∙ rw inv.placed (sym (ends_more 0 inv.lines l.line ∙ rw m)));
          size = ap length e ∙ length-set ends i more ∙ inv.size;
          short = f ∙ rw (d, inv.short, few_more inv.lines l.line);
          place = omega (arith, l.counts, l.after, inv.place);
          last = omega arith;
        }
