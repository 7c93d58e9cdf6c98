-- Sheets: ten lines and ten records, the bytes that are a sheet, and when reading gives it or refuses it.
use Rattle.std.specs.Prelude.{Ok, Err}
use Prim.Native.Nat.{ℕ, ◌+◌, ◌*◌, ◌≤◌, ◌<◌}
use mathlib.Core.Bool.{Bool, true, false, cond}
use mathlib.Core.Logic.{⊎_elim}
use mathlib.Core.Path.{◌≡◌, refl, sym, ap, ◌∙◌}
use mathlib.Core.List.Memᴰ
use mathlib.Core.List.{List, [], ◌∷◌, ◌++◌, flat_map, flatten, Memᴰ}
use Rattle.std.specs.Prelude.{None, Option, Some}
use native.Mathlib.Omega.{arith}
use borrow.Author.Tests.{leb-true, leb-false, le-leb, eqb-true}
use lib.Dec.{leb, eqb}
use lib.ListN.{length, length-append, drop_of_length-le}
use lib.Seq.{drop-cons}
use Rattle.answers.specs.declared.Refusal.TheVariants.{Malformed, Unreadable}
use Rattle.answers.specs.Refusals.{unless}
use Rattle.text.specs.Decimal.{line, following}
use Rattle.sheet.specs.Text.{heading, Records, lists, words_of, text, most_word, most_bytes}
use Rattle.records.specs.Reading.{most_words, few_words}
use Rattle.sheet.specs.Reading.{strip_prefix, LineStart, read_lines, records_of, ten, lines_behind, sheet_in, sheet_of}
use Rattle.sheet.specs.Reading.{all_short, text_checks, read_text}
use Rattle.sheet.specs.Theorems.{IsSheet}
use Rattle.text.proofs.DigitLaws.{digits_some}
use Rattle.sheet.proofs.TextLaws.{read_lines_lem, behind_append, behind_splits}
use Rattle.sheet.proofs.SpellingLaws.{read_spelt}
use Rattle.answers.proofs.ListLaws.{all_has, not_all}

-- ten lines are the lists of their records
pub lists_of_ten : (ls : List (List ℕ)) → length ls ≡ 10 → lists (records_of ls) ≡ ls
lists_of_ten ls h =
    sym (
    drop-cons ls 0 [] (omega arith)
    ∙ rw (
      drop-cons ls 1 [] (omega arith),
      drop-cons ls 2 [] (omega arith),
      drop-cons ls 3 [] (omega arith),
      drop-cons ls 4 [] (omega arith),
      drop-cons ls 5 [] (omega arith),
      drop-cons ls 6 [] (omega arith),
      drop-cons ls 7 [] (omega arith),
      drop-cons ls 8 [] (omega arith),
      drop-cons ls 9 [] (omega arith),
      drop_of_length-le ls {i = 10} (omega arith),
    )
    )

-- the bytes that are a sheet are read as it
pub sheet_in_lem : {bytes : List ℕ} {r : Records} → IsSheet bytes r → sheet_in bytes ≡ Some r
unfolding sheet_in lines_behind ten text
sheet_in_lem {bytes} {r} s =
    rw (
      le-leb (length bytes) most_bytes s.size,
      s.spelt,
      behind_append heading (flat_map line (lists r)),
      read_lines_lem most_word (lists r) s.words,
    )

-- and what is read is what the bytes are
pub in_sheet : (bytes : List ℕ) (r : Records) → sheet_in bytes ≡ Some r → IsSheet bytes r
unfolding sheet_in lines_behind ten text
in_sheet bytes r e = size (leb (length bytes) most_bytes) refl e
  where
    counted : (ls : List (List ℕ)) (rest : List ℕ) → strip_prefix heading bytes ≡ Some rest
        → read_lines most_word LineStart rest ≡ Some ls → length bytes ≤ most_bytes
        → (t : Bool) → eqb (length ls) 10 ≡ t → cond t (Some (records_of ls)) None ≡ Some r → IsSheet bytes r
    counted ls rest b l z true q e =
        let v = lists_of_ten ls (eqb-true (length ls) 10 q) in
        let f : records_of ls ≡ r = cc in
        let g : lists r ≡ ls = ap lists (sym f) ∙ v in
        let s = read_spelt {limit = most_word} (omega arith) LineStart rest ls tt l in
        record { spelt = behind_splits heading bytes rest b ∙ rw (s.spells, g); words = λ w m. s.within w (rw g at m); size = z }
    counted ls rest b l z false q e = let z : ◌≡◌ {A = ℕ} 0 1 = cc in absurd (omega arith)

    lined : (rest : List ℕ) (o : Option (List (List ℕ))) → strip_prefix heading bytes ≡ Some rest
        → read_lines most_word LineStart rest ≡ o → length bytes ≤ most_bytes → ten o ≡ Some r → IsSheet bytes r
    lined rest None b l z e = let z : ◌≡◌ {A = ℕ} 0 1 = cc in absurd (omega arith)
    lined rest (Some ls) b l z e = counted ls rest b l z (eqb (length ls) 10) refl e

    headed : (o : Option (List ℕ)) → strip_prefix heading bytes ≡ o → length bytes ≤ most_bytes → ten (lines_behind o) ≡ Some r
        → IsSheet bytes r
    headed None b z e = let z : ◌≡◌ {A = ℕ} 0 1 = cc in absurd (omega arith)
    headed (Some rest) b z e = lined rest (read_lines most_word LineStart rest) b refl z e

    size : (t : Bool) → leb (length bytes) most_bytes ≡ t
        → cond t (ten (lines_behind (strip_prefix heading bytes))) None ≡ Some r → IsSheet bytes r
    size true q e = headed (strip_prefix heading bytes) refl (leb-true (length bytes) most_bytes q) e
    size false q e = let z : ◌≡◌ {A = ℕ} 0 1 = cc in absurd (omega arith)

-- records with few words, and a record with too many
pub few_all : (ls : List (List ℕ)) → all_short ls ≡ true → (l : List ℕ) → Memᴰ l ls → length l ≤ most_words
few_all ls e l m = leb-true (length l) most_words (all_has few_words ls e l m)

pub many_some : (ls : List (List ℕ)) → all_short ls ≡ false → (l : List ℕ) × Memᴰ l ls × (most_words < length l)
many_some ls e = let f = not_all few_words ls e in (f.0, f.1, leb-false (length f.0) most_words f.2)

pub total_words : (ls : List (List ℕ)) → ((l : List ℕ) → Memᴰ l ls → length l ≤ most_words)
    → length (flatten ls) ≤ length ls * most_words
unfolding flatten
total_words [] h = omega arith
total_words (l ∷ ls) h =
    rw length-append (omega (arith, h l (Memᴰ.head refl), total_words ls (λ k m. h k (Memᴰ.tail m))))

-- What reading does: the bytes are no sheet, a sheet whose records have few words, or one with a record that has too
-- many
pub data Read (bytes : List ℕ) : Type 0 where
  NoSheet : read_text bytes ≡ Err Unreadable → ((r : Records) → IsSheet bytes r → ⊥) → Read bytes
  Few : (r : Records) → read_text bytes ≡ Ok r → IsSheet bytes r → all_short (lists r) ≡ true → Read bytes
  Many : (r : Records) → read_text bytes ≡ Err Malformed → IsSheet bytes r → all_short (lists r) ≡ false → Read bytes

pub read_cases : (bytes : List ℕ) → Read bytes
unfolding read_text text_checks sheet_of unless
read_cases bytes = go (sheet_in bytes) refl
  where
    words : (r : Records) → sheet_in bytes ≡ Some r → (t : Bool) → all_short (lists r) ≡ t → Read bytes
    words r e true f = Few r (rw (e, f)) (in_sheet bytes r e) f
    words r e false f = Many r (rw (e, f)) (in_sheet bytes r e) f

    go : (o : Option Records) → sheet_in bytes ≡ o → Read bytes
    go None e = NoSheet (rw e) (λ r s. let f = sheet_in_lem s in let z : ◌≡◌ {A = ℕ} 0 1 = cc in omega arith)
    go (Some r) e = words r e (all_short (lists r)) refl

-- the bytes are one sheet only
pub one_sheet : {bytes : List ℕ} {r s : Records} → IsSheet bytes r → IsSheet bytes s → r ≡ s
one_sheet p q = let a = sheet_in_lem p in let b = sheet_in_lem q in cc

-- a number that no word of a list exceeds
unfoldable pub total : List ℕ → ℕ
total [] = 0
total (w ∷ ws) = w + total ws

pub within_total : (ws : List ℕ) (w : ℕ) → Memᴰ w ws → w ≤ total ws
unfolding total
within_total [] w m = absurd (Memᴰ.not-nil m)
within_total (v ∷ ws) w m = ⊎_elim (λ (e : w ≡ v). omega arith) (λ i. omega (arith, within_total ws w i)) (Memᴰ.cases_cons m)

pub text_lists : (r s : Records) → text r ≡ text s → lists r ≡ lists s
unfolding text
text_lists r s e =
    let limit = total (words_of r) + total (words_of s) in
    let f : flat_map line (lists r) ≡ flat_map line (lists s) =
    let a = behind_append heading (flat_map line (lists r)) in
    let b = behind_append heading (flat_map line (lists s)) in
    let c : strip_prefix heading (heading ++ flat_map line (lists r)) ≡ strip_prefix heading (heading ++ flat_map line (lists s)) =
    ap (strip_prefix heading) e in
    cc in
    let a = read_lines_lem limit (lists r) (λ w m. omega (arith, within_total (words_of r) w m)) in
    let b = read_lines_lem limit (lists s) (λ w m. omega (arith, within_total (words_of s) w m)) in
    let c : read_lines limit LineStart (flat_map line (lists r)) ≡ read_lines limit LineStart (flat_map line (lists s)) =
    ap (read_lines limit LineStart) f in
    cc

-- each word takes two bytes or more: a digit, and what follows it
following_bytes_lem : (ws : List ℕ) → 2 * length ws + 1 ≤ length (following ws)
unfolding following
following_bytes_lem [] = omega arith
following_bytes_lem (w ∷ ws) = rw length-append (omega (arith, digits_some w, following_bytes_lem ws))

line_bytes_lem : (ws : List ℕ) → 2 * length ws ≤ length (line ws)
unfolding line
line_bytes_lem [] = omega arith
line_bytes_lem (w ∷ ws) = rw length-append (omega (arith, digits_some w, following_bytes_lem ws))

lines_bytes : (ls : List (List ℕ)) → 2 * length (flatten ls) ≤ length (flat_map line ls)
unfolding flatten flat_map
lines_bytes [] = omega arith
lines_bytes (l ∷ ls) = rw (length-append, length-append) (omega (arith, line_bytes_lem l, lines_bytes ls))

pub text_bytes : (r : Records) → 2 * length (words_of r) ≤ length (text r)
unfolding text
text_bytes r = rw length-append (omega (arith, lines_bytes (lists r)))
