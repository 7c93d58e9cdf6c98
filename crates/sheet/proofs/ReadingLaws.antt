-- Answers: what the parts of a text say of the whole, what `measure` answers, and what `read_text` and `read_sheet`
-- answer and write.
use Rattle.std.specs.Prelude.{Ok, Err}
use Prim.Native.Nat.{ℕ, zero, suc, ◌+◌, ◌≤◌, ◌<◌}
use mathlib.Core.Bool.{Bool, true, false, cond}
use mathlib.Core.Path.{◌≡◌, refl, sym, ap, ◌∙◌}
use mathlib.Core.List.{List, [], ◌∷◌, ◌++◌, append_assoc, flat_map, flatten}
use Rattle.std.specs.Prelude.{None, Option, Some}
use native.Mathlib.Nat.{add-zero}
use native.Mathlib.Omega.{arith}
use borrow.Author.Tests.{le-leb, lt-leb, leb-true, leb-false, eq-eqb, eqb-true}
use lib.Dec.{eqb, leb}
use lib.ListN.{length, get_or, take, drop, length-append}
use lib.Seq.{sets, slice, drop-append_seam, drop_at, take_at}
use Rattle.answers.specs.declared.Refusal.{Refusal}
use Rattle.answers.specs.declared.Refusal.TheVariants.{Malformed, NoRoom, Unreadable}
use Rattle.answers.specs.Refusals.{Check, Outcome, unless, FirstDue, NoneDue, end}
use Rattle.answers.specs.Lent.{written}
use Rattle.answers.proofs.RefusalLaws.{due_given, due_refused, given_due, refused_due, refused_first, accepted_none}
use Rattle.answers.proofs.RefusalLaws.{none_first, first_more, first_after, none_more}
use Rattle.answers.proofs.LentLaws.{no_room, has_room}
use Rattle.answers.proofs.Copying.{sets_front}
use Rattle.sheet.specs.declared.reading.Text.{Text}
use Rattle.text.specs.Decimal.{line}
use Rattle.sheet.specs.Text.{heading, Records, lists, words_of, text, most_word, most_bytes}
use Rattle.sheet.specs.Reading.{strip_prefix, LineStart, records_of, ten, lines_behind, sheet_in, sheet_of, is_none}
use Rattle.sheet.specs.Reading.{all_short, text_checks}
use Rattle.answers.specs.Lists.{ends_from}
use Rattle.sheet.specs.Answer.{text_with, text_answer, measured, with_room, read_words, read_ends, read_answer}
use Rattle.sheet.specs.Shape.{records_checks, records_verdict, sheet_checks, sheet_words, sheet_ends, sheet_answer}
use Rattle.sheet.specs.Inner.{read_from, ten_ends, lines_answer, LinesStored, Counted}
use Rattle.sheet.specs.Theorems.{CallGives}
use Rattle.sheet.proofs.TextLaws.{read_lines_lem}
use Rattle.sheet.proofs.SheetLaws.{lists_of_ten, in_sheet}

-- the whole, by its parts
module _ (bytes : List ℕ) where
  pub too_many : most_bytes < length bytes → sheet_in bytes ≡ None
  unfolding sheet_in
  too_many h = rw (lt-leb (length bytes) most_bytes h)

  module _ (h : length bytes ≤ most_bytes) where
    pub no_heading : strip_prefix heading bytes ≡ None → sheet_in bytes ≡ None
    unfolding sheet_in lines_behind ten
    no_heading e = rw (le-leb (length bytes) most_bytes h, e)

    module _ (e : strip_prefix heading bytes ≡ Some (drop 66 bytes)) where
      pub not_ten : ten (read_from LineStart bytes 66) ≡ None → sheet_in bytes ≡ None
      unfolding sheet_in lines_behind
      not_ten n = rw (le-leb (length bytes) most_bytes h, e) n

      pub are_ten : (ls : List (List ℕ)) → read_from LineStart bytes 66 ≡ Some ls → length ls ≡ 10
          → sheet_in bytes ≡ Some (records_of ls)
      unfolding sheet_in lines_behind ten
      are_ten ls r c = rw (le-leb (length bytes) most_bytes h, e, r, eq-eqb (length ls) 10 c)

-- what `measure` answers
module _ (bytes : List ℕ) where
  pub measured_none : sheet_in bytes ≡ None → Err Unreadable ≡ measured bytes
  unfolding measured text_checks unless
  measured_none e = rw e

  module _ (ls : List (List ℕ)) (e : sheet_in bytes ≡ Some (records_of ls)) (t : length ls ≡ 10) where
    measured_long : all_short ls ≡ false → Err Malformed ≡ measured bytes
    unfolding measured text_checks sheet_of unless
    measured_long f = rw (e, lists_of_ten ls t, f)

    measured_good : all_short ls ≡ true → Ok (text_with (ends_from 0 ls)) ≡ measured bytes
    unfolding measured text_checks sheet_of unless
    measured_good f = rw (e, lists_of_ten ls t, f)

-- the heading, by what `headed` answers
module _ (bytes : List ℕ) (t : Bool) (e : strip_prefix heading bytes ≡ cond t (Some (drop 66 bytes)) None) where
  pub heading_not : t ≡ false → strip_prefix heading bytes ≡ None
  heading_not f = rw f at e

  pub heading_is : t ≡ true → strip_prefix heading bytes ≡ Some (drop 66 bytes)
  heading_is f = rw f at e

-- what `scan` answers is what `lines` answers behind the heading
module _ (bytes : List ℕ) (h : length bytes ≤ most_bytes) (e : strip_prefix heading bytes ≡ Some (drop 66 bytes)) where
  pub lines_measured : lines_answer bytes 66 ≡ measured bytes
  unfolding ten ten_ends unless
  lines_measured = go (read_from LineStart bytes 66) refl
    where
      few : (ls : List (List ℕ)) → sheet_in bytes ≡ Some (records_of ls) → length ls ≡ 10 → (t : Bool)
          → all_short ls ≡ t → ten_ends (Some ls) ≡ measured bytes
      few ls s c true f = rw (eq-eqb (length ls) 10 c, f) (measured_good bytes ls s c f)
      few ls s c false f = rw (eq-eqb (length ls) 10 c, f) (measured_long bytes ls s c f)

      ten_lines : (ls : List (List ℕ)) → read_from LineStart bytes 66 ≡ Some ls → (t : Bool) → eqb (length ls) 10 ≡ t
          → ten_ends (Some ls) ≡ measured bytes
      ten_lines ls r true q =
          let c = eqb-true (length ls) 10 q in few ls (are_ten bytes h e ls r c) c (all_short ls) refl
      ten_lines ls r false q = rw q (measured_none bytes (not_ten bytes h e (rw (r, q))))

      go : (o : Option (List (List ℕ))) → read_from LineStart bytes 66 ≡ o → lines_answer bytes 66 ≡ measured bytes
      go None r = rw r (measured_none bytes (not_ten bytes h e (rw r)))
      go (Some ls) r = rw r (ten_lines ls r (eqb (length ls) 10) refl)

-- where the last list ends
pub last_end : (at : ℕ) (l : List ℕ) (ls : List (List ℕ)) → get_or (ends_from at (l ∷ ls)) (length ls) 0 ≡ at + length (flatten (l ∷ ls))
unfolding ends_from flatten
last_end at l [] = ap (λ (x : ℕ). at + x) (sym (length-append l [] ∙ add-zero (length l)))
last_end at l (k ∷ ls) = last_end (at + length l) k ls ∙ omega (arith, length-append l (flatten (k ∷ ls)))

-- an accepted text is read from behind its heading
pub accepted_reads : (bytes : List ℕ) → NoneDue (text_checks bytes) → read_from LineStart bytes 66 ≡ Some (lists (sheet_of bytes))
unfolding text_checks sheet_of text
accepted_reads bytes n = go (sheet_in bytes) refl (none_first n)
  where
    go : (o : Option Records) → sheet_in bytes ≡ o → is_none (sheet_in bytes) ≡ false
        → read_from LineStart bytes 66 ≡ Some (lists (sheet_of bytes))
    go None e f = let z : ◌≡◌ {A = ℕ} 0 1 = let q : true ≡ false = rw e at f in cc in absurd (omega arith)
    go (Some r) e f =
        let s = in_sheet bytes r e in
        rw (e, s.spelt, drop-append_seam heading (flat_map line (lists r))) (read_lines_lem most_word (lists r) s.words)

-- what `write` writes, and `scan`
pub wrote : (bytes words : List ℕ) {words' : List ℕ} → NoneDue (text_checks bytes) → LinesStored bytes 66 words words'
    → words' ≡ sets words 0 (words_of (sheet_of bytes))
wrote bytes words n stored = stored (lists (sheet_of bytes)) (accepted_reads bytes n) refl

-- a text that `scan` refuses is not an accepted one
pub scan_refused : {A : Type 0} (bytes : List ℕ) {k : Refusal} → Err k ≡ measured bytes → NoneDue (text_checks bytes) → A
unfolding measured
scan_refused bytes e n =
    let z : ◌≡◌ {A = ℕ} 0 1 =
    let q = e ∙ due_given (text_with (ends_from 0 (lists (sheet_of bytes)))) n in cc in
    absurd (omega arith)

-- what `write_all` leaves: all words where they fit, else none
module _ (count : ℕ) (words all : List ℕ) where
  pub left_fitting : leb count (length words) ≡ true → {words' : List ℕ} → words' ≡ all
      → words' ≡ cond (leb count (length words)) all words
  left_fitting t w = rw t w

  pub left_short : leb count (length words) ≡ false → words ≡ cond (leb count (length words)) all words
  left_short f = rw f

-- an accepted text, by what `measure` or `scan` answers
module _ (bytes : List ℕ) {t : Text} (m : Ok t ≡ measured bytes) where
  accepted : NoneDue (text_checks bytes) × (text_with (ends_from 0 (lists (sheet_of bytes))) ≡ t)
  unfolding measured
  accepted = given_due (text_with (ends_from 0 (lists (sheet_of bytes)))) t (text_checks bytes) (sym m)

  pub none_due : NoneDue (text_checks bytes)
  none_due = accepted.0

  ends_at : t.ends ≡ ends_from 0 (lists (sheet_of bytes))
  ends_at = ap (λ (x : Text). x.ends) (sym accepted.1)

  pub counted : Counted bytes t.ends
  counted = record { due = none_due; placed = ends_at }

  pub ends_end : get_or t.ends 9 0 ≡ length (words_of (sheet_of bytes))
  ends_end = rw ends_at (last_end 0 (sheet_of bytes).names _ ∙ omega arith)

-- a refused text, by what they answer
text_refused : (bytes : List ℕ) {k : Refusal} → Err k ≡ measured bytes → FirstDue k (text_checks bytes)
unfolding measured
text_refused bytes {k} e = refused_due (text_with (ends_from 0 (lists (sheet_of bytes)))) k (text_checks bytes) (sym e)

-- a call that refuses by some checks, then by 9, and else writes the words of some records
module _ (checks : List Check) (s : Records) (words : List ℕ) where
  abbrev Answers : Outcome Text → List ℕ → Type 0
  Answers a words' =
      (a ≡ text_answer (unless (with_room checks (length words) s) (ends_from 0 (lists s))))
      × (words' ≡ written (unless (with_room checks (length words) s) (words_of s)) words)

  call_refuses : {k : Refusal} → FirstDue k (with_room checks (length words) s) → Answers (Err k) words
  call_refuses f = (rw (due_refused (ends_from 0 (lists s)) f), rw (due_refused (words_of s) f))

  -- by what `write_all` says and leaves
  module _ (n : NoneDue checks) {count : ℕ} (c : count ≡ length (words_of s)) {fits : Bool} (l : fits ≡ leb count (length words))
      {words' : List ℕ} (w : words' ≡ cond fits (sets words 0 (words_of s)) words) where
    call_short : fits ≡ false → Answers (Err NoRoom) words'
    call_short f =
        let h : length words < count = leb-false count (length words) (sym l ∙ f) in
        let kept : words' ≡ words = rw f at w in
        let a = call_refuses (first_after n (no_room (length words) (words_of s) (omega (arith, c)))) in (a.0, kept ∙ a.1)

    call_writes : fits ≡ true → Answers (Ok (text_with (ends_from 0 (lists s)))) words'
    call_writes t =
        let some : count ≤ length words = leb-true count (length words) (sym l ∙ t) in
        let h : length (words_of s) ≤ length words = omega (arith, c) in
        let stored : words' ≡ sets words 0 (words_of s) = rw t at w in
        let d : NoneDue (with_room checks (length words) s) = none_more n (has_room (length words) (words_of s) h end) in
        (rw (due_given (ends_from 0 (lists s)) d), rw (due_given (words_of s) d) (stored ∙ sets_front words (words_of s) h))

-- what `read_text` answers and writes
module _ (bytes words : List ℕ) where
  abbrev Reads : Outcome Text → List ℕ → Type 0
  Reads a words' = (a ≡ read_answer bytes (length words)) × (words' ≡ written (read_words bytes (length words)) words)

  pub read_refused : {k : Refusal} → Err k ≡ measured bytes → Reads (Err k) words
  unfolding read_answer read_ends read_words
  read_refused e = call_refuses (text_checks bytes) (sheet_of bytes) words (first_more _ (text_refused bytes e))

  module _ {t : Text} (m : Ok t ≡ measured bytes) {fits : Bool} (l : fits ≡ leb (get_or t.ends 9 0) (length words))
      {words' : List ℕ} (w : words' ≡ cond fits (sets words 0 (words_of (sheet_of bytes))) words) where
    pub read_short : fits ≡ false → Reads (Err NoRoom) words'
    unfolding read_answer read_ends read_words
    read_short = call_short (text_checks bytes) (sheet_of bytes) words (none_due bytes m) (ends_end bytes m) l w

    pub read_wrote : fits ≡ true → Reads (Ok t) words'
    unfolding read_answer read_ends read_words
    read_wrote f =
        let a = call_writes (text_checks bytes) (sheet_of bytes) words (none_due bytes m) (ends_end bytes m) l w f in
        (ap (λ (x : Text). Ok x) (sym (accepted bytes m).1) ∙ a.0, a.1)

-- what `read_sheet` answers and writes
module _ (bytes words : List ℕ) where
  abbrev ReadsSheet : Outcome Text → List ℕ → Type 0
  ReadsSheet a words' = (a ≡ sheet_answer bytes (length words)) × (words' ≡ written (sheet_words bytes (length words)) words)

  pub sheet_refused : {k : Refusal} → Err k ≡ measured bytes → ReadsSheet (Err k) words
  unfolding sheet_answer sheet_ends sheet_words sheet_checks
  sheet_refused e =
      call_refuses (sheet_checks bytes) (sheet_of bytes) words (first_more _ (first_more _ (text_refused bytes e)))

  module _ {t : Text} (m : Ok t ≡ measured bytes) where
    pub sheet_unshaped : {k : Refusal} → Err k ≡ records_verdict (sheet_of bytes) → ReadsSheet (Err k) words
    unfolding sheet_answer sheet_ends sheet_words sheet_checks
    sheet_unshaped {k} s =
        let d : FirstDue k (sheet_checks bytes) =
        first_after (none_due bytes m) (refused_first (tt {0}) k (records_checks (sheet_of bytes)) (sym s)) in
        call_refuses (sheet_checks bytes) (sheet_of bytes) words (first_more _ d)

    module _ (s : Ok (tt {0}) ≡ records_verdict (sheet_of bytes)) where
      sheet_none : NoneDue (sheet_checks bytes)
      unfolding sheet_checks
      sheet_none = none_more (none_due bytes m) (accepted_none (tt {0}) (records_checks (sheet_of bytes)) (sym s))

      module _ {fits : Bool} (l : fits ≡ leb (get_or t.ends 9 0) (length words)) {words' : List ℕ}
          (w : words' ≡ cond fits (sets words 0 (words_of (sheet_of bytes))) words) where
        pub sheet_short : fits ≡ false → ReadsSheet (Err NoRoom) words'
        unfolding sheet_answer sheet_ends sheet_words
        sheet_short = call_short (sheet_checks bytes) (sheet_of bytes) words sheet_none (ends_end bytes m) l w

        pub sheet_wrote : fits ≡ true → ReadsSheet (Ok t) words'
        unfolding sheet_answer sheet_ends sheet_words
        sheet_wrote f =
            let a = call_writes (sheet_checks bytes) (sheet_of bytes) words sheet_none (ends_end bytes m) l w f in
            (ap (λ (x : Text). Ok x) (sym (accepted bytes m).1) ∙ a.0, a.1)

-- what such a call answers, from what reading gives
pub call_gives : (checks : List Check) (s : Records) (room : ℕ)
    → CallGives (unless checks s) (unless (with_room checks room s) (words_of s))
    (unless (with_room checks room s) (ends_from 0 (lists s))) room
call_gives checks s room = record {
  given = λ r e h.
      let d = given_due s r checks e in
      let few : length (words_of s) ≤ room = rw d.1 h in
      let n : NoneDue (with_room checks room s) = none_more d.0 (has_room room (words_of s) few end) in
      (due_given (words_of s) n ∙ rw d.1, due_given (ends_from 0 (lists s)) n ∙ rw d.1);
  short = λ r e h.
      let d = given_due s r checks e in
      let many : room < length (words_of s) = rw d.1 h in
      let f : FirstDue NoRoom (with_room checks room s) = first_after d.0 (no_room room (words_of s) many) in
      (due_refused (words_of s) f, due_refused (ends_from 0 (lists s)) f);
  refused = λ k e.
      let f : FirstDue k (with_room checks room s) = first_more _ (refused_due s k checks e) in
      (due_refused (words_of s) f, due_refused (ends_from 0 (lists s)) f);
}

-- each list stands between two ends
pub list_between : (before : List ℕ) (at : ℕ) (ls : List (List ℕ)) (rest : List ℕ) (i : ℕ) → length before ≡ at → i < length ls
    → slice (get_or (at ∷ ends_from at ls) i 0) (get_or (ends_from at ls) i 0) (before ++ (flatten ls ++ rest)) ≡ get_or ls i []
unfolding ends_from flatten
list_between before at [] rest i e h = absurd (omega arith)
list_between before at (l ∷ ls) rest zero e h =
    let a : before ++ ((l ++ flatten ls) ++ rest) ≡ (before ++ l) ++ (flatten ls ++ rest) = simp append_assoc in
    let t : take (at + length l) ((before ++ l) ++ (flatten ls ++ rest)) ≡ before ++ l =
    take_at (before ++ l) (flatten ls ++ rest) (at + length l) (length-append before l ∙ rw e) in
    ap (λ (x : List ℕ). drop at (take (at + length l) x)) a ∙ ap (drop at) t ∙ drop_at before l at e
list_between before at (l ∷ ls) rest (suc i) e h =
    let a : before ++ ((l ++ flatten ls) ++ rest) ≡ (before ++ l) ++ (flatten ls ++ rest) = simp append_assoc in
    rw a (list_between (before ++ l) (at + length l) ls rest i (length-append before l ∙ rw e) (omega arith))
