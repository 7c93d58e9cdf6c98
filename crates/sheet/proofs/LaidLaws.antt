-- Records one after another: each stands between two ends, and the whole is the sheet.
use Rattle.std.specs.Prelude.{Ok, Err, Option, None, Some, MatchOption}
use Rattle.std.specs.Option.{unwrap_or}
use Rattle.std.specs.Borrow.{Bor}
use Prim.Native.Nat.{ℕ, zero, suc, ◌+◌, ◌*◌, ◌-◌, ◌≤◌, ◌<◌}
use mathlib.Core.Bool.{Bool, true, false, cond, ◌&&◌, true≢false, false≢true}
use mathlib.Core.Logic.{◌⊎◌, ⊎_elim}
use mathlib.Core.Path.{◌≡◌, refl, sym, ap, ◌∙◌}
use mathlib.Core.List.{List, [], ◌∷◌, ◌++◌, flatten}
use native.Mathlib.Nat.{sub-zero}
use native.Mathlib.Omega.{arith}
use borrow.Author.Tests.{lt-ltb, le-ltb, le-leb, lt-leb}
use lib.Dec.{leb}
use lib.ListN.{length, get_or, take, drop, length-append}
use lib.Seq.{sets, slice, take-append_seam, length-take-le}
use Rattle.answers.specs.declared.Refusal.{Refusal}
use Rattle.answers.specs.declared.Refusal.TheVariants.{Malformed, NoRoom}
use Rattle.answers.specs.Lent as lent
use Rattle.answers.specs.Lent.{written, verdict_of}
use Rattle.answers.proofs.LentLaws.{no_room}
use Rattle.std.specs.Result.{is_ok}
use Rattle.answers.proofs.Copying.{sets_front}
use Rattle.answers.specs.Refusals.{unless, NoneDue, Outcome, Verdict}
use Rattle.answers.proofs.RefusalLaws.{due_given, due_refused}
use Rattle.records.specs.Reading.{shape_verdict}
use Rattle.records.specs.Copied.{copied}
use Rattle.records.proofs.CopyLaws.{copied_stores, copied_all, copied_none}
use Rattle.ast_lifetimes.specs.Shapes.{names_in_shape, bounds_in_shape}
use Rattle.ast_lifetimes.specs.Types.{types_in_shape}
use Rattle.elision.specs.Steps.{self_in_shape, steps_in_shape}
use Rattle.hir_types.specs.Rows.{method_in_shape, method_shape, checks_verdict}
use Rattle.hir_types.proofs.ShapeLaws.{shape_verdict_lem}
use Rattle.sheet.specs.Text.{Records, lists, words_of}
use Rattle.sheet.specs.declared.reading.Text.{Text}
use Rattle.sheet.specs.Reading.{sheet_of, text_checks, read_text}
use Rattle.answers.specs.Lists.{ends_from}
use Rattle.sheet.specs.Answer.{start_of, record_words, records_at, measured}
use Rattle.sheet.specs.Shape.{sheet_in_shape, records_verdict, sheet_answer, sheet_words}
use Rattle.sheet.specs.Inner.{Counted, Roomy}
use Rattle.sheet.proofs.ReadingLaws.{last_end, list_between, none_due, counted, sheet_short, sheet_wrote}
use Rattle.sheet.proofs.Theorems.{room_for_any_sheet, words_take_two_bytes}

-- a part, by its length
pub part_is : (from to : ℕ) (l : List ℕ) → from ≤ to → take (to - from) (drop from l) ≡ slice from to l
part_is zero to l h = rw sub-zero
part_is (suc from) zero l h = absurd (omega arith)
part_is (suc from) (suc to) [] h = go (suc to - suc from)
  where
    go : (n : ℕ) → take {A = ℕ} n [] ≡ []
    go zero = refl
    go (suc n) = refl
part_is (suc from) (suc to) (x ∷ l) h = let e : suc to - suc from ≡ to - from = omega arith in rw e (part_is from to l (omega arith))

-- ends ascend, and none is behind the last word
end_after : (at : ℕ) (ls : List (List ℕ)) (i : ℕ) → i < length ls → get_or (at ∷ ends_from at ls) i 0 ≤ get_or (ends_from at ls) i 0
unfolding ends_from
end_after at [] i h = absurd (omega arith)
end_after at (l ∷ ls) zero h = omega arith
end_after at (l ∷ ls) (suc i) h = end_after (at + length l) ls i (omega arith)

end_inside : (at : ℕ) (ls : List (List ℕ)) (i : ℕ) → i < length ls → get_or (ends_from at ls) i 0 ≤ at + length (flatten ls)
unfolding ends_from flatten
end_inside at [] i h = absurd (omega arith)
end_inside at (l ∷ ls) zero h = rw length-append (omega arith)
end_inside at (l ∷ ls) (suc i) h = rw length-append (omega (arith, end_inside (at + length l) ls i (omega arith)))

-- `record_words`, way out by way out
module _ (words ends : List ℕ) (i : ℕ) where
  pub no_record : 10 ≤ i → [] ≡ record_words words ends i
  unfolding record_words
  no_record h = rw (le-ltb i 10 h)

  module _ (h : i < 10) {from : ℕ} (is : from ≡ start_of ends i) where
    turned_ends : get_or ends i 0 < from → [] ≡ record_words words ends i
    unfolding record_words
    turned_ends k = rw (lt-ltb i 10 h, lt-leb (start_of ends i) (get_or ends i 0) (omega (arith, is)))

    past_words : length words < get_or ends i 0 → [] ≡ record_words words ends i
    unfolding record_words
    past_words m =
        rw (lt-ltb i 10 h, lt-leb (get_or ends i 0) (length words) m) (go (leb (start_of ends i) (get_or ends i 0)))
      where
        go : (t : Bool) → [] ≡ cond (t && false) (slice (start_of ends i) (get_or ends i 0) words) []
        go true = refl
        go false = refl

    record_there : from ≤ get_or ends i 0 → get_or ends i 0 ≤ length words
        → take (get_or ends i 0 - from) (drop from words) ≡ record_words words ends i
    unfolding record_words
    record_there after m =
        rw (
          is,
          lt-ltb i 10 h,
          le-leb (start_of ends i) (get_or ends i 0) (omega (arith, is)),
          le-leb (get_or ends i 0) (length words) m,
        )
        (part_is (start_of ends i) (get_or ends i 0) words (omega (arith, is)))

    -- what `get` gives, or no words
    abbrev Got : Bor (List ℕ) → Type 0
    Got x = (from ≤ get_or ends i 0) × (get_or ends i 0 ≤ length words)
        × (x.now ≡ take (get_or ends i 0 - from) (drop from words))
        × (length x.now + from ≡ get_or ends i 0)

    pub part_got : (o : Option (Bor (List ℕ))) (d : Bor (List ℕ)) → d.now ≡ []
        → MatchOption o ((get_or ends i 0 < from) ⊎ (length words < get_or ends i 0)) Got
        → (unwrap_or o d).now ≡ record_words words ends i
    part_got None d e m = e ∙ ⊎_elim turned_ends past_words m
    part_got (Some x) d e m = m.2 ∙ record_there m.0 m.1

-- the words of some records stand one record after another, and these are their ends
pub record Laid (words ends : List ℕ) : Type 0 where
  pub sheet : Records
  pub rest : List ℕ
  pub stored : words ≡ words_of sheet ++ rest
  pub placed : ends ≡ ends_from 0 (lists sheet)

module _ {words ends : List ℕ} (l : Laid words ends) where
  pub laid_after : (i : ℕ) → i < 10 → get_or (0 ∷ ends) i 0 ≤ get_or ends i 0
  laid_after i h = rw l.placed (end_after 0 (lists l.sheet) i h)

  pub laid_inside : (i : ℕ) → i < 10 → get_or ends i 0 ≤ length words
  laid_inside i h = rw (l.placed, l.stored, length-append) (omega (arith, end_inside 0 (lists l.sheet) i h))

  -- each is found there by its ends
  pub laid_record : (i : ℕ) → i < 10 → record_words words ends i ≡ get_or (lists l.sheet) i []
  unfolding record_words
  laid_record i h =
      rw (
        lt-ltb i 10 h,
        le-leb (start_of ends i) (get_or ends i 0) (laid_after i h),
        le-leb (get_or ends i 0) (length words) (laid_inside i h),
      )
      (rw (l.placed, l.stored) (list_between [] 0 (lists l.sheet) l.rest i refl h))

  pub laid_records : records_at words ends ≡ l.sheet
  laid_records =
      rw (
        laid_record 0 (omega arith),
        laid_record 1 (omega arith),
        laid_record 2 (omega arith),
        laid_record 3 (omega arith),
        laid_record 4 (omega arith),
        laid_record 5 (omega arith),
        laid_record 6 (omega arith),
        laid_record 7 (omega arith),
        laid_record 8 (omega arith),
        laid_record 9 (omega arith),
      )

-- an accepted text in scratch
module _ {bytes ends : List ℕ} (c : Counted bytes ends) where
  pub counted_end : get_or ends 9 0 ≡ length (words_of (sheet_of bytes))
  counted_end = rw c.placed (last_end 0 (sheet_of bytes).names _ ∙ omega arith)

  module _ (words : List ℕ) {words' : List ℕ} (h : get_or ends 9 0 ≤ length words)
      (w : words' ≡ sets words 0 (words_of (sheet_of bytes))) where
    pub counted_laid : Laid words' ends
    counted_laid = record {
      sheet = sheet_of bytes;
      rest = drop (length (words_of (sheet_of bytes))) words;
      stored = w ∙ sets_front words (words_of (sheet_of bytes)) (omega (arith, counted_end));
      placed = c.placed;
    }

    pub counted_shape : {v : Verdict} → v ≡ records_verdict (records_at words' ends) → v ≡ records_verdict (sheet_of bytes)
    unfolding counted_laid
    counted_shape e = e ∙ ap records_verdict (laid_records counted_laid)

-- scratch that takes the words of any sheet of so many bytes: half as many words, and 10,240 in any case
pub half_room : (bytes : List ℕ) {room : ℕ} → length bytes ≤ 2 * room → Roomy bytes room
half_room bytes h n few half = omega (arith, h, half)

pub any_room : (bytes : List ℕ) → Roomy bytes 10240
any_room bytes n few half = few

pub roomy_fits : (bytes : List ℕ) {room : ℕ} → Roomy bytes room → NoneDue (text_checks bytes) → length (words_of (sheet_of bytes)) ≤ room
unfolding read_text
roomy_fits bytes roomy n =
    let e = due_given (sheet_of bytes) n in
    roomy (length (words_of (sheet_of bytes))) (omega (arith, room_for_any_sheet bytes (sheet_of bytes) e))
    (words_take_two_bytes bytes (sheet_of bytes) e)

-- an accepted text that `scan` left in such scratch: its records stand there, their verdict is the sheet's, and what is
-- copied from the front are its words
module _ (bytes scratch : List ℕ) (roomy : Roomy bytes (length scratch)) {t : Text} (m : Ok t ≡ measured bytes)
    {scratch₁ : List ℕ} (w : NoneDue (text_checks bytes) → scratch₁ ≡ sets scratch 0 (words_of (sheet_of bytes))) where
  ends_counted : Counted bytes t.ends
  ends_counted = counted bytes m

  words_fit : get_or t.ends 9 0 ≤ length scratch
  words_fit = omega (arith, counted_end ends_counted, roomy_fits bytes roomy (none_due bytes m))

  pub scanned_laid : Laid scratch₁ t.ends
  scanned_laid = counted_laid ends_counted scratch words_fit (w (none_due bytes m))

  pub scanned_shape : {v : Verdict} → v ≡ records_verdict (records_at scratch₁ t.ends) → v ≡ records_verdict (sheet_of bytes)
  scanned_shape = counted_shape ends_counted scratch words_fit (w (none_due bytes m))

  first_words : take (get_or t.ends 9 0) scratch₁ ≡ words_of (sheet_of bytes)
  unfolding counted_laid scanned_laid sheet_of
  first_words = rw (counted_end ends_counted, scanned_laid.stored) (take-append_seam (words_of (sheet_of bytes)) _)

  inside : get_or t.ends 9 0 ≤ length scratch₁
  unfolding counted_laid scanned_laid sheet_of
  inside = rw (scanned_laid.stored, length-append) (omega (arith, counted_end ends_counted))

  -- a copy that is refused is refused by 9
  short_by : {k : Refusal} (room : ℕ) → Err k ≡ lent.counted (copied scratch₁ (get_or t.ends 9 0) room)
      → room < get_or t.ends 9 0 → k ≡ NoRoom
  unfolding copied
  short_by {k} room told h =
      let size = length-take-le (get_or t.ends 9 0) scratch₁ inside in
      let due = due_refused (take (get_or t.ends 9 0) scratch₁)
      (no_room room (take (get_or t.ends 9 0) scratch₁) {cs = []} (omega (arith, size))) in
      let same : ◌≡◌ {A = Outcome ℕ} (Err k) (Err NoRoom) = told ∙ ap lent.counted due in
      cc

  module _ (shape : Ok (tt {0}) ≡ records_verdict (records_at scratch₁ t.ends))
      (words : List ℕ) {words' : List ℕ}
      (left : words' ≡ written (copied scratch₁ (get_or t.ends 9 0) (length words)) words) where
    pub scanned_short : {k : Refusal} → Err k ≡ lent.counted (copied scratch₁ (get_or t.ends 9 0) (length words))
        → (Err k ≡ sheet_answer bytes (length words)) × (words' ≡ written (sheet_words bytes (length words)) words)
    scanned_short told =
        let none = copied_none scratch₁ (get_or t.ends 9 0) words inside left told refl in
        let a = sheet_short bytes words m (scanned_shape shape) {fits = false} (sym (lt-leb _ _ none.0)) none.1 refl in
        (ap (λ (r : Refusal). Err r) (short_by (length words) told none.0) ∙ a.0, a.1)

    pub scanned_wrote : {n : ℕ} → Ok n ≡ lent.counted (copied scratch₁ (get_or t.ends 9 0) (length words))
        → (Ok t ≡ sheet_answer bytes (length words)) × (words' ≡ written (sheet_words bytes (length words)) words)
    scanned_wrote told =
        let fits = copied_all scratch₁ (get_or t.ends 9 0) words inside left told refl in
        sheet_wrote bytes words m (scanned_shape shape) {fits = true} (sym (le-leb _ _ fits))
        (copied_stores scratch₁ (get_or t.ends 9 0) words inside left fits ∙ ap (λ (l : List ℕ). sets words 0 l) first_words) refl

-- a verdict on a record's shape
pub shape_is : (shape : List ℕ → Bool) (l : List ℕ) {v : Verdict} {t : Bool} → v ≡ shape_verdict (shape l)
    → t ≡ is_ok v → t ≡ shape l
shape_is shape l f g = g ∙ ap is_ok f ∙ go (shape l)
  where
    go : (t : Bool) → is_ok (shape_verdict t) ≡ t
    go true = refl
    go false = refl

-- the first refusals of all ten, from those of a method's four
module _ (r : Records) {t u x : Bool}
    (e : t ≡ names_in_shape r.names && (bounds_in_shape r.bounds && types_in_shape r.types))
    (f : u ≡ self_in_shape r.self && (steps_in_shape r.steps && steps_in_shape r.returns)) (g : x ≡ t && u) where
  abbrev method : Bool
  method = method_in_shape r.structs r.params r.output r.force

  of_parts : sheet_in_shape r ≡ t && (u && method)
  unfolding sheet_in_shape
  of_parts = rw (e, f)

  pub sheet_torn : x ≡ false → Err Malformed ≡ records_verdict r
  unfolding unless
  sheet_torn h = rw (of_parts ∙ go t u (sym g ∙ h))
    where
      go : (a b : Bool) → (a && b) ≡ false → (a && (b && method)) ≡ false
      go true true k = absurd (true≢false k)
      go true false k = refl
      go false b k = refl

  pub sheet_judged : x ≡ true → verdict_of (method_shape r.structs r.params r.output r.force) ≡ records_verdict r
  sheet_judged h =
      shape_verdict_lem r.structs r.params r.output r.force
      ∙ ap (λ (b : Bool). checks_verdict b r.force) (sym (of_parts ∙ go t u (sym g ∙ h)))
    where
      go : (a b : Bool) → (a && b) ≡ true → (a && (b && method)) ≡ method
      go true true k = refl
      go true false k = absurd (false≢true k)
      go false b k = absurd (false≢true k)
