-- A sheet judged in scratch: what reading it says, where its records are found, and what the call answers and writes.
use Rattle.std.specs.Prelude.{Ok, Err, is_ok}
use Prim.Native.Nat.{ℕ, ◌≤◌}
use mathlib.Core.Bool.{false, true≢false}
use mathlib.Core.Logic.{◌⊎◌, inl, inr}
use mathlib.Core.Path.{◌≡◌, refl, sym, ap, subst, ◌∙◌}
use mathlib.Core.List.{List, [], ◌∷◌, ◌++◌}
use native.Mathlib.Omega.{arith}
use borrow.Author.Tests.{le-ltb, lt-ltb}
use lib.ListN.{length, get_or, take, drop, length-append}
use lib.Seq.{sets, take-append_seam}
use Rattle.answers.specs.declared.Refusal.{Refusal}
use Rattle.answers.specs.declared.Refusal.TheVariants.{NoRoom}
use Rattle.answers.specs.Refusals.{Check, Outcome, FirstDue, here, later, NoneDue}
use Rattle.answers.specs.Refusals.{next, end}
use Rattle.answers.specs.Lent.{counted, room_check, written}
use Rattle.lifetimes.specs.declared.env.LifetimeEnv.{LifetimeEnv}
use Rattle.answers.proofs.Copying.{sets_front}
use Rattle.answers.proofs.RefusalLaws.{due_given, due_refused, given_due, refused_due, none_split, none_more, first_more}
use Rattle.answers.proofs.RefusalLaws.{first_after}
use Rattle.records.specs.Copied.{copied}
use Rattle.records.proofs.CopyLaws.{copied_stores, copied_all, copied_none}
use Rattle.sheet.specs.declared.reading.Text.{Text}
use Rattle.sheet.specs.Text.{Records, lists, words_of}
use Rattle.sheet.specs.Reading.{sheet_of, text_checks}
use Rattle.answers.specs.Lists.{ends_from}
use Rattle.sheet.specs.Answer.{records_at, text_with}
use Rattle.sheet.specs.Shape as shape
use Rattle.sheet.specs.Shape.{sheet_answer, sheet_ends, call_checks}
use Rattle.sheet.specs.Inner.{Roomy}
use Rattle.sheet.proofs.ReadingLaws.{last_end}
use Rattle.sheet.proofs.LaidLaws.{Laid, laid_records, roomy_fits}
use Rattle.borrowing_param.specs.declared.method.SheetMethod.{SheetMethod}
use Rattle.borrowing_param.specs.SheetMethod.{env_of_sheet, lowering_checks, sheet_refusals, lower_sheet, method_answer}
use Rattle.borrowing_param.specs.SheetMethod.{method_words}
use Rattle.borrowing_param.specs.InnerSheet.{lowered_env, JudgesSheet}
use Rattle.borrowing_param.proofs.OutcomeLaws.{over_refused, over_given}

-- the first due is in the one list or in the other
first_either : {k : Refusal} (checks more : List Check) → FirstDue k (checks ++ more)
    → FirstDue k checks ⊎ (NoneDue checks × FirstDue k more)
first_either {k} [] more f = inr (end, f)
first_either {k} (c ∷ cs) more (here d e) = inl (here {c = c} d e)
first_either {k} (c ∷ cs) more (later d f) = go (first_either cs more f)
  where
    go : FirstDue k cs ⊎ (NoneDue cs × FirstDue k more) → FirstDue k (c ∷ cs) ⊎ (NoneDue (c ∷ cs) × FirstDue k more)
    go (inl g) = inl (later d g)
    go (inr (n, g)) = inr (next d n, g)

-- copying is refused by 9 alone
copied_short : (words : List ℕ) (count room : ℕ) {r : Outcome ℕ} {k : Refusal} → r ≡ counted (copied words count room)
    → r ≡ Err k → k ≡ NoRoom
unfolding copied
copied_short words count room told e = go (over_refused length (take count words) _ (sym e ∙ told))
  where
    go : {k : Refusal} → FirstDue k (room_check room (take count words) ∷ []) → k ≡ NoRoom
    go (here h q) = sym q
    go (later _ x) = elim x [ ]

module _ (bytes : List ℕ) where
  abbrev sheet : Records
  sheet = sheet_of bytes

  -- what the reader's checks are of: the text, and the ten records
  pub read_parts : NoneDue (shape.sheet_checks bytes) → NoneDue (text_checks bytes) × NoneDue (shape.records_checks sheet)
  unfolding shape.sheet_checks
  read_parts n = none_split (text_checks bytes) (shape.records_checks sheet) n

  module _ (scratch : List ℕ) (roomy : Roomy bytes (length scratch)) {o : Outcome Text}
      (read : o ≡ sheet_answer bytes (length scratch)) {scratch₁ : List ℕ}
      (wrote : scratch₁ ≡ written (shape.sheet_words bytes (length scratch)) scratch) where
    pub text_first : {k : Refusal} → o ≡ Err k → FirstDue k (sheet_refusals bytes)
    unfolding sheet_answer sheet_ends sheet_refusals
    text_first {k} v =
        go
        (first_either (shape.sheet_checks bytes) (room_check (length scratch) (words_of sheet) ∷ [])
        (over_refused text_with (ends_from 0 (lists sheet)) (call_checks bytes (length scratch)) (sym v ∙ read)))
      where
        none_of : FirstDue k (room_check (length scratch) (words_of sheet) ∷ [])
            → (room_check (length scratch) (words_of sheet)).due ≡ false → ⊥
        none_of (here d e) z = let y : ◌≡◌ {A = ℕ} 0 1 = cc in omega arith
        none_of (later _ x7) z = elim x7 [ ]

        go : FirstDue k (shape.sheet_checks bytes)
            ⊎ (NoneDue (shape.sheet_checks bytes) × FirstDue k (room_check (length scratch) (words_of sheet) ∷ []))
            → FirstDue k (sheet_refusals bytes)
        go (inl f) = first_more _ f
        go (inr (n, f)) =
            absurd
            (none_of f (le-ltb (length scratch) (length (words_of sheet)) (roomy_fits bytes roomy (read_parts n).0)))

    -- a refusal, whatever is left in scratch
    judge_due : {k : Refusal} {m : Outcome SheetMethod} → FirstDue k (sheet_refusals bytes) → m ≡ Err k
        → JudgesSheet bytes m scratch₁
    judge_due f h = record {
      answers = h ∙ ap method_answer (sym (due_refused sheet f));
      leaves = λ e. absurd (true≢false (sym e ∙ ap is_ok h));
    }

    pub judge_text : {k : Refusal} {m : Outcome SheetMethod} → o ≡ Err k → m ≡ Err k → JudgesSheet bytes m scratch₁
    judge_text v h = judge_due (text_first v) h

    module _ {t : Text} (fine : o ≡ Ok t) where
      call_given : NoneDue (call_checks bytes (length scratch)) × (t ≡ text_with (ends_from 0 (lists sheet)))
      unfolding sheet_answer sheet_ends
      call_given =
          over_given text_with (ends_from 0 (lists sheet)) (call_checks bytes (length scratch)) (sym fine ∙ read)

      call_none : NoneDue (call_checks bytes (length scratch))
      call_none = call_given.0

      pub read_none : NoneDue (shape.sheet_checks bytes)
      read_none = (none_split (shape.sheet_checks bytes) _ call_none).0

      ends_are : t.ends ≡ ends_from 0 (lists sheet)
      ends_are = ap (λ (x : Text). x.ends) call_given.1

      read_laid : Laid scratch₁ t.ends
      unfolding shape.sheet_words
      read_laid = record {
        sheet = sheet;
        rest = drop (length (words_of sheet)) scratch;
        stored = wrote ∙ ap (λ (o : Outcome (List ℕ)). written o scratch) (due_given (words_of sheet) call_none);
        placed = ends_are;
      }

      pub found : records_at scratch₁ t.ends ≡ sheet
      unfolding read_laid
      found = laid_records read_laid

      pub judge_shape : NoneDue (shape.records_checks (records_at scratch₁ t.ends))
      judge_shape = subst (λ (r : Records). NoneDue (shape.records_checks r)) (sym found) (read_parts read_none).1

      -- the same of ten lent records that stand there
      pub judge_lent : {r : Records} → r ≡ records_at scratch₁ t.ends → NoneDue (shape.records_checks r)
      judge_lent laid = subst (λ (r : Records). NoneDue (shape.records_checks r)) (sym laid) judge_shape

      module _ {r : Records} (laid : r ≡ records_at scratch₁ t.ends) {a : Outcome LifetimeEnv} (judged : a ≡ lowered_env r) where
        at_sheet : a ≡ lowered_env sheet
        at_sheet = judged ∙ ap lowered_env (laid ∙ found)

        pub judge_refused : {k : Refusal} {m : Outcome SheetMethod} → a ≡ Err k → m ≡ Err k → JudgesSheet bytes m scratch₁
        unfolding lowered_env sheet_refusals
        judge_refused {k} e h =
            judge_due
            (first_after read_none (refused_due (env_of_sheet sheet) k (lowering_checks sheet) (sym at_sheet ∙ e))) h

        pub judge_given : {env : LifetimeEnv} → a ≡ Ok env
            → JudgesSheet bytes (Ok (record { ends = t.ends; env = env })) scratch₁
        unfolding lowered_env sheet_refusals read_laid
        judge_given {env} e =
            let n = given_due (env_of_sheet sheet) env (lowering_checks sheet) (sym at_sheet ∙ e) in
            let g : NoneDue (sheet_refusals bytes) = none_more read_none n.0 in
            record {
              answers = rw (due_given sheet g, ends_are, n.1);
              leaves = λ x. (drop (length (words_of sheet)) scratch, read_laid.stored);
            }

  -- `lower_within`: what was judged, and the words
  module _ {m : Outcome SheetMethod} {scratch : List ℕ} (judges : JudgesSheet bytes m scratch) (words : List ℕ) where
    abbrev given : Outcome Records
    given = lower_sheet bytes (length words)

    abbrev Answers : Outcome SheetMethod → List ℕ → Type 0
    Answers x words₁ = (x ≡ method_answer given) × (words₁ ≡ written (method_words given) words)

    refused_answers : {k : Refusal} {x : Outcome SheetMethod} → x ≡ Err k
        → FirstDue k (sheet_refusals bytes ++ (room_check (length words) (words_of sheet) ∷ [])) → Answers x words
    unfolding lower_sheet
    refused_answers h f = rw (due_refused sheet f) (h, refl)

    pub within_refused : {k : Refusal} → m ≡ Err k → {x : Outcome SheetMethod} → x ≡ Err k → Answers x words
    within_refused {k} e h = refused_answers h (first_more _ (over_refused _ sheet (sheet_refusals bytes) (sym e ∙ judges.answers)))

    module _ {method : SheetMethod} (fine : m ≡ Ok method) where
      whole : NoneDue (sheet_refusals bytes)
          × (method ≡ record { ends = ends_from 0 (lists sheet); env = env_of_sheet sheet })
      whole = over_given _ sheet (sheet_refusals bytes) (sym fine ∙ judges.answers)

      none : NoneDue (sheet_refusals bytes)
      none = whole.0

      laid : (rest : List ℕ) × (scratch ≡ words_of sheet ++ rest)
      laid = judges.leaves (ap is_ok fine)

      total : get_or method.ends 9 0 ≡ length (words_of sheet)
      total = ap (λ (x : SheetMethod). get_or x.ends 9 0) whole.1 ∙ last_end 0 sheet.names _ ∙ omega arith

      within_inside : get_or method.ends 9 0 ≤ length scratch
      within_inside = rw (laid.1, length-append) (omega (arith, total))

      module _ {words₁ : List ℕ} (left : words₁ ≡ written (copied scratch (get_or method.ends 9 0) (length words)) words)
          {r : Outcome ℕ} (told : r ≡ counted (copied scratch (get_or method.ends 9 0) (length words))) where
        pub within_short : {k : Refusal} → r ≡ Err k → {x : Outcome SheetMethod} → x ≡ Err k → Answers x words₁
        within_short {k} c h =
            let no = copied_none scratch (get_or method.ends 9 0) words within_inside left told c in
            let due : FirstDue NoRoom (sheet_refusals bytes ++ (room_check (length words) (words_of sheet) ∷ [])) =
            first_after none
            (here (lt-ltb (length words) (length (words_of sheet)) (omega (arith, total, no.0))) refl) in
            let short : k ≡ NoRoom = copied_short scratch (get_or method.ends 9 0) (length words) told c in
            let a = refused_answers (h ∙ ap (λ (q : Refusal). Err q) short) due in
            (a.0, no.1 ∙ a.1)

        pub within_all : {n : ℕ} → r ≡ Ok n → Answers (Ok method) words₁
        unfolding lower_sheet
        within_all c =
            let fits : get_or method.ends 9 0 ≤ length words = copied_all scratch (get_or method.ends 9 0) words within_inside left told c in
            let p = laid in
            let t : take (get_or method.ends 9 0) scratch ≡ words_of sheet = rw (p.1, total) (take-append_seam (words_of sheet) p.0) in
            let room : (room_check (length words) (words_of sheet)).due ≡ false =
            le-ltb (length words) (length (words_of sheet)) (omega (arith, total)) in
            let g : NoneDue (sheet_refusals bytes ++ (room_check (length words) (words_of sheet) ∷ [])) =
            none_more none (next room end) in
            let stored = copied_stores scratch (get_or method.ends 9 0) words within_inside left fits in
            rw (due_given sheet g) (ap (λ (x : SheetMethod). Ok x) whole.1, stored ∙ ap (sets words 0) t ∙ sets_front words (words_of sheet) (omega (arith, total)))
