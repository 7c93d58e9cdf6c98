-- A sheet listed in scratch: what reading it says, and what the calls answer and write.
use Rattle.std.specs.Prelude.{Ok, Err, Option}
use Prim.Native.Nat.{ℕ, ◌+◌, ◌≤◌, ◌<◌, ◌^◌}
use mathlib.Core.Path.{◌≡◌, refl, sym, ap, subst, ◌∙◌}
use mathlib.Core.List.{List, [], ◌∷◌, ◌++◌, append_assoc}
use native.Mathlib.Nat.{zero-add}
use native.Mathlib.Omega.{arith}
use borrow.Author.Tests.{le-ltb, lt-ltb, ltb-false}
use lib.ListN.{length, drop, length-append}
use lib.Seq.{sets}
use Rattle.answers.specs.declared.Refusal.{Refusal}
use Rattle.answers.specs.declared.Refusal.TheVariants.{Malformed, Duplicate, Undeclared, Full, NoSource}
use Rattle.answers.specs.declared.Refusal.TheVariants.{Ambiguous, Mismatch, OutOfRange, NoRoom, Unreadable, Retired}
use Rattle.answers.specs.Refusals.{Check, Outcome, unless, number_of, FirstDue, here, NoneDue, next}
use Rattle.answers.specs.Refusals.{end}
use Rattle.answers.specs.Lent.{counted, written, room_check}
use Rattle.answers.proofs.Copying.{sets_front}
use Rattle.answers.proofs.RefusalLaws.{due_given, due_refused, refused_due, given_due, none_first, none_split}
use Rattle.answers.proofs.RefusalLaws.{none_more, first_more, first_after}
use Rattle.answers.proofs.VerdictLaws.{unless_after}
use Rattle.sheet.specs.declared.reading.Text.{Text}
use Rattle.text.specs.Decimal.{line}
use Rattle.sheet.specs.Text.{Records}
use Rattle.sheet.specs.Reading.{sheet_of}
use Rattle.sheet.specs.Shape as shape
use Rattle.sheet.specs.Shape.{sheet_answer}
use Rattle.sheet.specs.Answer.{records_at}
use Rattle.sheet.specs.Inner.{Roomy}
use Rattle.borrowing_param.specs.SheetMethod.{lowering_checks, sheet_refusals}
use Rattle.borrowing_param.specs.Borrows.{sheet_borrows}
use Rattle.borrowing_param.proofs.SheetLaws.{text_first, read_none, read_parts, found}
use Rattle.listing.specs.Listing as spec
use Rattle.listing.specs.Listing.{most_edges, edges_check, listing_of, listing_checks, refusal_heading, said}
use Rattle.listing.specs.Listing.{response, room_bytes}
use Rattle.text.specs.Printing.{Prints}
use Rattle.text.proofs.PrintLaws.{prints_length}
use Rattle.listing.specs.InnerListing.{listed_sheet, listed_records, StandsInFront, ListsTo, ListsWithin}
use Rattle.text.proofs.LineLaws.{line_short, line_bytes}
use Rattle.listing.proofs.RoomLaws.{listing_short, two_digits}

module _ (bytes : List ℕ) where
  abbrev sheet : Records
  sheet = sheet_of bytes

  -- ---- read

  module _ (scratch : List ℕ) (roomy : Roomy bytes (length scratch)) {o : Outcome Text}
      (read : o ≡ sheet_answer bytes (length scratch)) {scratch₁ : List ℕ}
      (wrote : scratch₁ ≡ written (shape.sheet_words bytes (length scratch)) scratch) where
    pub text_refused : {k : Refusal} {out : List ℕ} → o ≡ Err k → ListsTo (listed_sheet bytes) out (Err k) out
    unfolding listing_checks
    text_refused v = (
      due_refused (listing_of sheet) (first_more (edges_check sheet ∷ [])
          (text_first bytes scratch roomy read wrote v)),
      refl,
    )

    module _ {t : Text} (fine : o ≡ Ok t) {r : Records} (laid : r ≡ records_at scratch₁ t.ends) where
      records_same : listed_records r ≡ listed_sheet bytes
      unfolding listing_checks sheet_refusals
      records_same =
          ap listed_records (laid ∙ found bytes scratch roomy read wrote fine)
          ∙ sym (unless_after (listing_of sheet) (lowering_checks sheet ++ (edges_check sheet ∷ []))
          (read_none bytes scratch roomy read wrote fine))
          ∙ ap (λ (cs : List Check). unless cs (listing_of sheet))
          (sym (append_assoc (shape.sheet_checks bytes) (lowering_checks sheet) (edges_check sheet ∷ [])))

      pub text_listed : (A : Type 0) (w : Outcome (Option ℕ)) (out out₁ : List ℕ) → ListsWithin (listed_records r) A out w out₁
          → ListsWithin (listed_sheet bytes) A out w out₁
      text_listed A w out out₁ = subst (λ (o : Outcome (List ℕ)). ListsWithin o A out w out₁) records_same

  -- ---- `listing`

  abbrev whole : List ℕ
  whole = listing_of sheet

  given_none : {text : List ℕ} → listed_sheet bytes ≡ Ok text → NoneDue (listing_checks bytes) × (whole ≡ text)
  given_none {text} e = given_due whole text (listing_checks bytes) e

  -- any listing has room
  pub fits_room : NoneDue (listing_checks bytes) → length whole ≤ room_bytes
  unfolding listing_checks sheet_refusals
  fits_room n =
      let p = none_split (sheet_refusals bytes) (edges_check sheet ∷ []) n in
      let q = none_split (shape.sheet_checks bytes) (lowering_checks sheet) p.0 in
      listing_short sheet (read_parts bytes q.0).1 q.1 (ltb-false most_edges (length (sheet_borrows sheet).edges) (none_first p.1))

  module _ (out : List ℕ) where
    abbrev answer : Outcome (List ℕ)
    answer = spec.listing bytes (length out)

    abbrev Answers : Outcome ℕ → List ℕ → Type 0
    Answers r out₁ = (r ≡ counted answer) × (out₁ ≡ written answer out)

    listing_refused : {k : Refusal} → FirstDue k (listing_checks bytes ++ (room_check (length out) whole ∷ []))
        → Answers (Err k) out
    unfolding spec.listing
    listing_refused f = rw (due_refused whole f) (refl, refl)

    -- refused by the sheet or by its edges
    pub refused_so : {k : Refusal} → listed_sheet bytes ≡ Err k → Answers (Err k) out
    refused_so {k} e = listing_refused (first_more (room_check (length out) whole ∷ []) (refused_due whole k (listing_checks bytes) e))

    -- measured, and too long
    pub too_long : {n : ℕ} (none none₁ : List ℕ) → ListsTo (listed_sheet bytes) none (Ok n) none₁ → length out < n
        → Answers (Err NoRoom) out
    too_long none none₁ (text, e, p) h =
        let g = given_none e in
        let size : length whole ≡ length text = ap length g.1 in
        listing_refused (first_after g.0 (here (lt-ltb (length out) (length whole) (omega (arith, size, p.size, h))) refl))

    listing_written : {text : List ℕ} {n : ℕ} {out₁ : List ℕ} → listed_sheet bytes ≡ Ok text
        → StandsInFront text out n out₁ → length whole ≤ length out → Answers (Ok n) out₁
    unfolding spec.listing
    listing_written {text} {n} {out₁} e p fits =
        let g = given_none e in
        let none : NoneDue (listing_checks bytes ++ (room_check (length out) whole ∷ [])) =
        none_more g.0 (next (le-ltb (length out) (length whole) fits) end) in
        let same : whole ≡ text = g.1 in
        let size : n ≡ length whole = rw same p.size in
        let stands : out₁ ≡ whole ++ drop (length whole) out = p.stored ∙ ap (sets out 0) (sym same) ∙ sets_front out whole fits in
        rw (due_given whole none) (ap Ok size, stands)

    -- where the slice is long enough
    pub listed_so : (r : Outcome ℕ) (out₁ : List ℕ) → ListsTo (listed_sheet bytes) out r out₁
        → (NoneDue (listing_checks bytes) → length whole ≤ length out) → Answers r out₁
    listed_so (Ok n) out₁ (text, e, p) enough = listing_written e p (enough (given_none e).0)
    listed_so (Err k) out₁ (e, same) enough = rw same (refused_so e)

    pub wide_enough : room_bytes ≤ length out → NoneDue (listing_checks bytes) → length whole ≤ length out
    wide_enough h n = omega (arith, h, fits_room n)

    pub measured_enough : {n : ℕ} (none none₁ : List ℕ) → ListsTo (listed_sheet bytes) none (Ok n) none₁ → n ≤ length out
        → NoneDue (listing_checks bytes) → length whole ≤ length out
    measured_enough none none₁ (text, e, p) h due = omega (arith, h, p.size, ap length (given_none e).1)

    -- ---- `respond`

    abbrev Responds : ℕ → List ℕ → Type 0
    Responds n out₁ = (n ≡ length (response bytes)) × (out₁ ≡ response bytes ++ drop (length (response bytes)) out)

    responds : (n : ℕ) (text : List ℕ) (out₁ : List ℕ) → response bytes ≡ text → length text ≤ length out
        → StandsInFront text out n out₁ → Responds n out₁
    responds n text out₁ e fits p = (
      p.size ∙ ap length (sym e),
      p.stored ∙ sets_front out text fits ∙ ap (λ (t : List ℕ). t ++ drop (length t) out) (sym e),
    )

    pub respond_listed : {n : ℕ} (out₁ : List ℕ) → length out ≡ room_bytes
        → ListsTo (listed_sheet bytes) out (Ok n) out₁ → Responds n out₁
    unfolding response
    respond_listed out₁ h (text, e, p) =
        let g = given_none e in
        responds _ text out₁ (ap said e) (omega (arith, h, fits_room g.0, ap length g.1)) p

pub refusal_short : (k : Refusal) → length (refusal_heading ++ line (number_of k ∷ [])) ≤ length refusal_heading + line_bytes (2 ∷ [])
refusal_short k = omega (arith, length-append refusal_heading (line (number_of k ∷ [])), line_short (2 ∷ []) (number_of k ∷ []) (two_digits (below k), tt))
  where
    below : (k : Refusal) → number_of k < 100
    below Malformed = omega arith
    below Duplicate = omega arith
    below Undeclared = omega arith
    below Full = omega arith
    below NoSource = omega arith
    below Ambiguous = omega arith
    below Mismatch = omega arith
    below OutOfRange = omega arith
    below NoRoom = omega arith
    below Unreadable = omega arith
    below Retired = omega arith

module _ (k : Refusal) {number : ℕ} (is : number ≡ number_of k) where
  refusal_fits : 0 + length (refusal_heading ++ line (number ∷ [])) < 2 ^ 64
  refusal_fits = rw is (omega (arith, refusal_short k))

  pub respond_refused : (bytes out : List ℕ) {n : ℕ} (out₁ : List ℕ) {out₂ : List ℕ} → length out ≡ room_bytes
      → ListsTo (listed_sheet bytes) out (Err k) out₁
      → Prints (refusal_heading ++ line (number ∷ [])) 0 out₁ n out₂ → Responds bytes out n out₂
  unfolding response
  respond_refused bytes out out₁ {out₂} h (e, same) p =
      responds bytes out _ (refusal_heading ++ line (number ∷ [])) out₂ (ap said e ∙ rw is)
      (rw is (omega (arith, h, refusal_short k)))
      (record { size = prints_length p refusal_fits ∙ zero-add _; stored = rw same at p.stored })
