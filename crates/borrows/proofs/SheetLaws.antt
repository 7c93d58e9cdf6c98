-- What is read of a sheet settles what is answered to it. A sheet that has more bytes than any may have is answered as
-- its front is, from the first byte too many on.
use Rattle.std.proofs.Common.{ℕ, ◌<◌, ◌≤◌, ◌+◌, ◌≡◌, inl, inr, List, [], ◌++◌, length, take, drop, refl, sym, ap, ◌∙◌, subst, arith}
use Rattle.std.proofs.Common.{Option, None, Some, IfSome, Result, Ok, Err}
use Rattle.std.specs.Result.{OnOk}
use Rattle.std.proofs.lemmas.Bool.{lt-leb, cases_lt}
use Rattle.std.proofs.lemmas.List.{append-nil, length-append, length-take-le}
use Rattle.std.proofs.Math.Seq.{take-append_seam}
use Rattle.std.specs.Io.KnownBytes.{Appends, Consumes, IsAtEnd}
use Rattle.sheet.specs.Text.{most_bytes}
use Rattle.sheet.specs.Reading.{sheet_in, sheet_of, text_checks}
use Rattle.sheet.specs.Shape.{sheet_checks}
use Rattle.borrowing_param.specs.SheetMethod.{sheet_refusals}
use Rattle.listing.specs.Listing.{listing_checks, response}

same_response : (a b : List ℕ) → sheet_in a ≡ sheet_in b → response a ≡ response b
unfolding response listing_checks sheet_refusals sheet_checks text_checks sheet_of
same_response a b e = rw e refl

too_long : (bytes : List ℕ) → most_bytes < length bytes → sheet_in bytes ≡ None
unfolding sheet_in
too_long bytes h = rw (lt-leb (length bytes) most_bytes h) refl

-- a front is answered as the whole: it is the whole, or too long already
front_answers : (front rest : List ℕ) → (length front ≤ most_bytes → rest ≡ [])
    → response front ≡ response (front ++ rest)
front_answers front rest h =
    elim (cases_lt most_bytes (length front)) [
      | inl long ↦
          let both : length (front ++ rest) ≡ length front + length rest = length-append front rest in
          let longer : most_bytes < length (front ++ rest) = omega (arith, long, both) in
          same_response front (front ++ rest) (too_long front long ∙ sym (too_long (front ++ rest) longer))
      | inr short ↦ ap response (sym (append-nil front) ∙ ap (λ l. front ++ l) (sym (h short)))
    ]

-- So the answer to what was read is that to all that the reader had, where no read failed.
whole_answered : (old new contents after : Option (List ℕ)) (bytes : List ℕ) (count : ℕ)
    → count ≤ length bytes → length bytes ≡ most_bytes + 1
    → Consumes old new (take count bytes) → (count < length bytes → IsAtEnd new)
    → Appends contents after (response (take count bytes))
    → IfSome old (λ sheet. Appends contents after (response sheet))
whole_answered None new contents after bytes count within room reads ends writes = tt {0}
whole_answered (Some sheet) None contents after bytes count within room reads ends writes = absurd reads
whole_answered (Some sheet) (Some rest) contents after bytes count within room reads ends writes =
    let size : length (take count bytes) ≡ count = length-take-le count bytes within in
    let at_end : length (take count bytes) ≤ most_bytes → rest ≡ [] = λ h. ends (omega (arith, h, size, room)) in
    subst (Appends contents after) (front_answers (take count bytes) rest at_end ∙ ap response (sym reads)) writes

-- an answer stands in front of the slice that was lent for it
pub answer_in_front : (answer held left : List ℕ) (count : ℕ) → count ≡ length answer
    → left ≡ answer ++ drop (length answer) held → take count left ≡ answer
answer_in_front answer held left count size stored =
    rw (size, stored) (take-append_seam answer (drop (length answer) held))

pub whole_written : {T E : Type 0} (written : Result T E) (old new contents after : Option (List ℕ)) (bytes part : List ℕ) (count : ℕ)
    → count ≤ length bytes → length bytes ≡ most_bytes + 1
    → Consumes old new (take count bytes) → (count < length bytes → IsAtEnd new)
    → part ≡ response (take count bytes) → OnOk written (Appends contents after part)
    → OnOk written (IfSome old (λ sheet. Appends contents after (response sheet)))
whole_written (Ok value) old new contents after bytes part count within room reads ends answers writes =
    whole_answered old new contents after bytes count within room reads ends (subst (Appends contents after) answers writes)
whole_written (Err error) old new contents after bytes part count within room reads ends answers writes = tt {0}
