-- The main theorems: what they say stands in specs/Theorems.antt.
use Prim.Native.Nat.{ℕ, ◌≤◌}
use mathlib.Core.Path.{subst}
use mathlib.Core.List.{List, [], ◌∷◌, ◌++◌}
use native.Mathlib.Omega.{arith}
use borrow.Author.Tests.{le-ltb}
use lib.ListN.{length}
use Rattle.answers.specs.declared.Refusal.TheVariants.{Malformed, Duplicate, Undeclared, Full, NoSource}
use Rattle.answers.specs.declared.Refusal.TheVariants.{Ambiguous, Mismatch, OutOfRange, NoRoom, Unreadable, Retired}
use Rattle.answers.specs.Refusals.{next, end}
use Rattle.answers.specs.Lent.{room_check}
use Rattle.answers.proofs.RefusalLaws.{further, none_rest}
use Rattle.sheet.specs.Text.{text}
use Rattle.sheet.specs.Reading.{sheet_of}
use Rattle.sheet.specs.Answer.{records_at}
use Rattle.sheet_writer.specs.Laid.{laid_checks}
use Rattle.sheet_writer.proofs.WriteLaws.{text_short}
use Rattle.borrowing_param.specs.SheetMethod.{sheet_refusals}
use Rattle.borrowing_param.specs.Borrows.{sheet_borrows, borrows_room_checks}
use Rattle.listing.specs.Listing.{room_bytes, listing_of, listing_checks}
use Rattle.listing.proofs.Theorems.{program_answers}
use Rattle.exports.specs.Calls.{length_word, text_to, count_words, sheet_to}
use Rattle.exports.specs.Theorems.{BytesEnough, WordsEnough, WrittenEnough, StatusTells}
use Rattle.exports.proofs.EnoughLaws.{room}

pub bytes_enough : BytesEnough
unfolding text_to
bytes_enough bytes room words h g =
    let text = listing_of (sheet_of bytes) in
    further text (listing_checks bytes) (room_check room text ∷ room_check words (length_word text) ∷ [])
    (λ n.
    let fits : length text ≤ room_bytes =
    subst (λ (t : List ℕ). length t ≤ room_bytes) ((program_answers bytes).complete n) (program_answers bytes).fits in
    next (le-ltb room (length text) (omega (arith, fits, h))) (next (le-ltb words 1 g) end))

pub words_enough : WordsEnough
unfolding sheet_to
words_enough bytes used answers edges counts a b c d =
    further (sheet_borrows (sheet_of bytes)) (sheet_refusals bytes)
    (borrows_room_checks (sheet_borrows (sheet_of bytes)) used answers edges
    ++ (room_check counts (count_words (sheet_borrows (sheet_of bytes))) ∷ []))
    (room bytes used answers edges counts a b c d)

pub written_enough : WrittenEnough
unfolding text_to
written_enough words ends room written h g =
    let r = records_at words ends in
    further (text r) (laid_checks words ends) (room_check room (text r) ∷ room_check written (length_word (text r)) ∷ [])
    (λ n.
    next (le-ltb room (length (text r)) (omega (arith, h, text_short r (none_rest n)))) (next (le-ltb written 1 g) end))

pub status_tells : StatusTells
status_tells Malformed = (omega arith, omega arith)
status_tells Duplicate = (omega arith, omega arith)
status_tells Undeclared = (omega arith, omega arith)
status_tells Full = (omega arith, omega arith)
status_tells NoSource = (omega arith, omega arith)
status_tells Ambiguous = (omega arith, omega arith)
status_tells Mismatch = (omega arith, omega arith)
status_tells OutOfRange = (omega arith, omega arith)
status_tells NoRoom = (omega arith, omega arith)
status_tells Unreadable = (omega arith, omega arith)
status_tells Retired = (omega arith, omega arith)
