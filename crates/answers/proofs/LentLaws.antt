-- Answers in a lent slice: what stands in the answer and in the slice, by which check is due; and the check for room.
use Rattle.std.specs.Prelude.{Ok, Err}
use Prim.Native.Nat.{ℕ, ◌≤◌, ◌<◌}
use mathlib.Core.Path.{◌≡◌, refl}
use mathlib.Core.List.{List, ◌∷◌, ◌++◌}
use borrow.Author.Tests.{lt-ltb, le-ltb}
use lib.ListN.{length, drop}
use Rattle.answers.specs.declared.Refusal.{Refusal}
use Rattle.answers.specs.declared.Refusal.TheVariants.{NoRoom}
use Rattle.answers.specs.Refusals.{Check, unless, FirstDue, here, NoneDue, next}
use Rattle.answers.specs.Lent.{counted, written, room_check}
use Rattle.answers.proofs.RefusalLaws.{due_given, due_refused}

-- the answer, and the slice
module _ (l slice : List ℕ) {checks : List Check} where
  pub answers_refusal : {r : Refusal} → FirstDue r checks → (Err r ≡ counted (unless checks l))
      × (slice ≡ written (unless checks l) slice)
  answers_refusal f = (rw (due_refused l f), rw (due_refused l f))

  pub answers_list : NoneDue checks → (Ok (length l) ≡ counted (unless checks l))
      × (l ++ drop (length l) slice ≡ written (unless checks l) slice)
  answers_list n = (rw (due_given l n), rw (due_given l n))

-- the check for room
pub no_room : (room : ℕ) (l : List ℕ) {cs : List Check} → room < length l → FirstDue NoRoom (room_check room l ∷ cs)
no_room room l h = here (lt-ltb room (length l) h) refl

pub has_room : (room : ℕ) (l : List ℕ) {cs : List Check} → length l ≤ room → NoneDue cs → NoneDue (room_check room l ∷ cs)
has_room room l h n = next (le-ltb room (length l) h) n
