-- What a response is: judged by the first refusal that is due, and never longer than the program's buffer.
use Rattle.std.specs.Prelude.{Ok, Err}
use Prim.Native.Nat.{ℕ, ◌≤◌}
use mathlib.Core.Logic.{◌⊎◌, inl, inr}
use mathlib.Core.Path.{◌≡◌}
use mathlib.Core.List.{List}
use lib.ListN.{length}
use native.Mathlib.Omega.{arith}
use Rattle.answers.specs.declared.Refusal.{Refusal}
use Rattle.answers.specs.Refusals.{Outcome, unless, FirstDue, NoneDue}
use Rattle.answers.proofs.RefusalLaws.{given_due, refused_due}
use Rattle.sheet.specs.Reading.{sheet_of}
use Rattle.listing.specs.Listing.{room_bytes, said, listing_of, listing_checks}
use Rattle.listing.proofs.CallsLaws.{fits_room, refusal_short}

module _ (bytes : List ℕ) where
  abbrev pub whole : List ℕ
  whole = listing_of (sheet_of bytes)

  pub judge : (o : Outcome (List ℕ)) → unless (listing_checks bytes) whole ≡ o
      → ((k : Refusal) × FirstDue k (listing_checks bytes)) ⊎ NoneDue (listing_checks bytes)
  judge (Ok t) e = inr (given_due whole t (listing_checks bytes) e).0
  judge (Err k) e = inl (k, refused_due whole k (listing_checks bytes) e)

  pub fit : (o : Outcome (List ℕ)) → unless (listing_checks bytes) whole ≡ o → length (said o) ≤ room_bytes
  fit (Ok t) e = let g = given_due whole t (listing_checks bytes) e in rw (← g.1) (fits_room bytes g.0)
  fit (Err k) e = omega (arith, refusal_short k)
