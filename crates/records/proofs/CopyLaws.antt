-- Copying the first words of a record to a slice that has room for them, or none of them.
use Rattle.std.specs.Prelude.{Ok, Err}
use Prim.Native.Nat.{ℕ, ◌≤◌, ◌<◌, min}
use mathlib.Core.Bool.{Bool, true, false}
use mathlib.Core.Path.{◌≡◌, refl, sym, ap, ◌∙◌}
use mathlib.Core.List.{List, [], ◌∷◌}
use native.Mathlib.Omega.{arith}
use borrow.Author.Tests.{leb-true, leb-false, ltb-true, ltb-false}
use lib.Dec.{leb}
use lib.ListN.{length, take}
use lib.Seq.{sets, take_all, length-take-le}
use Rattle.answers.specs.declared.Refusal.{Refusal}
use Rattle.answers.specs.declared.Refusal.TheVariants.{NoRoom}
use Rattle.answers.specs.Refusals.{Check, Outcome, unless, FirstDue, here, later, end}
use Rattle.answers.specs.Lent.{counted, written, room_check}
use Rattle.answers.proofs.RefusalLaws.{due_given, refused_due, given_due, none_first}
use Rattle.answers.proofs.LentLaws.{answers_refusal, answers_list, no_room, has_room}
use Rattle.answers.proofs.Copying.{sets_front, Copying, copying_end}
use Rattle.records.specs.Copied.{copied}

-- the first words, so many or all there are
module _ (count : ℕ) (words : List ℕ) where
  taken : take (min count (length words)) words ≡ take count words
  taken = go (leb count (length words)) refl
    where
      go : (b : Bool) → leb count (length words) ≡ b → take (min count (length words)) words ≡ take count words
      go true t = let e : min count (length words) ≡ count = omega (arith, leb-true count (length words) t) in rw e
      go false f =
          let e : min count (length words) ≡ length words = omega (arith, leb-false count (length words) f) in
          rw e (take_all (length words) words (omega arith)
          ∙ sym (take_all count words (omega (arith, leb-false count (length words) f))))

  how_many_lem : length (take count words) ≡ min count (length words)
  how_many_lem = ap length (sym taken) ∙ length-take-le (min count (length words)) words (omega arith)

  -- what the call answers and leaves, by whether the slice takes them
  module _ {n : ℕ} (e : n ≡ min count (length words)) (out : List ℕ) where
    pub copy_refused : length out < n → (Err NoRoom ≡ counted (copied words count (length out)))
        × (out ≡ written (copied words count (length out)) out)
    unfolding copied
    copy_refused h = answers_refusal (take count words) out (no_room (length out) (take count words) (omega (arith, how_many_lem, e)))

    pub copy_done : {i : ℕ} {out' : List ℕ} → n ≤ length out → Copying words n 0 out out' i → n ≤ i
        → (Ok n ≡ counted (copied words count (length out))) × (out' ≡ written (copied words count (length out)) out)
    unfolding copied
    copy_done {i} {out'} room inv h =
        let all = answers_list (take count words) out (has_room (length out) (take count words) (omega (arith, how_many_lem, e)) end) in
        let same : take n words ≡ take count words = rw e taken in
        let stored : out' ≡ sets out 0 (take count words) = rw same at (copying_end inv (omega (arith, e)) h) in (
          ap (λ (k : ℕ). Ok k) (e ∙ sym how_many_lem) ∙ all.0,
          stored ∙ sets_front out (take count words) (omega (arith, how_many_lem, e)) ∙ all.1,
        )

-- one check alone that is refused is due
first_here : {r : Refusal} {c : Check} → FirstDue r (c ∷ []) → c.due ≡ true
first_here (here h e) = h
first_here {r = r} {c = c} (later _ x6) = elim x6 [ ]

-- what a caller has of it, who asks for no more words than there are
module _ (words : List ℕ) (count : ℕ) (out : List ℕ) (most : count ≤ length words) {out' : List ℕ}
    (w : out' ≡ written (copied words count (length out)) out) where
  size : length (take count words) ≡ count
  size = length-take-le count words most

  pub copied_stores : count ≤ length out → out' ≡ sets out 0 (take count words)
  unfolding copied
  copied_stores h =
      let given = due_given (take count words) (has_room (length out) (take count words) (omega (arith, size)) end) in
      w ∙ rw given (sym (sets_front out (take count words) (omega (arith, size))))

  module _ {r : Outcome ℕ} (e : r ≡ counted (copied words count (length out))) where
    pub copied_all : {n : ℕ} → r ≡ Ok n → count ≤ length out
    unfolding copied
    copied_all {n} c = go (unless (room_check (length out) (take count words) ∷ []) (take count words)) refl (sym e ∙ c)
      where
        go : (o : Outcome (List ℕ)) → unless (room_check (length out) (take count words) ∷ []) (take count words) ≡ o
            → counted o ≡ Ok n → count ≤ length out
        go (Ok l) u z =
            omega (
              arith,
              size,
              ltb-false (length out) (length (take count words)) (none_first (given_due (take count words) l _ u).0),
            )
        go (Err k) u z = let no : ◌≡◌ {A = ℕ} 0 1 = cc in absurd (omega arith)

    pub copied_none : {k : Refusal} → r ≡ Err k → (length out < count) × (out' ≡ out)
    unfolding copied
    copied_none {k} c = go (unless (room_check (length out) (take count words) ∷ []) (take count words)) refl (sym e ∙ c)
      where
        go : (o : Outcome (List ℕ)) → unless (room_check (length out) (take count words) ∷ []) (take count words) ≡ o
            → counted o ≡ Err k → (length out < count) × (out' ≡ out)
        go (Ok l) u z = let no : ◌≡◌ {A = ℕ} 0 1 = cc in absurd (omega arith)
        go (Err j) u z = (
          omega (
            arith,
            size,
            ltb-true (length out) (length (take count words)) (first_here (refused_due (take count words) j _ u)),
          ),
          w
              ∙ rw u,
        )
