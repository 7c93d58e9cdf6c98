-- A step that stands in a record: what is read fits, and where its words are.
use Rattle.std.specs.Prelude.{Some}
use Prim.Native.Nat.{ℕ, ◌-◌, ◌≤◌}
use mathlib.Core.Bool.{true, ◌&&◌, and-eq-true_iff}
use mathlib.Core.Path.{◌≡◌, refl, subst}
use mathlib.Core.List.{List, [], ◌∷◌}
use lib.Dec.{eqb, leb}
use lib.ListN.{length, take, drop}
use lib.Seq.{length-take-le}
use borrow.Author.Tests.{leb-true}
use Rattle.records.specs.Reading.{Reading, read_word, read_lifetimes}
use Rattle.records.proofs.ReadingLaws.{Holds, read, fails, holds_cond, holds_onward, holds_read}
use Rattle.elision.specs.declared.steps.StepAt.{StepAt}
use Rattle.elision.specs.declared.steps.StepAt.TheVariants as standing
use Rattle.elision.specs.Steps.{Step, Generics, SelfType, read_generics, read_step}
use Rattle.elision.specs.Machine.{fits}
use Rattle.elision.specs.Inner.{StandsAt}
use Rattle.elision.specs.Inner as inner

module _ {words : List ℕ} {at : ℕ} {reading : Reading Step} {r : StepAt} (s : StandsAt words at reading (Some r)) where
  pub told : {q : StepAt} → r ≡ q → StandsAt words at reading (Some q)
  told e = subst (λ (x : StepAt). StandsAt words at reading (Some x)) e s

-- ---- what is read fits

lifetimes_fit : (words : List ℕ) → Holds (λ ls rest. leb (length ls) 16 ≡ true) (read_lifetimes words)
lifetimes_fit [] = fails
lifetimes_fit (n ∷ words) =
    holds_cond (λ ls rest. leb (length ls) 16 ≡ true) (leb n 16 && leb n (length words))
    (λ e. let p = (and-eq-true_iff (leb n 16) (leb n (length words))).0 e in read
    (rw (length-take-le n words (leb-true n (length words) p.1)) p.0)) fails

word_fits : (words : List ℕ) → Holds (λ (l : ℕ) rest. Unit {0}) (read_word words)
word_fits [] = fails
word_fits (l ∷ words) = read tt

generics_fit : (words : List ℕ) → Holds (λ g rest. leb g 16 ≡ true) (read_generics words)
generics_fit [] = fails
generics_fit (g ∷ words) = holds_cond (λ g rest. leb g 16 ≡ true) (leb g 16) (λ e. read e) fails

pub step_fits : (words : List ℕ) → Holds (λ step rest. fits step ≡ true) (read_step words)
unfolding read_step
step_fits [] = fails
step_fits (kind ∷ words) =
    let P : Step → List ℕ → Type 0 = λ step rest. fits step ≡ true in
    holds_cond P (eqb kind 0) (λ e. holds_onward (λ (l : ℕ) rest. Unit {0}) P (word_fits words) (λ l rest p. read refl))
    (holds_cond P (eqb kind 1)
    (λ e. holds_onward (λ g rest. leb g 16 ≡ true) P (generics_fit words)
    (λ g rest p. holds_onward (λ ls behind. leb (length ls) 16 ≡ true) P (lifetimes_fit rest)
    (λ ls behind q. read (rw (p, q)))))
    (holds_cond P (eqb kind 2)
    (λ e. holds_onward (λ ls rest. leb (length ls) 16 ≡ true) P (lifetimes_fit words) (λ ls rest p. read p)) fails))

-- the words of a step, in its record
pub record Part (words : List ℕ) (from to : ℕ) : Type 0 where
  pub starts : from ≤ to
  pub ends : to ≤ length words
  pub few : length (take (to - from) (drop from words)) ≤ 16

generics_part : {words : List ℕ} {at : ℕ} {reading : Reading Step} {g from to : ℕ}
    → StandsAt words at reading (Some (standing.Generics g from to)) → Holds (λ step rest. fits step ≡ true) reading
    → (g ≤ 16) × Part words from to
generics_part {g = g} (inner.generics {ls = ls} {rest = rest} l d b m x) h =
    let p = (and-eq-true_iff (leb g 16) (leb (length ls) 16)).0 (holds_read (λ step rest. fits step ≡ true) (Generics g ls) rest h) in
    (leb-true g 16 p.0, record { starts = m; ends = x; few = rw l (leb-true (length ls) 16 p.1) })

self_part : {words : List ℕ} {at : ℕ} {reading : Reading Step} {from to : ℕ}
    → StandsAt words at reading (Some (standing.SelfType from to)) → Holds (λ step rest. fits step ≡ true) reading
    → Part words from to
self_part (inner.self_type {ls = ls} {rest = rest} l d b m x) h = record {
  starts = m;
  ends = x;
  few = rw l (leb-true (length ls) 16 (holds_read (λ step rest. fits step ≡ true) (SelfType ls) rest h));
}

module _ {words : List ℕ} {at : ℕ} {r : StepAt} (stands : StandsAt words at (read_step (drop at words)) (Some r)) where
  pub part_generics : {g from to : ℕ} → r ≡ standing.Generics g from to → (g ≤ 16) × Part words from to
  part_generics e = generics_part (told stands e) (step_fits (drop at words))

  pub part_self : {from to : ℕ} → r ≡ standing.SelfType from to → Part words from to
  part_self e = self_part (told stands e) (step_fits (drop at words))
