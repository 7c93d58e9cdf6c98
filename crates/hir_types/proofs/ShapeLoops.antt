-- The loop over the items of a record that counts them: what is left, read and counted from here, gives what all gives.
use Rattle.std.specs.Prelude.{Ok, Err, Some, None}
use Prim.Native.Nat.{ℕ, zero, suc, ◌+◌, ◌-◌, ◌≤◌, ◌<◌}
use mathlib.Core.Path.{◌≡◌, refl, sym, ap, ◌∙◌}
use mathlib.Core.List.{List, [], ◌∷◌}
use native.Mathlib.Nat.{zero-add}
use native.Mathlib.Numerals.{add-one, sub-one}
use native.Mathlib.Omega.{arith}
use lib.ListN.{length, drop, length-drop, drop_of_length-le}
use borrow.Author.Tests.{le-leb, lt-leb}
use Rattle.answers.specs.declared.Refusal.TheVariants.{Malformed}
use Rattle.records.specs.Reading.{Reading, Read, Fails, onward, is_read, read_or, read_all, in_shape, items_of}
use Rattle.records.specs.Ends.{EndsAt, ends}
use Rattle.records.proofs.EndLaws.{ends_past, ends_within}
use Rattle.hir_types.specs.Rows.{how_many}
use Rattle.hir_types.proofs.PathLaws.{missing_fails}
use Rattle.answers.specs.Refusals.{Outcome, unless}

-- how many there are in all, so many before those that were read
abbrev tally : {A : Type 0} → ℕ → Reading (List A) → Outcome ℕ
tally number (Read items rest) = Ok (number + length items)
tally number Fails = Err Malformed

-- ---- one item after another

module _ {A : Type 0} (item : ℕ → List ℕ → Reading A) where
  pub read_none : (number steps : ℕ) → read_all item number steps [] ≡ Read [] []
  unfolding read_all
  read_none number zero = refl
  read_none number (suc steps) = refl

  pub read_next : (number steps : ℕ) (words : List ℕ) → 0 < steps → 0 < length words
      → read_all item number steps words
      ≡ onward (item number words)
      (λ a rest. onward (read_all item (suc number) (steps - 1) rest) (λ items end. Read (a ∷ items) end))
  unfolding read_all
  read_next number zero words h k = absurd (omega arith)
  read_next number (suc steps) [] h k = absurd (omega arith)
  read_next number (suc steps) (word ∷ words) h k = rw sub-one

  tally_all : (words : List ℕ) → length words ≤ 1024
      → tally 0 (read_all item 0 (length words) words) ≡ how_many (in_shape item words) (items_of item words)
  unfolding in_shape items_of unless
  tally_all words h = rw (le-leb (length words) 1024 h) (go (read_all item 0 (length words) words))
    where
      go : (r : Reading (List A)) → tally 0 r ≡ how_many (is_read r) (read_or [] r)
      go (Read items rest) = rw zero-add
      go Fails = refl

  tally_after : (number : ℕ) (a : A) (r : Reading (List A))
      → tally number (onward r (λ items end. Read (a ∷ items) end)) ≡ tally (suc number) r
  tally_after number a (Read items rest) = let e : number + suc (length items) ≡ suc number + length items = omega arith in rw e
  tally_after number a Fails = refl

  tally_more : (number steps : ℕ) {words : List ℕ} {at next : ℕ} {reading : Reading A} → EndsAt words at reading (Some next)
      → tally number (onward reading (λ a rest. onward (read_all item (suc number) steps rest) (λ items end. Read (a ∷ items) end)))
      ≡ tally (suc number) (read_all item (suc number) steps (drop next words))
  tally_more number steps (ends {a} {rest} d b e) = rw d (tally_after number a (read_all item (suc number) steps rest))

  -- ---- the loop

  pub record Counting (words : List ℕ) (number at : ℕ) : Type 0 where
    pub few : length words ≤ 1024
    pub here : at ≤ length words
    pub before : number ≤ at
    pub steps : ℕ
    pub enough : length words ≤ at + steps
    pub left : tally number (read_all item number steps (drop at words)) ≡ tally 0 (read_all item 0 (length words) words)

  pub counting_start : (words : List ℕ) → length words ≤ 1024 → Counting words 0 0
  counting_start words h =
      record {
        few = h;
        here = omega arith;
        before = omega arith;
        steps = length words;
        enough = omega arith;
        left = refl;
      }

  pub counting_long : (words : List ℕ) → 1024 < length words → Err Malformed ≡ how_many (in_shape item words) (items_of item words)
  unfolding in_shape unless
  counting_long words h = rw (lt-leb (length words) 1024 h)

module _ {A : Type 0} {item : ℕ → List ℕ → Reading A} {words : List ℕ} {number at : ℕ} (inv : Counting item words number at) where
  pub counting_end : length words ≤ at → Ok number ≡ how_many (in_shape item words) (items_of item words)
  counting_end h =
      let z : number + 0 ≡ number = omega arith in
      rw (← tally_all item words inv.few, ← inv.left, drop_of_length-le words {i = at} h, read_none item number inv.steps, z)

  module _ (h : at < length words) where
    next_here : read_all item number inv.steps (drop at words) ≡ onward (item number (drop at words))
        (λ a rest. onward (read_all item (suc number) (inv.steps - 1) rest) (λ items end. Read (a ∷ items) end))
    next_here = read_next item number inv.steps (drop at words) (omega (arith, inv.enough)) (rw length-drop (omega arith))

    pub counting_missing : EndsAt words at (item number (drop at words)) None
        → Err Malformed ≡ how_many (in_shape item words) (items_of item words)
    counting_missing k = rw (← tally_all item words inv.few, ← inv.left, next_here, missing_fails k)

    pub counting_more : {next : ℕ} → EndsAt words at (item number (drop at words)) (Some next) → Counting item words (number + 1) next
    counting_more {next} k = record {
      few = inv.few;
      here = ends_within k;
      before = omega (arith, inv.before, ends_past k);
      steps = inv.steps - 1;
      enough = omega (arith, inv.enough, ends_past k);
      left = rw (add-one number) (sym (tally_more item number (inv.steps - 1) k) ∙ ap (tally number) (sym next_here) ∙ inv.left);
    }
