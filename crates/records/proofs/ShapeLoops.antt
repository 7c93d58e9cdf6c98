-- The loop over the items of a record: what is left, read from here, is read just if all is.
use Rattle.std.specs.Prelude.{Ok, Err, Some, None}
use Prim.Native.Nat.{ℕ, zero, suc, ◌+◌, ◌-◌, ◌≤◌, ◌<◌}
use mathlib.Core.Bool.{true}
use mathlib.Core.Path.{◌≡◌, refl, sym, ap, ◌∙◌}
use mathlib.Core.List.{List, [], ◌∷◌}
use native.Mathlib.Numerals.{add-one, sub-one}
use native.Mathlib.Omega.{arith}
use lib.ListN.{length, drop, length-drop, drop_of_length-le}
use borrow.Author.Tests.{le-leb, lt-leb}
use Rattle.answers.specs.declared.Refusal.TheVariants.{Malformed}
use Rattle.records.specs.Reading.{Reading, Read, Fails, onward, is_read, read_all, in_shape, shape_verdict}
use Rattle.records.specs.Ends.{EndsAt, ends, missing}
use Rattle.records.proofs.EndLaws.{ends_past, ends_within}

pub record Shaping {A : Type 0} (item : ℕ → List ℕ → Reading A) (words : List ℕ) (number at : ℕ) : Type 0 where
  pub few : length words ≤ 1024
  pub here : at ≤ length words
  pub steps : ℕ
  pub enough : length words ≤ at + steps
  pub left : is_read (read_all item number steps (drop at words)) ≡ is_read (read_all item 0 (length words) words)

module _ {A : Type 0} (item : ℕ → List ℕ → Reading A) where
  pub shaping_start : (words : List ℕ) → length words ≤ 1024 → Shaping item words 0 0
  shaping_start words h = record { few = h; here = omega arith; steps = length words; enough = omega arith; left = refl }

  pub shaping_long : (words : List ℕ) → 1024 < length words → Err Malformed ≡ shape_verdict (in_shape item words)
  unfolding in_shape
  shaping_long words h = rw (lt-leb (length words) 1024 h)

  -- the steps of reading one item after another
  read_end : (number steps : ℕ) → is_read (read_all item number steps []) ≡ true
  unfolding read_all
  read_end number zero = refl
  read_end number (suc steps) = refl

  read_step : (number steps : ℕ) (words : List ℕ) → 0 < steps → 0 < length words
      → read_all item number steps words
      ≡ onward (item number words)
      (λ a rest. onward (read_all item (suc number) (steps - 1) rest) (λ items end. Read (a ∷ items) end))
  unfolding read_all
  read_step number zero words h k = absurd (omega arith)
  read_step number (suc steps) [] h k = absurd (omega arith)
  read_step number (suc steps) (word ∷ words) h k = rw sub-one

-- one reading after another is read just if the second is, from where the first ends
read_after : {A B : Type 0} (f : A → B) (r : Reading A) → is_read (onward r (λ a rest. Read (f a) rest)) ≡ is_read r
read_after f (Read a rest) = refl
read_after f Fails = refl

missing_read : {A : Type 0} {words : List ℕ} {at : ℕ} {reading : Reading A} → EndsAt words at reading None → reading ≡ Fails
missing_read missing = refl

ends_read : {A B C : Type 0} {words : List ℕ} {at second : ℕ} {reading : Reading A} (next : List ℕ → Reading B)
    (f : A → B → C) → EndsAt words at reading (Some second)
    → is_read (onward reading (λ a rest. onward (next rest) (λ b end. Read (f a b) end))) ≡ is_read (next (drop second words))
ends_read next f (ends {a} {rest} d b e) = rw d (read_after (f a) (next rest))

module _ {A : Type 0} {item : ℕ → List ℕ → Reading A} {words : List ℕ} {number at : ℕ} (inv : Shaping item words number at) where
  pub shaping_end : length words ≤ at → Ok (tt {0}) ≡ shape_verdict (in_shape item words)
  unfolding in_shape
  shaping_end h =
      rw (
        le-leb (length words) 1024 inv.few,
        ← inv.left,
        drop_of_length-le words {i = at} h,
        read_end item number inv.steps,
      )

  module _ (h : at < length words) where
    step_here : read_all item number inv.steps (drop at words) ≡ onward (item number (drop at words))
        (λ a rest. onward (read_all item (suc number) (inv.steps - 1) rest) (λ items end. Read (a ∷ items) end))
    step_here = read_step item number inv.steps (drop at words) (omega (arith, inv.enough)) (rw length-drop (omega arith))

    pub shaping_missing : EndsAt words at (item number (drop at words)) None
        → Err Malformed ≡ shape_verdict (in_shape item words)
    unfolding in_shape
    shaping_missing k = rw (le-leb (length words) 1024 inv.few, ← inv.left, step_here, missing_read k)

    pub shaping_more : {next : ℕ} → EndsAt words at (item number (drop at words)) (Some next) → Shaping item words (number + 1) next
    shaping_more {next} k = record {
      few = inv.few;
      here = ends_within k;
      steps = inv.steps - 1;
      enough = omega (arith, inv.enough, ends_past k);
      left = rw (add-one number) (sym (ends_read (read_all item (suc number) (inv.steps - 1)) (λ a items. a ∷ items) k)
          ∙ ap is_read (sym step_here) ∙ inv.left);
    }
