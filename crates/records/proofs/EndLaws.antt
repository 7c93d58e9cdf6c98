-- Where a reading ends: laws of `EndsAt`, and what `lifetimes_end` says.
use Rattle.std.specs.Prelude.{Some, None, Option}
use Prim.Native.Nat.{ℕ, suc, ◌+◌, ◌-◌, ◌≤◌, ◌<◌}
use mathlib.Core.Bool.{Bool, true, false, cond, ◌&&◌, and-eq-true_iff}
use mathlib.Core.Path.{◌≡◌, refl, sym, ap, subst, ◌∙◌}
use mathlib.Core.List.{List, [], ◌∷◌}
use native.Mathlib.Numerals.{add-one}
use native.Mathlib.Omega.{arith}
use lib.Dec.{leb}
use lib.ListN.{length, take, drop, length-drop}
use lib.Seq.{drop-cons, drop-drop}
use borrow.Author.Tests.{leb-true}
use Rattle.records.specs.Reading.{Reading, Read, Fails, onward, read_lifetimes, end_of}
use Rattle.records.specs.Ends.{EndsAt, ends, missing}

-- ---- `EndsAt`

-- where a call ended, once it is known which way it came out
pub ends_told : {A : Type 0} {words : List ℕ} {at : ℕ} {reading : Reading A} {r s : Option ℕ} → EndsAt words at reading r
    → r ≡ s → EndsAt words at reading s
ends_told {words = words} {at} {reading} h e = subst (EndsAt words at reading) e h

pub ends_past : {A : Type 0} {words : List ℕ} {at next : ℕ} {reading : Reading A} → EndsAt words at reading (Some next) → at < next
ends_past (ends d b e) = b

pub ends_within : {A : Type 0} {words : List ℕ} {at next : ℕ} {reading : Reading A} → EndsAt words at reading (Some next)
    → next ≤ length words
ends_within (ends d b e) = e

-- a reading that only wraps what was read ends where that ends
pub wrapped : {A B : Type 0} {words : List ℕ} {from : ℕ} {reading : Reading A} {r : Option ℕ} (at : ℕ) → at ≤ from
    → (f : A → B) → EndsAt words from reading r
    → EndsAt words at (onward reading (λ a rest. Read (f a) rest)) r
wrapped at l f (ends {next = next} d b e) = ends {next = next} d (omega arith) e
wrapped at l f missing = missing

-- of two readings, the second starts where the first ends
pub wrapped_missing : {A B C : Type 0} {words : List ℕ} {from : ℕ} {reading : Reading A} (at : ℕ) (next : List ℕ
    → Reading B) (f : A → B → C) → EndsAt words from reading None
    → EndsAt words at (onward reading (λ a rest. onward (next rest) (λ b behind. Read (f a b) behind))) None
wrapped_missing at next f missing = missing

pub wrapped_both : {A B C : Type 0} {words : List ℕ} {from second : ℕ} {reading : Reading A} {r : Option ℕ} (at : ℕ)
    → at ≤ from → (next : List ℕ → Reading B) (f : A → B → C)
    → EndsAt words from reading (Some second) → EndsAt words second (next (drop second words)) r
    → EndsAt words at (onward reading (λ a rest. onward (next rest) (λ b behind. Read (f a b) behind))) r
wrapped_both at l next f (ends {a} d b e) h = rw (← d) (wrapped at (omega arith) (f a) h)

-- ---- `lifetimes_end`

-- what the call says of the place where it ends
pub lifetimes_end : (words : List ℕ) (at : ℕ) {r : Option ℕ} → r ≡ end_of (length words) (read_lifetimes (drop at words))
    → EndsAt words at (read_lifetimes (drop at words)) r
lifetimes_end words at q = rw q (go (drop at words) refl)
  where
    whole : (n : ℕ) (rest : List ℕ) (t : Bool) → drop at words ≡ n ∷ rest → (leb n 16 && leb n (length rest)) ≡ t
        → EndsAt words at (cond t (Read (take n rest) (drop n rest)) Fails)
        (end_of (length words) (cond t (Read (take n rest) (drop n rest)) Fails))
    whole n rest true e b =
        let size : length words - at ≡ suc (length rest) = rw length-drop at (ap length e) in
        let few : n ≤ length rest = leb-true n (length rest) ((and-eq-true_iff (leb n 16) _).0 b).1 in
        let behind : drop (suc at) words ≡ rest = ap (drop 1) (sym (drop-cons words at 0 (omega arith)) ∙ e) in
        let next : length words - (length rest - n) ≡ at + 1 + n = omega arith in
        let left : drop (at + 1 + n) words ≡ drop n rest = rw (add-one, ← drop-drop, behind) in
        rw (length-drop, next) (ends {next = at + 1 + n} left (omega arith) (omega arith))
    whole n rest false e b = missing

    go : (l : List ℕ) → drop at words ≡ l → EndsAt words at (read_lifetimes l) (end_of (length words) (read_lifetimes l))
    go [] e = missing
    go (n ∷ rest) e = whole n rest (leb n 16 && leb n (length rest)) e refl
