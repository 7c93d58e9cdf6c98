-- The type that a call found, once it is known that it found one: it is what stands there.
use Rattle.std.specs.Prelude.{Ok, Err, Some, None, Option}
use Rattle.std.specs.Option.{ok_or}
use Prim.Native.Nat.{ℕ, ◌+◌, ◌<◌}
use mathlib.Core.Path.{◌≡◌, refl, sym, ap, subst, ◌∙◌}
use mathlib.Core.List.{List}
use native.Mathlib.Omega.{arith}
use lib.ListN.{length, get_or, drop, length-take, length-drop}
use lib.Seq.{get_or-take, get_or-drop}
use Rattle.answers.specs.declared.Refusal.{Refusal}
use Rattle.records.specs.Reading.{Reading, Read, Fails}
use Rattle.hir_types.specs.declared.types.Parts.{Parts}
use Rattle.hir_types.specs.LoweredTypes.{LoweredType, read_lowered, located}
use Rattle.hir_types.specs.Places.{Stands, Locates, locates, nowhere, Coded, CodedAt}
use Rattle.hir_types.proofs.LocatedLaws.{type_located}
use Rattle.hir_types.proofs.QuestionLaws.{was_some, was_none}

pub record Found (words : List ℕ) (at : ℕ) (reading : Reading LoweredType) (p : Parts) : Type 0 where
  pub type : LoweredType
  pub rest : List ℕ
  pub reads : reading ≡ Read type rest
  pub stands : Stands words at type rest p

module _ {words : List ℕ} {at : ℕ} {reading : Reading LoweredType} {r : Option Parts} (l : Locates words at reading r) where
  pub found_told : {p : Parts} → r ≡ Some p → Found words at reading p
  found_told {p} e = go (subst (Locates words at reading) e l)
    where
      go : {reading : Reading LoweredType} → Locates words at reading (Some p) → Found words at reading p
      go (locates {t} {rest} s) = record { type = t; rest = rest; reads = refl; stands = s }

  pub missing_told : r ≡ None → reading ≡ Fails
  missing_told e = go (subst (Locates words at reading) e l)
    where
      go : {reading : Reading LoweredType} → Locates words at reading None → reading ≡ Fails
      go nowhere = refl

-- what `type_at` tells of a place where a type stands, and of one where none does
module _ (words : List ℕ) (at : ℕ) where
  pub type_found : {p : Parts} → Some p ≡ located at (length words) (read_lowered (drop at words))
      → Found words at (read_lowered (drop at words)) p
  type_found e = found_told (type_located words at e) refl

  pub type_lost : None ≡ located at (length words) (read_lowered (drop at words)) → read_lowered (drop at words) ≡ Fails
  type_lost e = missing_told (type_located words at e) refl

  -- what a call of it tells behind an `ok_or`
  module _ {o : Option Parts} (told : o ≡ located at (length words) (read_lowered (drop at words))) (s : Refusal) where
    pub asked_found : {p : Parts} → Ok p ≡ ok_or o s → Found words at (read_lowered (drop at words)) p
    asked_found e = found_told (type_located words at told) (was_some o s e)

    pub asked_lost : {r : Refusal} → Err r ≡ ok_or o s → (read_lowered (drop at words) ≡ Fails) × (r ≡ s)
    asked_lost e = let none = was_none o s e in (missing_told (type_located words at told) none.0, none.1)

-- its code
pub code_told : {words : List ℕ} {r : Option Parts} {p : Parts} → CodedAt words r → r ≡ Some p → Coded words p
code_told {words} h e = subst (CodedAt words) e h

-- the path words are there to be read
module _ {words rest : List ℕ} {at : ℕ} {t : LoweredType} {p : Parts} (s : Stands words at t rest p) (i : ℕ) (h : i < p.count) where
  pub path_inside : p.from + i < length words
  path_inside = let n = simp (length-take, length-drop) at (ap length s.path) in omega (arith, s.count)

  pub path_word : get_or words (p.from + i) 0 ≡ get_or t.path i 0
  path_word =
      sym
      (ap (λ (l : List ℕ). get_or l i 0) (sym s.path)
      ∙ rw (get_or-take p.count (drop p.from words) i 0 h, get_or-drop p.from words i 0))
