-- What `is_empty` answers of a slice.
use Rattle.std.specs.Bool.{◌==◌}
use Prim.Native.Nat.{ℕ}
use mathlib.Core.Bool.{Bool, true, false}
use mathlib.Core.Path.{◌≡◌, sym, ◌∙◌}
use mathlib.Core.List.{List}
use Rattle.std.proofs.lemmas.Bool.{eqb-true, eqb-false}
use lib.ListN.{length}

pub empty_true : {t : Bool} (l : List ℕ) → t ≡ (length l == 0) → t ≡ true → length l ≡ 0
empty_true l e v = eqb-true (length l) 0 (sym e ∙ v)

pub empty_false : {t : Bool} (l : List ℕ) → t ≡ (length l == 0) → t ≡ false → length l ≡ 0 → ⊥
empty_false l e v = eqb-false (length l) 0 (sym e ∙ v)
