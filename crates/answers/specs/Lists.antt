-- Lists: what definitions of several crates say over any test or function, each once. In order: numbers in a row; some
-- entry, all entries, the entries that pass a test, how many do; each entry with its number; where lists end that stand
-- one after another.
use Rattle.std.specs.Prelude.{ℕ, zero, suc, ◌+◌, Bool, true, false, cond, ◌&&◌, ◌||◌, List, [], ◌∷◌, ◌++◌, length}

-- n numbers in a row, from x on
unfoldable pub range : ℕ → ℕ → List ℕ
range x zero = []
range x (suc n) = x ∷ range (suc x) n

module _ {A : Type 0} (test : A → Bool) where
  unfoldable pub any : List A → Bool
  any [] = false
  any (x ∷ l) = test x || any l

  unfoldable pub all : List A → Bool
  all [] = true
  all (x ∷ l) = test x && all l

  -- those that pass, in order
  unfoldable pub filter : List A → List A
  filter [] = []
  filter (x ∷ l) = cond (test x) (x ∷ filter l) (filter l)

  unfoldable pub count : List A → ℕ
  count [] = 0
  count (x ∷ l) = cond (test x) (suc (count l)) (count l)

-- what each entry gives with its number, one after another, the first numbered n
unfoldable pub numbered : {A B : Type 0} → (ℕ → A → List B) → ℕ → List A → List B
numbered each n [] = []
numbered each n (x ∷ l) = each n x ++ numbered each (suc n) l

-- where each of some lists ends, laid one after another from a place on
unfoldable pub ends_from : ℕ → List (List ℕ) → List ℕ
ends_from at [] = []
ends_from at (l ∷ ls) = (at + length l) ∷ ends_from (at + length l) ls
