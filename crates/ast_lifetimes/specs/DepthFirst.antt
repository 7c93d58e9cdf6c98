-- Depth first in list order, by plain recursion. Theorems.ListedDepthFirst: this is what `longer_than` and
-- `shorter_than` list.
use Rattle.std.specs.Prelude.{ℕ, Bool, true, false, ◌≡◌, List, [], ◌∷◌, ◌++◌}
use Rattle.lifetimes.specs.declared.bounds.Bound.{Bound}
use Rattle.lifetimes.specs.Sets.{member, insert}
use Rattle.lifetimes.specs.Walk.{neighbours}

-- what is listed from some lifetimes, one after another, with some seen before, and what is seen afterwards: a lifetime
-- that was seen is passed over; another one is listed, then all that is listed from its neighbours in push order, then
-- what is listed from the other lifetimes
pub data ListsDepthFirst (longer : Bool) (bs : List Bound) : ℕ → List ℕ → List ℕ → ℕ → Type 0 where
  none : {seen : ℕ} → ListsDepthFirst longer bs seen [] [] seen
  passes : {seen x : ℕ} {others l : List ℕ} {end : ℕ} → member seen x ≡ true
      → ListsDepthFirst longer bs seen others l end
      → ListsDepthFirst longer bs seen (x ∷ others) l end
  lists : {seen x : ℕ} {others l m : List ℕ} {then end : ℕ} → member seen x ≡ false
      → ListsDepthFirst longer bs (insert seen x) (neighbours longer bs x) l then
      → ListsDepthFirst longer bs then others m end → ListsDepthFirst longer bs seen (x ∷ others) (x ∷ (l ++ m)) end
