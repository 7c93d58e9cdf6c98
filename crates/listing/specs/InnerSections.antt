-- For private functions only: lists and edges that stand in slices, and the lines that they are printed as.
use Rattle.std.specs.Prelude.{ℕ, ◌/◌, ◌≤◌, List, [], ◌∷◌, length}
use Rattle.std.proofs.Math.Seq.{slice}
use Rattle.text.specs.Decimal.{line}
use Rattle.answers.specs.Lists.{numbered}
use Rattle.borrowing_param.specs.declared.visitor.LifetimeEdge.{LifetimeEdge}
use Rattle.borrowing_param.specs.Edges.{width, edges_in}

-- numbered lists, a line each
abbrev pub list_lines : ℕ → List (List ℕ) → List ℕ
list_lines number ls = numbered (λ n l. line (n ∷ l)) number ls

-- lists that stand one after another in some words from a place on, by where each ends
unfoldable pub cut_from : ℕ → List ℕ → List ℕ → List (List ℕ)
cut_from from words [] = []
cut_from from words (end ∷ ends) = slice from end words ∷ cut_from end words ends

-- the ends ascend within so many words
unfoldable pub Ascend : ℕ → ℕ → List ℕ → Type 0
Ascend from size [] = Unit {0}
Ascend from size (end ∷ ends) = (from ≤ end) × (end ≤ size) × Ascend end size ends

-- the edges whose words these are
abbrev pub edges_of_words : List ℕ → List LifetimeEdge
edges_of_words words = edges_in (length words / width) words
