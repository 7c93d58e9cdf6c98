-- The shape of the records `names`, `bounds` and `types` (refusal 1, 01's "torn"), and what a record in shape says.
-- A record that is not in shape says something too, so that every definition here is total; it is never looked at.
use Rattle.std.specs.Prelude.{ℕ, ◌/◌, ◌%◌, Bool, false, ◌&&◌, List, [], ◌∷◌, eqb, leb, length, take, drop}
use Rattle.answers.specs.Lists.{all}
use Rattle.records.specs.Reading.{few_words}

-- A declared lifetime word: 0 'static, 1 anonymous, 2 or more a name
abbrev pub is_name : ℕ → Bool
is_name word = leb 2 word

-- `names`: how many of the names are the impl's, then all names

unfoldable pub names_in_shape : List ℕ → Bool
names_in_shape [] = false
names_in_shape (impls ∷ names) = few_words (impls ∷ names) && (leb impls (length names) && all is_name names)

abbrev pub impl_names : List ℕ → List ℕ
impl_names [] = []
impl_names (impls ∷ names) = take impls names

abbrev pub method_names : List ℕ → List ℕ
method_names [] = []
method_names (impls ∷ names) = drop impls names

-- `bounds`: how many pairs are the impl's, then pairs longer, shorter

pub record Pair : Type 0 where
  pub longer : ℕ
  pub shorter : ℕ

abbrev pub pair : ℕ → ℕ → Pair
pair l s = record { longer = l; shorter = s }

unfoldable pub pairs_of : List ℕ → List Pair
pairs_of [] = []
pairs_of (l ∷ []) = []
pairs_of (l ∷ s ∷ words) = pair l s ∷ pairs_of words

unfoldable pub bounds_in_shape : List ℕ → Bool
bounds_in_shape [] = false
bounds_in_shape (impls ∷ words) =
    few_words (impls ∷ words) && (eqb (length words % 2) 0 && leb impls (length words / 2))

abbrev pub impl_pairs : List ℕ → List Pair
impl_pairs [] = []
impl_pairs (impls ∷ words) = take impls (pairs_of words)

abbrev pub method_pairs : List ℕ → List Pair
method_pairs [] = []
method_pairs (impls ∷ words) = drop impls (pairs_of words)
