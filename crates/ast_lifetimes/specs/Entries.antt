-- A method's environment built entry by entry, each in view of what the entries before it left, to the first refusal.
-- Theorems.BuiltInOrder: this is what `from_method_item` gives.
use Rattle.std.specs.Prelude.{ℕ, leb, length, Ok}
use mathlib.Core.List.{List, [], ◌∷◌, ◌++◌, map, flat_map}
use Rattle.answers.specs.declared.Refusal.TheVariants.{Duplicate, Full}
use Rattle.lifetimes.specs.declared.bounds.Bound.{Bound}
use Rattle.answers.specs.Refusals.{check, Outcome, bind, unless}
use Rattle.ast_lifetimes.specs.declared.env.LifetimeEnv.{LifetimeEnv}
use Rattle.ast_lifetimes.specs.Shapes.{impl_names, method_names, Pair, impl_pairs, method_pairs}
use Rattle.ast_lifetimes.specs.Types.{TypeName, Other, Named, Reference, Option, Result, type_names_of}
use Rattle.ast_lifetimes.specs.Env.{most_names, is_declared, pair_checks, bound_of, Behind, Ref, Nothing, behind_ref}
use Rattle.ast_lifetimes.specs.Env.{path_pairs, named_env}

-- what the records say, in order: a name; a bound between two names; a path behind a named reference, with its
-- lifetimes
pub data Entry : Type 0 where
  Name : ℕ → Entry
  Bounded : Pair → Entry
  Path : ℕ → List ℕ → Entry

-- the paths of a type that stand directly behind a named reference
abbrev pub path : Behind → List ℕ → List Entry
path Nothing lifetimes = []
path (Ref r) lifetimes = Path r lifetimes ∷ []

unfoldable pub paths : Behind → TypeName → List Entry
paths b Other = []
paths b (Named lifetimes) = path b lifetimes
paths b (Reference word t) = paths (behind_ref word) t
paths b (Option t) = paths Nothing t
paths b (Result t u) = paths Nothing t ++ paths Nothing u

abbrev pub all_paths : List ℕ → List Entry
all_paths types = flat_map (paths Nothing) (type_names_of types)

-- 01: "impl names, impl bounds, method names, method bounds", then the types
abbrev pub entries : List ℕ → List ℕ → List ℕ → List Entry
entries names bounds types =
    map Name (impl_names names)
    ++ (map Bounded (impl_pairs bounds)
    ++ (map Name (method_names names)
    ++ (map Bounded (method_pairs bounds)
    ++ all_paths types)))

-- the names and bounds so far
pub record SoFar : Type 0 where
  pub names : List ℕ
  pub bounds : List Bound

abbrev pub so_far : List ℕ → List Bound → SoFar
so_far names bs = record { names = names; bounds = bs }

-- one thing after another, to the first refusal
unfoldable pub fold : {A B : Type 0} → (A → B → Outcome A) → A → List B → Outcome A
fold step a [] = Ok a
fold step a (b ∷ bs) = bind (step a b) (λ next. fold step next bs)

-- one name more: refused as a 33rd (4) or declared again (2)
abbrev pub declare : SoFar → ℕ → Outcome SoFar
declare s name =
    unless (check (leb most_names (length s.names)) Full ∷ check (is_declared s.names name) Duplicate ∷ [])
    (so_far (s.names ++ (name ∷ [])) s.bounds)

-- one bound more: refused where a side is not declared yet (3) or as a 257th (4)
abbrev pub push_pair : SoFar → Pair → Outcome SoFar
push_pair s p =
    unless (pair_checks s.names (length s.bounds) p) (so_far s.names (s.bounds ++ (bound_of s.names p ∷ [])))

-- one entry more; what a path pushes is settled before its first push
abbrev pub step : SoFar → Entry → Outcome SoFar
step s (Name name) = declare s name
step s (Bounded p) = push_pair s p
step s (Path r lifetimes) = fold push_pair s (path_pairs s.names s.bounds r lifetimes)

abbrev pub built : List ℕ → List ℕ → List ℕ → Outcome LifetimeEnv
built names bounds types =
    bind (fold step (so_far [] []) (entries names bounds types)) (λ s. Ok (named_env s.names s.bounds))
