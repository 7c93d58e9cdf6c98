-- Building entry by entry: a run of entries gives its result unless one of its checks is due, so all entries give what
-- `from_method_item` gives.
use Rattle.std.specs.Prelude.{Ok, Err}
use Prim.Native.Nat.{ℕ, suc, ◌+◌}
use mathlib.Core.Bool.{Bool, true, false, cond, ◌&&◌}
use mathlib.Core.Path.{◌≡◌, refl, sym, ◌∙◌}
use mathlib.Core.List.{List, [], ◌∷◌, ◌++◌, map, map-append, append-nil, append_assoc, flat_map}
use native.Mathlib.Omega.{arith}
use lib.ListN.{length, length-append, length-map}
use Rattle.lifetimes.specs.declared.bounds.Bound.{Bound}
use Rattle.answers.specs.Refusals.{Check, Outcome, unless, bind}
use Rattle.ast_lifetimes.specs.Shapes.{names_in_shape, impl_names, method_names, Pair, bounds_in_shape, impl_pairs}
use Rattle.ast_lifetimes.specs.Shapes.{method_pairs}
use Rattle.ast_lifetimes.specs.Types.{TypeName, Other, Named, Reference, Option, Result, types_in_shape, type_names_of}
use Rattle.ast_lifetimes.specs.Env.{name_checks, pair_checks, all_pair_checks, bound_of, bounds_for, Behind, Ref}
use Rattle.ast_lifetimes.specs.Env.{Nothing, behind_ref, path_pairs, implied, all_implied, named_env, all_names_of}
use Rattle.ast_lifetimes.specs.Env.{explicit_bounds, method_bounds, item_place_checks, from_method_item}
use Rattle.ast_lifetimes.specs.Entries.{Entry, Name, Bounded, paths, entries, SoFar, so_far, fold}
use Rattle.ast_lifetimes.specs.Entries.{declare, push_pair, step, built}
use Rattle.ast_lifetimes.proofs.BoundsLaws.{all_pair_checks_append}

-- some checks, and then what follows if none is due
after_unless : {A B : Type 0} (checks more : List Check) (a : A) (b : B) (f : A → Outcome B) → f a ≡ unless more b
    → bind (unless checks a) f ≡ unless (checks ++ more) b
unfolding unless
after_unless [] more a b f e = e
after_unless (c ∷ cs) more a b f e = go c.due (after_unless cs more a b f e)
  where
    go : (t : Bool) → bind (unless cs a) f ≡ unless (cs ++ more) b
        → bind (cond t (Err c.refusal) (unless cs a)) f ≡ cond t (Err c.refusal) (unless (cs ++ more) b)
    go true h = refl
    go false h = h

pub fold_append : {A B : Type 0} (f : A → B → Outcome A) (a : A) (l m : List B) → fold f a (l ++ m) ≡ bind (fold f a l) (λ b. fold f b m)
unfolding fold
fold_append f a [] m = refl
fold_append {A = A} f a (x ∷ l) m = go (f a x) (λ b. fold_append f b l m)
  where
    go : (o : Outcome A) → ((b : A) → fold f b (l ++ m) ≡ bind (fold f b l) (λ c. fold f c m))
        → bind o (λ b. fold f b (l ++ m)) ≡ bind (bind o (λ b. fold f b l)) (λ c. fold f c m)
    go (Ok b) h = h b
    go (Err r) h = refl

-- one run after another
fold_both : (s t u : SoFar) (checks more : List Check) (l m : List Entry) → fold step s l ≡ unless checks t
    → fold step t m ≡ unless more u → fold step s (l ++ m) ≡ unless (checks ++ more) u
fold_both s t u checks more l m h k = rw (fold_append step s l m, h) (after_unless checks more t u (λ b. fold step b m) k)

-- a run of names
fold_names : (names : List ℕ) (bs : List Bound) (l : List ℕ)
    → fold step (so_far names bs) (map Name l) ≡ unless (name_checks names l) (so_far (names ++ l) bs)
unfolding fold name_checks unless
fold_names names bs [] = rw (append-nil names)
fold_names names bs (x ∷ l) =
    after_unless (name_checks names (x ∷ [])) (name_checks (names ++ (x ∷ [])) l) (so_far (names ++ (x ∷ [])) bs)
    (so_far (names ++ (x ∷ l)) bs) (λ next. fold step next (map Name l))
    (rw (append_assoc names (x ∷ []) l) at (fold_names (names ++ (x ∷ [])) bs l))

pub fold_named : (s : SoFar) (l : List ℕ) → fold step s (map Name l) ≡ fold declare s l
unfolding fold
fold_named s [] = refl
fold_named s (x ∷ l) = go (declare s x) (λ t. fold_named t l)
  where
    go : (o : Outcome SoFar) → ((t : SoFar) → fold step t (map Name l) ≡ fold declare t l)
        → bind o (λ next. fold step next (map Name l)) ≡ bind o (λ next. fold declare next l)
    go (Ok t) h = h t
    go (Err r) h = refl

-- a run of pairs
pub fold_pairs : (names : List ℕ) (bs : List Bound) (l : List Pair)
    → fold push_pair (so_far names bs) l ≡ unless (all_pair_checks names (length bs) l) (so_far names (bs ++ bounds_for names l))
unfolding fold all_pair_checks unless
fold_pairs names bs [] = rw (append-nil bs)
fold_pairs names bs (p ∷ l) =
    let more : length (bs ++ (bound_of names p ∷ [])) ≡ suc (length bs) = rw (length-append bs (bound_of names p ∷ [])) (omega arith) in
    after_unless (pair_checks names (length bs) p) (all_pair_checks names (suc (length bs)) l)
    (so_far names (bs ++ (bound_of names p ∷ []))) (so_far names (bs ++ bounds_for names (p ∷ l)))
    (λ next. fold push_pair next l)
    (rw (more, append_assoc bs (bound_of names p ∷ []) (bounds_for names l)) at (fold_pairs names (bs ++ (bound_of names p ∷ [])) l))

pub fold_bounded : (s : SoFar) (l : List Pair) → fold step s (map Bounded l) ≡ fold push_pair s l
unfolding fold
fold_bounded s [] = refl
fold_bounded s (p ∷ l) = go (push_pair s p) (λ t. fold_bounded t l)
  where
    go : (o : Outcome SoFar) → ((t : SoFar) → fold step t (map Bounded l) ≡ fold push_pair t l)
        → bind o (λ next. fold step next (map Bounded l)) ≡ bind o (λ next. fold push_pair next l)
    go (Ok t) h = h t
    go (Err r) h = refl

after_gives : {A : Type 0} (o : Outcome A) → bind o (λ a. Ok a) ≡ o
after_gives (Ok a) = refl
after_gives (Err r) = refl

-- two runs of pairs, the second on the bounds that the first left
pairs_both : (names : List ℕ) (bs : List Bound) (l m : List Entry) (ps qs : List Pair)
    → fold step (so_far names bs) l ≡ unless (all_pair_checks names (length bs) ps) (so_far names (bs ++ bounds_for names ps))
    → fold step (so_far names (bs ++ bounds_for names ps)) m
    ≡ unless (all_pair_checks names (length (bs ++ bounds_for names ps)) qs)
    (so_far names ((bs ++ bounds_for names ps) ++ bounds_for names qs))
    → fold step (so_far names bs) (l ++ m) ≡ unless (all_pair_checks names (length bs) (ps ++ qs))
    (so_far names (bs ++ bounds_for names (ps ++ qs)))
pairs_both names bs l m ps qs h k =
    let count : length (bs ++ bounds_for names ps) ≡ length bs + length ps = rw (length-append, length-map) in
    let all : bs ++ bounds_for names (ps ++ qs) ≡ (bs ++ bounds_for names ps) ++ bounds_for names qs =
    rw (map-append (bound_of names) ps qs, append_assoc) in
    rw (all_pair_checks_append names (length bs) ps qs, all, ← count)
    (fold_both (so_far names bs) (so_far names (bs ++ bounds_for names ps))
    (so_far names ((bs ++ bounds_for names ps) ++ bounds_for names qs)) (all_pair_checks names (length bs) ps)
    (all_pair_checks names (length (bs ++ bounds_for names ps)) qs) l m h k)

-- the paths of a type, and of types
fold_paths : (names : List ℕ) (b : Behind) (bs : List Bound) (t : TypeName)
    → fold step (so_far names bs) (paths b t) ≡ unless (all_pair_checks names (length bs) (implied names b bs t))
    (so_far names (bs ++ bounds_for names (implied names b bs t)))
unfolding paths implied fold all_pair_checks unless
fold_paths names b bs Other = rw (append-nil bs)
fold_paths names Nothing bs (Named ls) = rw (append-nil bs)
fold_paths names (Ref r) bs (Named ls) = after_gives (fold push_pair (so_far names bs) (path_pairs names bs r ls))
    ∙ fold_pairs names bs (path_pairs names bs r ls)
fold_paths names b bs (Reference word t) = fold_paths names (behind_ref word) bs t
fold_paths names b bs (Option t) = fold_paths names Nothing bs t
fold_paths names b bs (Result t u) =
    pairs_both names bs (paths Nothing t) (paths Nothing u) (implied names Nothing bs t)
    (implied names Nothing (bs ++ bounds_for names (implied names Nothing bs t)) u)
    (fold_paths names Nothing bs t) (fold_paths names Nothing (bs ++ bounds_for names (implied names Nothing bs t)) u)

pub fold_types : (names : List ℕ) (bs : List Bound) (ts : List TypeName)
    → fold step (so_far names bs) (flat_map (paths Nothing) ts) ≡ unless (all_pair_checks names (length bs) (all_implied names bs ts))
    (so_far names (bs ++ bounds_for names (all_implied names bs ts)))
unfolding flat_map all_implied fold all_pair_checks unless
fold_types names bs [] = rw (append-nil bs)
fold_types names bs (t ∷ ts) =
    pairs_both names bs (paths Nothing t) (flat_map (paths Nothing) ts) (implied names Nothing bs t)
    (all_implied names (bs ++ bounds_for names (implied names Nothing bs t)) ts)
    (fold_paths names Nothing bs t) (fold_types names (bs ++ bounds_for names (implied names Nothing bs t)) ts)

-- all entries
pub fold_entries : (names bounds types : List ℕ)
    → fold step (so_far [] []) (entries names bounds types) ≡ unless (item_place_checks names bounds types)
    (so_far (all_names_of names) (method_bounds names bounds types))
fold_entries names bounds types =
    let i = impl_names names in
    let n = all_names_of names in
    let b = bounds_for i (impl_pairs bounds) in
    let c = explicit_bounds names bounds in
    let last = so_far n (method_bounds names bounds types) in
    let ib : length b ≡ length (impl_pairs bounds) = rw length-map in
    let ic : length c ≡ length (impl_pairs bounds) + length (method_pairs bounds) = rw (length-append, length-map, length-map) in
    fold_both (so_far [] []) (so_far i []) last (name_checks [] i) _ (map Name i) _ (fold_names [] [] i)
    (fold_both (so_far i []) (so_far i b) last (all_pair_checks i 0 (impl_pairs bounds)) _ (map Bounded (impl_pairs bounds))
    _ (fold_bounded (so_far i []) (impl_pairs bounds) ∙ fold_pairs i [] (impl_pairs bounds))
    (fold_both (so_far i b) (so_far n b) last (name_checks i (method_names names)) _ (map Name (method_names names))
    _ (fold_names i b (method_names names))
    (fold_both (so_far n b) (so_far n c) last (all_pair_checks n (length (impl_pairs bounds)) (method_pairs bounds))
    _ (map Bounded (method_pairs bounds)) _
    (fold_bounded (so_far n b) (method_pairs bounds) ∙ (rw ib at (fold_pairs n b (method_pairs bounds))))
    (rw ic at (fold_types n c (type_names_of types))))))

-- so `from_method_item` gives what is built entry by entry
pub built_in_order : (names bounds types : List ℕ) → names_in_shape names && (bounds_in_shape bounds && types_in_shape types)
    ≡ true → from_method_item names bounds types ≡ built names bounds types
unfolding from_method_item unless
built_in_order names bounds types shape =
    let all = named_env (all_names_of names) (method_bounds names bounds types) in
    let more : unless (item_place_checks names bounds types ++ []) all ≡ built names bounds types =
    sym (rw (← fold_entries names bounds types)
    at (after_unless (item_place_checks names bounds types) []
    (so_far (all_names_of names) (method_bounds names bounds types)) all (λ s. Ok (named_env s.names s.bounds))
    refl)) in
    rw shape (rw (append-nil (item_place_checks names bounds types)) at more)
