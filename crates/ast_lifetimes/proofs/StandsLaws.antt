-- An environment under way: what stands in it, with one name more and with one bound more; what a step leaves; and a run
-- of steps, of which what is left, done from here, gives what all give from the start.
use Rattle.std.specs.Prelude.{Ok, Err}
use Prim.Native.Nat.{ℕ, zero, suc, ◌+◌, ◌-◌, ◌≤◌, ◌<◌}
use mathlib.Core.Bool.{true, false, and-eq-true_iff}
use mathlib.Core.Path.{◌≡◌, refl, sym, ap, subst, ◌∙◌}
use mathlib.Core.List.{List, [], ◌∷◌, ◌++◌, append_assoc, append-nil}
use native.Mathlib.Omega.{arith}
use borrow.Author.Tests.{lt-leb, le-leb, ltb-true, ltb-false, not-false}
use borrow.Rule.Slice.PartMut.{put_mid}
use lib.ListN.{length, get_or, take, drop, set, replicate, length-append, length-drop, drop_of_length-le}
use lib.Seq.{take-append_seam, length-take-le, get_or-take}
use Rattle.std.proofs.lemmas.List.{set_at}
use Rattle.answers.specs.declared.Refusal.{Refusal}
use Rattle.answers.specs.declared.Refusal.TheVariants.{Duplicate, Undeclared, Full}
use Rattle.answers.specs.Lists.{all}
use Rattle.answers.specs.Refusals.{Outcome, unless, NoneDue}
use Rattle.answers.specs.Lent.{verdict_of}
use Rattle.answers.proofs.RefusalLaws.{none_first, none_rest}
use Rattle.answers.proofs.VerdictLaws.{refused_accepted}
use Rattle.lifetimes.specs.declared.bounds.Bound.{Bound}
use Rattle.lifetimes.specs.Bounds.{above, both_below, all_below, bounds_from}
use Rattle.lifetimes.proofs.BoundsLaws.{both_below_lem, below_both, below_larger, below_append, bounds_made}
use Rattle.ast_lifetimes.specs.declared.env.LifetimeEnv.{LifetimeEnv}
use Rattle.ast_lifetimes.specs.Shapes.{Pair}
use Rattle.ast_lifetimes.specs.Env.{is_declared, bound_of, names_of, bounds_of, named_env, env_checks}
use Rattle.ast_lifetimes.specs.Entries.{SoFar, so_far, fold, declare, push_pair}
use Rattle.ast_lifetimes.specs.Inner.{so_far_of, StandsIn, Leaves}
use Rattle.ast_lifetimes.proofs.EntryLaws.{fold_append}

-- ---- what stands in an environment

module _ {s : SoFar} {e : LifetimeEnv} (h : StandsIn s e) where
  pub stands_names : names_of e ≡ s.names
  unfolding named_env
  stands_names = ap (λ (d : LifetimeEnv). names_of d) h.is ∙ take-append_seam s.names _

  pub stands_bounds : bounds_of e ≡ s.bounds
  unfolding named_env
  stands_bounds = ap (λ (d : LifetimeEnv). bounds_of d) h.is ∙ bounds_made s.bounds

  pub stands_named : e.named ≡ length s.names
  unfolding named_env
  stands_named = ap (λ (d : LifetimeEnv). d.named) h.is

  pub stands_pushed : e.bounds.pushed ≡ length s.bounds
  unfolding named_env bounds_from
  stands_pushed = ap (λ (d : LifetimeEnv). d.bounds.pushed) h.is

  pub stands_same : so_far_of e ≡ s
  stands_same = rw (stands_names, stands_bounds)

  pub stands_here : StandsIn (so_far_of e) e
  stands_here = subst (λ (t : SoFar). StandsIn t e) (sym stands_same) h

  pub stands_few : e.named ≤ 32
  stands_few = rw stands_named h.few_names

below_at : (n : ℕ) (bs : List Bound) → all_below n bs ≡ true → (i : ℕ) → i < length bs → both_below n (get_or bs i (above 0 0)) ≡ true
unfolding all
below_at n [] e i h = absurd (omega arith)
below_at n (b ∷ bs) e zero h = ((and-eq-true_iff (both_below n b) (all_below n bs)).0 e).0
below_at n (b ∷ bs) e (suc i) h = below_at n bs ((and-eq-true_iff (both_below n b) (all_below n bs)).0 e).1 i (omega arith)

-- the sides of each bound are names' numbers
pub stands_below : {e : LifetimeEnv} → StandsIn (so_far_of e) e → (i : ℕ) → i < e.bounds.pushed
    → let b = get_or e.bounds.list i (above 0 0) in (b.longer < e.named) × (b.shorter < e.named)
stands_below {e} h i k =
    let same : get_or (bounds_of e) i (above 0 0) ≡ get_or e.bounds.list i (above 0 0) = get_or-take e.bounds.pushed e.bounds.list i (above 0 0) k in
    both_below_lem _
    (rw (← same, stands_named h) (below_at (length (names_of e)) (bounds_of e) h.below i (omega (arith, stands_pushed h))))

-- ---- one more in the places behind a list

one_behind : {A : Type 0} (m : ℕ) (d x : A) (l : List A) → length l < m
    → set (l ++ replicate (m - length l) d) (length l) x ≡ (l ++ (x ∷ [])) ++ replicate (m - length (l ++ (x ∷ []))) d
one_behind m d x l h =
    let one : m - length l ≡ suc (m - suc (length l)) = omega arith in
    let more : length (l ++ (x ∷ [])) ≡ suc (length l) = length-append l (x ∷ []) ∙ omega arith in
    rw (one, more, set_at l d (replicate (m - suc (length l)) d) x (length l) refl, append_assoc)

module _ {names : List ℕ} {bs : List Bound} {e : LifetimeEnv} (h : StandsIn (so_far names bs) e) where
  pub stands_declared : (name : ℕ) → length names < 32
      → StandsIn (so_far (names ++ (name ∷ [])) bs)
      (record { names = set e.names e.named name; named = e.named + 1; bounds = e.bounds })
  unfolding named_env
  stands_declared name room = record {
    is = rw (h.is, one_behind 32 0 name names room, length-append names (name ∷ []));
    few_names = rw length-append (omega arith);
    few_bounds = h.few_bounds;
    below = rw length-append (below_larger (length names) (length names + 1) (omega arith) bs h.below);
  }

  pub stands_pushed_more : (b : Bound) → length bs < 256 → b.longer < length names → b.shorter < length names
      → StandsIn (so_far names (bs ++ (b ∷ [])))
      (record {
        names = e.names;
        named = e.named;
        bounds = record { pushed = e.bounds.pushed + 1; list = set e.bounds.list e.bounds.pushed b };
      })
  unfolding named_env bounds_from all
  stands_pushed_more b room l s = record {
    is = rw (h.is, one_behind 256 (above 0 0) b bs room, length-append bs (b ∷ []));
    few_names = h.few_names;
    few_bounds = rw length-append (omega arith);
    below = below_append (length names) bs (b ∷ []) h.below (rw (below_both b l s));
  }

-- ---- what a step leaves

module _ {A : Type 0} {o : Outcome SoFar} {e : LifetimeEnv} where
  pub leaves_err : {x : Refusal} → o ≡ Err x → Leaves {A = A} o e (Err x)
  leaves_err q = record { verdict = rw q; stands = λ s k. refused_accepted (ap verdict_of (sym q ∙ k)) }

  pub leaves_ok : {s : SoFar} → o ≡ Ok s → StandsIn s e → (a : A) → Leaves o e (Ok a)
  leaves_ok {s} q h a = record {
    verdict = rw q;
    stands = λ t k. let same : Ok s ≡ Ok t = sym q ∙ k in let is : s ≡ t = cc in subst (λ (u : SoFar). StandsIn u e) is h;
  }

  pub leaves_same : {p : Outcome SoFar} {r : Outcome A} → o ≡ p → Leaves o e r → Leaves p e r
  leaves_same {r = r} q l = subst (λ (x : Outcome SoFar). Leaves x e r) q l

  module _ {r : Outcome A} (l : Leaves o e r) where
    pub leaves_refused : {x : Refusal} → r ≡ Err x → o ≡ Err x
    leaves_refused {x} q = go o refl
      where
        go : (p : Outcome SoFar) → o ≡ p → o ≡ Err x
        go (Ok s) k = refused_accepted (ap verdict_of (sym q) ∙ l.verdict ∙ ap verdict_of k)
        go (Err y) k = k ∙ (let v : verdict_of r ≡ Err y = l.verdict ∙ ap verdict_of k in
            let w : verdict_of r ≡ Err x = ap verdict_of q in let u : y ≡ x = cc in ap (λ (z : Refusal). Err z) u)

    pub leaves_stands : {a : A} → r ≡ Ok a → (o ≡ Ok (so_far_of e)) × StandsIn (so_far_of e) e
    leaves_stands q = go o refl
      where
        go : (p : Outcome SoFar) → o ≡ p → (o ≡ Ok (so_far_of e)) × StandsIn (so_far_of e) e
        go (Ok s) k = let h = l.stands s k in (k ∙ ap (λ (t : SoFar). Ok t) (sym (stands_same h)), stands_here h)
        go (Err y) k = refused_accepted (sym (ap verdict_of k) ∙ sym l.verdict ∙ ap verdict_of q)

-- ---- a run of steps

pub record Folding {B : Type 0} (f : SoFar → B → Outcome SoFar) (whole : Outcome SoFar) (left : List B) (e : LifetimeEnv) : Type 0 where
  pub stands : StandsIn (so_far_of e) e
  pub rest : fold f (so_far_of e) left ≡ whole

pub folding_start : {B : Type 0} (f : SoFar → B → Outcome SoFar) (l : List B) {e : LifetimeEnv} → StandsIn (so_far_of e) e
    → Folding f (fold f (so_far_of e) l) l e
folding_start f l h = record { stands = h; rest = refl }

module _ {B : Type 0} {f : SoFar → B → Outcome SoFar} {whole : Outcome SoFar} {left : List B} {e : LifetimeEnv}
    (run : Folding f whole left e) where
  pub folding_same : {other : List B} → left ≡ other → Folding f whole other e
  folding_same q = record { stands = run.stands; rest = rw q at run.rest }

  pub folding_end : left ≡ [] → Leaves whole e (Ok (tt {0}))
  unfolding fold
  folding_end q = leaves_ok (sym (rw q at run.rest)) run.stands (tt {0})

  module _ {A : Type 0} {x : B} {rest : List B} (is : left ≡ x ∷ rest) {e₁ : LifetimeEnv} {r : Outcome A}
      (one : Leaves (f (so_far_of e) x) e₁ r) where
    pub folding_more : {a : A} → r ≡ Ok a → Folding f whole rest e₁
    unfolding fold
    folding_more q = let l = leaves_stands one q in record { stands = l.1; rest = rw (is, l.0) at run.rest }

    pub folding_refused : {y : Refusal} → r ≡ Err y → Leaves {A = Unit {0}} whole e₁ (Err y)
    unfolding fold
    folding_refused q = leaves_err (sym (rw (is, leaves_refused one q) at run.rest))

  -- some of the steps that are left
  module _ {A : Type 0} (l rest : List B) (is : left ≡ l ++ rest) {e₁ : LifetimeEnv} {r : Outcome A}
      (part : Leaves (fold f (so_far_of e) l) e₁ r) where
    pub folding_part : {a : A} → r ≡ Ok a → Folding f whole rest e₁
    folding_part q =
        let g = leaves_stands part q in
        record { stands = g.1; rest = rw (is, fold_append f (so_far_of e) l rest, g.0) at run.rest }

    pub folding_part_refused : {y : Refusal} → r ≡ Err y → whole ≡ Err y
    folding_part_refused q = sym (rw (is, fold_append f (so_far_of e) l rest, leaves_refused part q) at run.rest)

-- ---- the answers of `declare` and `push`

module _ {e : LifetimeEnv} (h : StandsIn (so_far_of e) e) (name : ℕ) where
  pub declare_full : 32 ≤ e.named → Leaves {A = Unit {0}} (declare (so_far_of e) name) e (Err Full)
  unfolding unless
  declare_full k = leaves_err (rw (le-leb 32 (length (names_of e)) (omega (arith, stands_named h))))

  module _ (room : e.named < 32) where
    pub declare_again : is_declared (names_of e) name ≡ true → Leaves {A = Unit {0}} (declare (so_far_of e) name) e (Err Duplicate)
    unfolding unless
    declare_again k = leaves_err (rw (lt-leb 32 (length (names_of e)) (omega (arith, stands_named h)), k))

    pub declare_given : is_declared (names_of e) name ≡ false
        → Leaves (declare (so_far_of e) name)
        (record { names = set e.names e.named name; named = e.named + 1; bounds = e.bounds }) (Ok (tt {0}))
    unfolding unless
    declare_given k =
        leaves_ok (rw (lt-leb 32 (length (names_of e)) (omega (arith, stands_named h)), k))
        (stands_declared h name (omega (arith, stands_named h))) (tt {0})

module _ {e : LifetimeEnv} (h : StandsIn (so_far_of e) e) (p : Pair) where
  pub push_longer : is_declared (names_of e) p.longer ≡ false → Leaves {A = Bound} (push_pair (so_far_of e) p) e (Err Undeclared)
  unfolding unless
  push_longer k = leaves_err (rw k)

  module _ (known : is_declared (names_of e) p.longer ≡ true) where
    pub push_shorter : is_declared (names_of e) p.shorter ≡ false → Leaves {A = Bound} (push_pair (so_far_of e) p) e (Err Undeclared)
    unfolding unless
    push_shorter k = leaves_err (rw (known, k))

    module _ (both : is_declared (names_of e) p.shorter ≡ true) where
      pub push_full : 256 ≤ e.bounds.pushed → Leaves {A = Bound} (push_pair (so_far_of e) p) e (Err Full)
      unfolding unless
      push_full k = leaves_err (rw (known, both, le-leb 256 (length (bounds_of e)) (omega (arith, stands_pushed h))))

      pub push_given : e.bounds.pushed < 256 → (b : Bound) → b ≡ bound_of (names_of e) p
          → Leaves (push_pair (so_far_of e) p)
          (record {
            names = e.names;
            named = e.named;
            bounds = record { pushed = e.bounds.pushed + 1; list = set e.bounds.list e.bounds.pushed b };
          }) (Ok b)
      unfolding unless
      push_given k b q =
          leaves_ok
          (rw (known, both, lt-leb 256 (length (bounds_of e)) (omega (arith, stands_pushed h)), q))
          (stands_pushed_more h b (omega (arith, stands_pushed h)) (rw q (ltb-true _ _ known)) (rw q (ltb-true _ _ both))) b

-- ---- the places behind a list, cleared

filled : {A : Type 0} (a m : ℕ) (d : A) (xs ys : List A) → length xs ≡ m → a ≤ m
    → ys ≡ replicate (length (take (m - a) (drop a xs))) d
    → put_mid a (m - a) xs ys ≡ take a xs ++ replicate (m - length (take a xs)) d
filled a m d xs ys size few is =
    let none : drop (m - a) (drop a xs) ≡ [] = drop_of_length-le (drop a xs) {i = m - a} (rw length-drop (omega arith)) in
    let long : length (take a xs) ≡ a = length-take-le a xs (omega arith) in
    let many : length (take (m - a) (drop a xs)) ≡ m - a = length-take-le (m - a) (drop a xs) (rw length-drop (omega arith)) in
    rw (is, none, append-nil, long, many)

pub cleared_env : (e : LifetimeEnv) → length e.names ≡ 32 → length e.bounds.list ≡ 256 → NoneDue (env_checks e) → {ns : List ℕ}
    → ns ≡ replicate (length (take (32 - e.named) (drop e.named e.names))) 0 → {bs : List Bound}
    → bs ≡ replicate (length (take (256 - e.bounds.pushed) (drop e.bounds.pushed e.bounds.list))) (above 0 0)
    → record {
      names = put_mid e.named (32 - e.named) e.names ns;
      named = e.named;
      bounds = record { pushed = e.bounds.pushed; list = put_mid e.bounds.pushed (256 - e.bounds.pushed) e.bounds.list bs };
    } ≡ named_env (names_of e) (bounds_of e)
unfolding named_env bounds_from
cleared_env e full whole none {ns} a {bs} b =
    let named : e.named ≤ 32 = ltb-false 32 e.named (none_first none) in
    let pushed : e.bounds.pushed ≤ 256 = ltb-false 256 e.bounds.pushed (none_first (none_rest none)) in
    rw (
      filled e.named 32 0 e.names ns full named a,
      filled e.bounds.pushed 256 (above 0 0) e.bounds.list bs whole pushed b,
      length-take-le e.named e.names (rw full named),
      length-take-le e.bounds.pushed e.bounds.list (rw whole pushed),
    )

-- so an environment that was checked stands, once cleared
pub cleared_stands : (e : LifetimeEnv) → length e.names ≡ 32 → length e.bounds.list ≡ 256 → NoneDue (env_checks e) → {d : LifetimeEnv}
    → d ≡ named_env (names_of e) (bounds_of e) → StandsIn (so_far_of e) d
cleared_stands e full whole none q =
    let named : e.named ≤ 32 = ltb-false 32 e.named (none_first none) in
    let pushed : e.bounds.pushed ≤ 256 = ltb-false 256 e.bounds.pushed (none_first (none_rest none)) in
    record {
      is = q;
      few_names = rw (length-take-le e.named e.names (rw full named)) named;
      few_bounds = rw (length-take-le e.bounds.pushed e.bounds.list (rw whole pushed)) pushed;
      below = rw (length-take-le e.named e.names (rw full named)) (not-false _ (none_first (none_rest (none_rest none))));
    }
