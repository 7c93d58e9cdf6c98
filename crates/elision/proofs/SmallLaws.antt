-- Every lifetime that the records give is numbered below 64, so it has a word.
use Rattle.std.specs.Prelude.{Ok, Err}
use Prim.Native.Nat.{ℕ, ◌+◌, ◌^◌, ◌≤◌}
use mathlib.Core.Bool.{Bool, true, false, cond}
use mathlib.Core.Path.{◌≡◌, refl, ap}
use mathlib.Core.List.{List, [], ◌∷◌, ◌++◌, map}
use native.Mathlib.Omega.{arith}
use borrow.Author.Tests.{lt-ltb, leb-false, ltb-true}
use lib.Dec.{eqb, leb}
use lib.ListN.{length}
use Rattle.answers.specs.declared.Refusal.TheVariants.{Undeclared, Full}
use Rattle.elision.specs.Rfc.{MethodLifetime}
use Rattle.lifetimes.specs.declared.maybe_static.MaybeStatic.TheVariants.{Static, NonStatic}
use Rattle.lifetimes.specs.Numbers.{lifetime}
use Rattle.answers.specs.Refusals.{Outcome, bind}
use Rattle.lifetimes.specs.LoweredWords.{word_of}
use Rattle.ast_lifetimes.specs.Env.{place, is_declared}
use Rattle.elision.specs.declared.source.ElisionSource.{ElisionSource}
use Rattle.elision.specs.declared.source.ElisionSource.TheVariants.{NoBorrows, SelfParam, OneParam}
use Rattle.elision.specs.declared.source.ElisionSource.TheVariants.{MultipleBorrows}
use Rattle.elision.specs.declared.lowerer.Standing.{Standing}
use Rattle.elision.specs.declared.lowerer.Standing.TheVariants.{Input, Aside, Output}
use Rattle.elision.specs.declared.lowerer.Seen.{Seen}
use Rattle.elision.specs.declared.lowerer.Lowerer.{Lowerer}
use Rattle.elision.specs.Steps.{Step, Lifetime, Generics, SelfType, Receiver, NoSelf, SelfRef}
use Rattle.elision.specs.Rfc.{Method, appended, standing_in}
use Rattle.elision.specs.Machine.{visit_lifetime, Advanced, advanced, in_turn, lowers, from_source, lower_anonymous, lower_word}
use Rattle.elision.specs.Machine.{lower_words, values_in, laid, lower_step, unused, first_or, self_ref, lower_self}
use Rattle.elision.specs.Machine.{run_steps, run_method}
use Rattle.elision.specs.Lowering.{words}
use Rattle.elision.specs.Inner.{shown}
use Rattle.elision.proofs.RfcLaws.{laid_values}

abbrev Small : MethodLifetime → Type 0
Small l = word_of l ≤ 64

abbrev pub AllSmall : List MethodLifetime → Type 0
AllSmall [] = Unit {0}
AllSmall (l ∷ ls) = Small l × AllSmall ls

small_append : (a b : List MethodLifetime) → AllSmall a → AllSmall b → AllSmall (a ++ b)
small_append [] b p q = q
small_append (l ∷ a) b p q = (p.0, small_append a b p.1 q)

pub small_words : (ls : List MethodLifetime) → AllSmall ls → map shown ls ≡ words ls
small_words [] p = refl
small_words (l ∷ ls) p =
    rw (lt-ltb (word_of l) (2 ^ 64) (omega (arith, p.0))) (ap (λ (m : List ℕ). word_of l ∷ m) (small_words ls p.1))

abbrev SmallSource : ElisionSource → Type 0
SmallSource NoBorrows = Unit {0}
SmallSource (SelfParam l) = Small l
SmallSource (OneParam l) = Small l
SmallSource MultipleBorrows = Unit {0}

abbrev Fine : Seen → Type 0
Fine s = SmallSource s.source

abbrev FineLowerer : Lowerer → Type 0
FineLowerer s = SmallSource s.seen.source × AllSmall (values_in s.own)

abbrev Out : {S : Type 0} → (S → Type 0) → Outcome (Advanced S) → Type 0
Out P (Ok a) = AllSmall a.given × P a.left
Out P (Err r) = Unit {0}

module _ {X S : Type 0} (step : X → S → Outcome (Advanced S)) (P : S → Type 0) (fine : (x : X) (s : S) → P s → Out P (step x s)) where
  rest_fine : (a : Advanced S) → AllSmall a.given → (o : Outcome (Advanced S)) → Out P o
      → Out P (bind o (λ rest. Ok (advanced (a.given ++ rest.given) rest.left)))
  rest_fine a p (Ok b) q = (small_append a.given b.given p q.0, q.1)
  rest_fine a p (Err r) q = tt

  first_fine : (l : List X) → ((s : S) → P s → Out P (in_turn step l s)) → (o : Outcome (Advanced S)) → Out P o
      → Out P (bind o
      (λ first. bind (in_turn step l first.left)
      (λ rest. Ok (advanced (first.given ++ rest.given) rest.left))))
  first_fine l more (Ok a) q = rest_fine a q.0 (in_turn step l a.left) (more a.left q.1)
  first_fine l more (Err r) q = tt

  turn_fine : (l : List X) (s : S) → P s → Out P (in_turn step l s)
  unfolding in_turn
  turn_fine [] s p = (tt, p)
  turn_fine (x ∷ l) s p = first_fine l (turn_fine l) (step x s) (fine x s p)

out_cond : (t : Bool) (a b : Outcome (Advanced Seen)) → (t ≡ true → Out Fine a) → (t ≡ false → Out Fine b) → Out Fine (cond t a b)
out_cond true a b p q = p refl
out_cond false a b p q = q refl

visit_small : (e : ElisionSource) (l : MethodLifetime) → SmallSource e → Small l → SmallSource (visit_lifetime e l)
visit_small NoBorrows l p q = q
visit_small (SelfParam k) l p q = p
visit_small (OneParam k) l p q = tt
visit_small MultipleBorrows l p q = tt

lowers_fine : (st : Standing) (l : MethodLifetime) (e : ElisionSource) (count : ℕ) → SmallSource e → Small l
    → Out Fine (lowers st l e count)
lowers_fine Input l e count p q = ((q, tt), visit_small e l p q)
lowers_fine Aside l e count p q = ((q, tt), p)
lowers_fine Output l e count p q = ((q, tt), p)

source_fine : (e : ElisionSource) (s : Seen) → SmallSource e → Fine s → Out Fine (from_source e s)
source_fine NoBorrows s p q = tt
source_fine (SelfParam l) s p q = ((p, tt), q)
source_fine (OneParam l) s p q = ((p, tt), q)
source_fine MultipleBorrows s p q = tt

new_fine : (st : Standing) (s : Seen) → Fine s
    → Out Fine
    (cond (leb 64 s.count) (Err Full) (lowers st (NonStatic (lifetime s.count)) s.source (s.count + 1)))
new_fine st s p =
    out_cond (leb 64 s.count) (Err Full) (lowers st (NonStatic (lifetime s.count)) s.source (s.count + 1)) (λ e. tt)
    (λ e. lowers_fine st (NonStatic (lifetime s.count)) s.source (s.count + 1) p (omega (arith, leb-false 64 s.count e)))

anonymous_fine : (st : Standing) (s : Seen) → Fine s → Out Fine (lower_anonymous st s)
anonymous_fine Input s p = new_fine Input s p
anonymous_fine Aside s p = new_fine Aside s p
anonymous_fine Output s p = source_fine s.source s p p

module _ (names : List ℕ) (few : length names ≤ 32) where
  word_fine : (st : Standing) (word : ℕ) (s : Seen) → Fine s → Out Fine (lower_word names st word s)
  unfolding lower_word
  word_fine st word s p =
      let static = lowers st Static s.source s.count in
      let named = lowers st (NonStatic (lifetime (place names word))) s.source s.count in
      let name = cond (is_declared names word) named (Err Undeclared) in
      out_cond (eqb word 1) (lower_anonymous st s) (cond (eqb word 0) static name) (λ e. anonymous_fine st s p)
      (λ e. out_cond (eqb word 0) static name (λ f. lowers_fine st Static s.source s.count p (omega arith))
      (λ f. out_cond (is_declared names word) named (Err Undeclared)
      (λ g. lowers_fine st (NonStatic (lifetime (place names word))) s.source s.count p
      (omega (arith, ltb-true (place names word) (length names) g))) (λ g. tt)))

  words_fine : (st : Standing) (l : List ℕ) (s : Seen) → Fine s → Out Fine (lower_words names st l s)
  words_fine st = turn_fine (lower_word names st) Fine (word_fine st)

  keep_fine : (kept : Bool) (s : Lowerer) → AllSmall (values_in s.own) → (o : Outcome (Advanced Seen)) → Out Fine o
      → Out FineLowerer (bind o (λ a. Ok (advanced a.given (record { seen = a.left; kept = kept; own = s.own }))))
  keep_fine kept s p (Ok a) q = (q.0, (q.1, p))
  keep_fine kept s p (Err r) q = tt

  make_fine : (o : Outcome (Advanced Seen)) → Out Fine o
      → Out FineLowerer
      (bind o (λ a. Ok (advanced a.given (record { seen = a.left; kept = true; own = laid a.given }))))
  make_fine (Ok a) q = (q.0, (q.1, rw (laid_values a.given) q.0))
  make_fine (Err r) q = tt

  step_fine : (out : Bool) (step : Step) (s : Lowerer) → FineLowerer s → Out FineLowerer (lower_step names out step s)
  unfolding lower_step
  step_fine out (Lifetime word) s p =
      keep_fine s.kept s p.1 (lower_words names (standing_in out) (word ∷ []) s.seen)
      (words_fine (standing_in out) (word ∷ []) s.seen p.0)
  step_fine out (Generics g l) s p =
      keep_fine s.kept s p.1 (lower_words names (standing_in out) (appended g l) s.seen)
      (words_fine (standing_in out) (appended g l) s.seen p.0)
  step_fine out (SelfType l) s p = go s.kept
    where
      first : Outcome (Advanced Lowerer)
      first = bind (lower_words names Aside l s.seen)
          (λ a. Ok (advanced a.given (record { seen = a.left; kept = true; own = laid a.given })))

      go : (t : Bool) → Out FineLowerer (cond t (Ok (advanced (values_in s.own) s)) first)
      go true = (p.1, p)
      go false = make_fine (lower_words names Aside l s.seen) (words_fine Aside l s.seen p.0)

  steps_fine : (out : Bool) (l : List Step) (s : Lowerer) → FineLowerer s → Out FineLowerer (run_steps names out l s)
  steps_fine out = turn_fine (lower_step names out) FineLowerer (step_fine out)

  own_fine : AllSmall (values_in (laid []))
  own_fine = rw (laid_values []) tt

  unused_fine : FineLowerer (unused names)
  unfolding unused
  unused_fine = (tt, own_fine)

  ref_fine : (o : Outcome (Advanced Seen)) → Out Fine o
      → Out FineLowerer
      (bind o
      (λ a. Ok
      (advanced a.given
      (record {
        seen = record { source = SelfParam (first_or a.given); count = a.left.count };
        kept = false;
        own = laid [];
      }))))
  ref_fine (Ok a) q = (q.0, (one a.given q.0, own_fine))
    where
      one : (ls : List MethodLifetime) → AllSmall ls → Small (first_or ls)
      one [] p = omega arith
      one (l ∷ ls) p = p.0
  ref_fine (Err r) q = tt

  self_fine : (self : Receiver) → Out FineLowerer (lower_self names self)
  unfolding self_ref
  self_fine NoSelf = (tt, unused_fine)
  self_fine (SelfRef word) =
      ref_fine (lower_word names Aside word (unused names).seen)
      (word_fine Aside word (unused names).seen unused_fine.0)

  abbrev pub SmallMethod : Outcome Method → Type 0
  SmallMethod (Ok m) = AllSmall m.self × (AllSmall m.steps × AllSmall m.returns)
  SmallMethod (Err r) = Unit {0}

  pub method_small : (self : Receiver) (steps returns : List Step) → SmallMethod (run_method names self steps returns)
  unfolding run_method
  method_small self steps returns = first (lower_self names self) (self_fine self)
    where
      third : (a b : Advanced Lowerer) → AllSmall a.given → AllSmall b.given → (o : Outcome (Advanced Lowerer)) → Out FineLowerer o
          → SmallMethod
          (bind o
          (λ c. Ok
          (record { self = a.given; steps = b.given; returns = c.given; count = c.left.seen.count })))
      third a b p q (Ok c) r = (p, (q, r.0))
      third a b p q (Err k) r = tt

      second : (a : Advanced Lowerer) → AllSmall a.given → (o : Outcome (Advanced Lowerer)) → Out FineLowerer o
          → SmallMethod
          (bind o
          (λ b. bind (run_steps names true returns b.left)
          (λ c. Ok
          (record { self = a.given; steps = b.given; returns = c.given; count = c.left.seen.count }))))
      second a p (Ok b) q = third a b p q.0 (run_steps names true returns b.left) (steps_fine true returns b.left q.1)
      second a p (Err k) q = tt

      first : (o : Outcome (Advanced Lowerer)) → Out FineLowerer o
          → SmallMethod
          (bind o
          (λ a. bind (run_steps names false steps a.left)
          (λ b. bind (run_steps names true returns b.left)
          (λ c. Ok
          (record { self = a.given; steps = b.given; returns = c.given; count = c.left.seen.count })))))
      first (Ok a) p = second a p.0 (run_steps names false steps a.left) (steps_fine false steps a.left p.1)
      first (Err k) p = tt
