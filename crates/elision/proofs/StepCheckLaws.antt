-- The calls of single steps refuse by the first refusal that is due: what one word gives on any lowerer, what is seen
-- behind some words, and what the words, the step and its words give.
use Rattle.std.specs.Prelude.{Ok, Err}
use Prim.Native.Nat.{ℕ, zero, suc, ◌+◌}
use mathlib.Core.Bool.{Bool, true, false, cond, ◌&&◌, not}
use mathlib.Core.Path.{◌≡◌, refl, sym, ap, ◌∙◌}
use mathlib.Core.Logic.{◌↔◌}
use mathlib.Core.List.{List, [], ◌∷◌, ◌++◌, map}
use native.Mathlib.Nat.{add-zero}
use native.Mathlib.Omega.{arith}
use borrow.Author.Tests.{ne_eqb, le-leb}
use lib.Dec.{eqb}
use Rattle.answers.specs.declared.Refusal.{Refusal}
use Rattle.answers.specs.declared.Refusal.TheVariants.{Malformed, Undeclared}
use Rattle.elision.specs.Rfc.{MethodLifetime}
use Rattle.lifetimes.specs.declared.maybe_static.MaybeStatic.TheVariants.{Static, NonStatic}
use Rattle.lifetimes.specs.Numbers.{lifetime}
use Rattle.answers.specs.Refusals.{Check, check, Outcome, unless, bind, FirstDue}
use Rattle.answers.proofs.RefusalLaws.{due_refused, refused_due}
use Rattle.ast_lifetimes.specs.Env.{place, is_declared}
use Rattle.records.specs.Reading.{Reading, Read, Fails}
use Rattle.elision.specs.declared.source.ElisionSource.{ElisionSource}
use Rattle.elision.specs.declared.source.ElisionSource.TheVariants.{NoBorrows, SelfParam, OneParam}
use Rattle.elision.specs.declared.source.ElisionSource.TheVariants.{MultipleBorrows}
use Rattle.elision.specs.declared.lowerer.Standing.{Standing}
use Rattle.elision.specs.declared.lowerer.Standing.TheVariants.{Input, Aside, Output}
use Rattle.elision.specs.declared.lowerer.Seen.{Seen}
use Rattle.elision.specs.declared.lowerer.Lowerer.{Lowerer}
use Rattle.elision.specs.Steps.{Step, Lifetime, Generics, SelfType, read_step}
use Rattle.elision.specs.Rfc.{throughout, makes, lifetime_of, appended, standing_in}
use Rattle.elision.specs.Machine.{Advanced, advanced, visited, lowers, from_source, lower_word, lower_words, values_in}
use Rattle.elision.specs.Machine.{laid, lower_step, fits, one_step, unused, first_or, self_ref, whole_step, worded_step}
use Rattle.elision.specs.StepChecks.{anonymous_in, source_due, anonymous_check, word_checks, looked_up, standing_of}
use Rattle.elision.specs.StepChecks.{single_step_checks, read_step_checks, worded_checks}
use Rattle.elision.proofs.RfcLaws.{after_gives, in_turn_lem, unmade, cond_not}
use Rattle.answers.specs.Lists.{count}

-- ---- what is given unless a check is due

record Judged {A : Type 0} (o : Outcome A) (cs : List Check) : Type 0 where
  result : A
  is : o ≡ unless cs result

module _ {A : Type 0} where
  refused_both : {o : Outcome A} {cs : List Check} → Judged o cs → (r : Refusal) → (o ≡ Err r) ↔ FirstDue r cs
  refused_both {o} {cs} j r = (λ e. refused_due j.result r cs (sym j.is ∙ e), λ d. j.is ∙ due_refused j.result d)

  judged_gives : {B : Type 0} {o : Outcome A} {cs : List Check} (f : A → B) → Judged o cs → Judged (bind o (λ a. Ok (f a))) cs
  judged_gives {cs = cs} f j = record { result = f j.result; is = rw j.is (after_gives cs j.result f) }

  -- a test first
  judged_test : {o : Outcome A} {cs : List Check} (t : Bool) (r : Refusal) → Judged o cs
      → Judged (cond t o (Err r)) (check (not t) r ∷ cs)
  unfolding unless
  judged_test true r j = record { result = j.result; is = j.is }
  judged_test false r j = record { result = j.result; is = refl }

-- ---- one word, on any lowerer

-- the lifetime of an anonymous word; in the output without a source there is none, and it is never looked at
abbrev of_source : ElisionSource → MethodLifetime
of_source NoBorrows = Static
of_source (SelfParam l) = l
of_source (OneParam l) = l
of_source MultipleBorrows = Static

abbrev elided : Standing → Seen → MethodLifetime
elided Input s = NonStatic (lifetime s.count)
elided Aside s = NonStatic (lifetime s.count)
elided Output s = of_source s.source

-- no anonymous word, no refusal for one
source_unasked : (e : ElisionSource) → (source_due e false).due ≡ false
source_unasked NoBorrows = refl
source_unasked (SelfParam l) = refl
source_unasked (OneParam l) = refl
source_unasked MultipleBorrows = refl

unasked : (st : Standing) (s : Seen) (made : ℕ) → (anonymous_check st s made false).due ≡ false
unasked Input s made = refl
unasked Aside s made = refl
unasked Output s made = source_unasked s.source

from_source_lem : (e : ElisionSource) (s : Seen)
    → from_source e s ≡ unless (check false Undeclared ∷ source_due e true ∷ []) (advanced (of_source e ∷ []) s)
unfolding unless
from_source_lem NoBorrows s = refl
from_source_lem (SelfParam l) s = refl
from_source_lem (OneParam l) s = refl
from_source_lem MultipleBorrows s = refl

module _ (names : List ℕ) (st : Standing) where
  -- a word's lifetime, and what is seen behind it
  abbrev lowers_to : Seen → ℕ → MethodLifetime
  lowers_to s word = lifetime_of names (elided st s) word

  abbrev passed : ℕ → Seen → Seen
  passed word s = visited st (lowers_to s word) s.source (s.count + cond (makes st && eqb word 1) 1 0)

  abbrev AsChecked : ℕ → Seen → Type 0
  AsChecked word s =
      lower_word names st word s ≡ unless (word_checks names st s [] word) (advanced (lowers_to s word ∷ []) (passed word s))

  static_checked : (s : Seen) → AsChecked 0 s
  unfolding lower_word unless
  static_checked s = rw (unmade st, add-zero, unasked st s (anonymous_in []))

  name_checked : (k : ℕ) (s : Seen) → AsChecked (suc (suc k)) s
  unfolding lower_word unless
  name_checked k s =
      rw (
        ne_eqb (suc (suc k)) 1 (omega arith),
        ne_eqb (suc (suc k)) 0 (omega arith),
        le-leb 2 (suc (suc k)) (omega arith),
        unmade st,
        add-zero,
        unasked st s (anonymous_in []),
      )
      (cond_not (is_declared names (suc (suc k)))
      (lowers st (NonStatic (lifetime (place names (suc (suc k))))) s.source s.count) (Err Undeclared))

anonymous_checked : (names : List ℕ) (st : Standing) (s : Seen) → AsChecked names st 1 s
unfolding lower_word unless count
anonymous_checked names Input s = rw add-zero
anonymous_checked names Aside s = rw add-zero
anonymous_checked names Output s = rw add-zero (from_source_lem s.source s)

word_checked : (names : List ℕ) (st : Standing) (word : ℕ) (s : Seen) → AsChecked names st word s
word_checked names st zero s = static_checked names st s
word_checked names st (suc zero) s = anonymous_checked names st s
word_checked names st (suc (suc k)) s = name_checked names st k s

-- ---- some words

-- what is seen behind some words
unfoldable seen_behind : List ℕ → Standing → Seen → List ℕ → Seen
seen_behind names st s [] = s
seen_behind names st s (word ∷ words) = seen_behind names st (passed names st word s) words

visited_count : (st : Standing) (l : MethodLifetime) (e : ElisionSource) (n : ℕ) → (visited st l e n).count ≡ n
visited_count Input l e n = refl
visited_count Aside l e n = refl
visited_count Output l e n = refl

one_more : (t : Bool) (n k : ℕ) → n + cond t 1 0 + k ≡ n + cond t (suc k) k
one_more true n k = omega arith
one_more false n k = omega arith

module _ (names : List ℕ) (st : Standing) where
  behind_last : (s : Seen) (words : List ℕ) (word : ℕ)
      → seen_behind names st s (words ++ (word ∷ [])) ≡ passed names st word (seen_behind names st s words)
  unfolding seen_behind
  behind_last s [] word = refl
  behind_last s (w ∷ words) word = behind_last (passed names st w s) words word

  -- the anonymous ones are counted, where they make lifetimes
  behind_count : makes st ≡ true → (s : Seen) (words : List ℕ) → (seen_behind names st s words).count + 0 ≡ s.count + anonymous_in words
  unfolding seen_behind count
  behind_count m s [] = refl
  behind_count m s (word ∷ words) =
      behind_count m (passed names st word s) words
      ∙ rw (
        visited_count st (lowers_to names st s word) s.source (s.count + cond (makes st && eqb word 1) 1 0),
        m,
      ) (one_more (eqb word 1) s.count (anonymous_in words))

-- in the output the source stays
behind_source : (names : List ℕ) (s : Seen) (words : List ℕ) → (seen_behind names Output s words).source ≡ s.source
unfolding seen_behind
behind_source names s [] = refl
behind_source names s (word ∷ words) = behind_source names (passed names Output word s) words

-- the checks at a word, by what is seen there, are those in view of the words before it
checks_behind : (names : List ℕ) (st : Standing) (s : Seen) (before : List ℕ) (word : ℕ)
    → word_checks names st (seen_behind names st s before) [] word ≡ word_checks names st s before word
unfolding count
checks_behind names Input s before word = rw (behind_count names Input refl s before)
checks_behind names Aside s before word = rw (behind_count names Aside refl s before)
checks_behind names Output s before word = rw (behind_source names s before)

map_same : (words : List ℕ) → map (λ (word : ℕ). word) words ≡ words
map_same [] = refl
map_same (word ∷ words) = ap (λ (l : List ℕ). word ∷ l) (map_same words)

words_judged : (names : List ℕ) (st : Standing) (words : List ℕ) (s : Seen)
    → Judged (lower_words names st words s) (throughout (word_checks names st s) [] words)
unfolding seen_behind
words_judged names st words s =
    let value : List ℕ → ℕ → List MethodLifetime = λ before word. lowers_to names st (seen_behind names st s before) word ∷ [] in
    record {
      result = _;
      is =
          rw (map_same words)
          at (in_turn_lem (lower_word names st) (λ (word : ℕ). word) (seen_behind names st s) (word_checks names st s) value one
          [] words);
    }
  where
    one : (before : List ℕ) (word : ℕ) → lower_word names st word (seen_behind names st s before)
        ≡ unless (word_checks names st s before word)
        (advanced (lowers_to names st (seen_behind names st s before) word ∷ [])
        (seen_behind names st s (before ++ (word ∷ []))))
    one before word =
        rw (behind_last names st s before word, ← checks_behind names st s before word)
        (word_checked names st word (seen_behind names st s before))

-- ---- steps

module _ (names : List ℕ) (out : Bool) where
  lower_judged : (step : Step) (s : Lowerer)
      → Judged (lower_step names out step s)
      (throughout (word_checks names (standing_of out step) s.seen) [] (looked_up step s))
  unfolding lower_step throughout unless
  lower_judged (Lifetime word) s =
      judged_gives (λ a. advanced a.given (record { seen = a.left; kept = s.kept; own = s.own }))
      (words_judged names (standing_in out) (word ∷ []) s.seen)
  lower_judged (Generics g words) s =
      judged_gives (λ a. advanced a.given (record { seen = a.left; kept = s.kept; own = s.own }))
      (words_judged names (standing_in out) (appended g words) s.seen)
  lower_judged (SelfType words) s = go s.kept
    where
      first : Outcome (Advanced Lowerer)
      first = bind (lower_words names Aside words s.seen)
          (λ a. Ok (advanced a.given (record { seen = a.left; kept = true; own = laid a.given })))

      go : (t : Bool)
          → Judged (cond t (Ok (advanced (values_in s.own) s)) first)
          (throughout (word_checks names Aside s.seen) [] (cond t [] words))
      go true = record { result = advanced (values_in s.own) s; is = refl }
      go false = judged_gives (λ a. advanced a.given (record { seen = a.left; kept = true; own = laid a.given }))
          (words_judged names Aside words s.seen)

  step_judged : (step : Step) (s : Lowerer) → Judged (one_step names out step s) (single_step_checks names out step s)
  unfolding one_step
  step_judged step s = judged_test (fits step) Malformed (lower_judged step s)

  worded_judged : (words : List ℕ) (s : Lowerer) → Judged (worded_step names out words s) (worded_checks names out words s)
  unfolding worded_step unless
  worded_judged words s = go (read_step words)
    where
      go : (read : Reading Step) → Judged (bind (whole_step read) (λ step. one_step names out step s)) (read_step_checks names out read s)
      go (Read step []) = step_judged step s
      go (Read step (word ∷ rest)) = record { result = advanced [] s; is = refl }
      go Fails = record { result = advanced [] s; is = refl }

self_judged : (names : List ℕ) (word : ℕ) → Judged (self_ref names word) (word_checks names Aside (unused names).seen [] word)
unfolding self_ref
self_judged names word =
    judged_gives
    (λ a. advanced a.given
    (record {
      seen = record { source = SelfParam (first_or a.given); count = a.left.count };
      kept = false;
      own = laid [];
    }))
    (record { result = _; is = word_checked names Aside word (unused names).seen })

-- ---- both ways

pub step_refused : (names : List ℕ) (out : Bool) (s : Lowerer) (step : Step) (r : Refusal)
    → (one_step names out step s ≡ Err r) ↔ FirstDue r (single_step_checks names out step s)
step_refused names out s step r = refused_both (step_judged names out step s) r

pub worded_refused : (names : List ℕ) (out : Bool) (s : Lowerer) (words : List ℕ) (r : Refusal)
    → (worded_step names out words s ≡ Err r) ↔ FirstDue r (worded_checks names out words s)
worded_refused names out s words r = refused_both (worded_judged names out words s) r

pub self_refused : (names : List ℕ) (word : ℕ) (r : Refusal) → (self_ref names word ≡ Err r)
    ↔ FirstDue r (word_checks names Aside (unused names).seen [] word)
self_refused names word r = refused_both (self_judged names word) r
