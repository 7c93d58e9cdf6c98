-- The lowerer's steps give what RFC 141 says: its state after some steps, as a function of what stands before, and what
-- one lifetime, one step and one record more bring.
use Rattle.std.specs.Prelude.{Ok, Err}
use Prim.Native.Nat.{ℕ, zero, suc, ◌+◌}
use mathlib.Core.Bool.{Bool, true, false, cond, ◌&&◌, ◌||◌, not}
use mathlib.Core.Path.{◌≡◌, refl, ap, ◌∙◌}
use mathlib.Core.List.{List, [], ◌∷◌, ◌++◌, map, append-nil, append_assoc}
use native.Mathlib.Nat.{add-zero}
use native.Mathlib.Omega.{arith}
use borrow.Author.Tests.{ne_eqb, le-leb}
use lib.ListN.{length}
use lib.Seq.{take_at}
use Rattle.answers.specs.declared.Refusal.TheVariants.{Undeclared}
use Rattle.elision.specs.Rfc.{MethodLifetime}
use Rattle.lifetimes.specs.declared.maybe_static.MaybeStatic.TheVariants.{NonStatic}
use Rattle.lifetimes.specs.Numbers.{lifetime}
use Rattle.answers.specs.Refusals.{Check, check, Outcome, unless, bind}
use Rattle.ast_lifetimes.specs.Env.{place, is_declared}
use Rattle.elision.specs.declared.source.ElisionSource.{ElisionSource}
use Rattle.elision.specs.declared.source.ElisionSource.TheVariants.{NoBorrows, SelfParam, OneParam}
use Rattle.elision.specs.declared.source.ElisionSource.TheVariants.{MultipleBorrows}
use Rattle.elision.specs.declared.lowerer.Standing.{Standing}
use Rattle.elision.specs.declared.lowerer.Standing.TheVariants.{Input, Aside, Output}
use Rattle.elision.specs.declared.lowerer.Lowered.{Lowered}
use Rattle.elision.specs.declared.lowerer.Seen.{Seen}
use Rattle.elision.specs.declared.lowerer.Lowerer.{Lowerer}
use Rattle.elision.specs.Steps.{Step, Lifetime, Generics, SelfType, Receiver, NoSelf, SelfRef}
use Rattle.elision.specs.Rfc.{throughout, Occurrence, occurs, makes, is_new, anonymous, count_of, made_at}
use Rattle.elision.specs.Rfc.{position_at, positions, only, source_at, source_or, value_at, values, source_check}
use Rattle.elision.specs.Rfc.{elided_check, checks_at, checks, Item, standing_in, appended, is_self_type, has_self_type}
use Rattle.elision.specs.Rfc.{step_occurrences, occurrences_at, self_occurrences, occurrences, own_from, lowered_at}
use Rattle.elision.specs.Rfc.{step_checks, inputs, outputs, Method, method_of, rfc141}
use Rattle.elision.specs.Machine.{visit_lifetime, Advanced, advanced, in_turn, visited, lowers, from_source, lower_word}
use Rattle.elision.specs.Machine.{lower_words, lowered, values_in, laid, words_step, lower_step, unused, first_or}
use Rattle.elision.specs.Machine.{self_ref, lower_self, run_steps, run_method}
use Rattle.answers.proofs.ListLaws.{count_append}
use Rattle.answers.specs.Lists.{any, count}

-- ---- what each of a list brings, over joined lists

module _ {A B : Type 0} (each : List A → A → List B) where
  pub throughout_append : (before l m : List A)
      → throughout each before (l ++ m) ≡ throughout each before l ++ throughout each (before ++ l) m
  unfolding throughout
  throughout_append before [] m = rw append-nil
  throughout_append before (a ∷ l) m = rw (throughout_append (before ++ (a ∷ [])) l m, append_assoc, append_assoc)

  pub throughout_last : (l : List A) (a : A) → throughout each [] (l ++ (a ∷ [])) ≡ throughout each [] l ++ each l a
  unfolding throughout
  throughout_last l a = throughout_append [] l (a ∷ []) ∙ rw append-nil

-- ---- outcomes one after another

pub after_gives : {A B : Type 0} (cs : List Check) (a : A) (f : A → B) → bind (unless cs a) (λ x. Ok (f x)) ≡ unless cs (f a)
unfolding unless
after_gives [] a f = refl
after_gives (c ∷ cs) a f = go c.due (after_gives cs a f)
  where
    go : (t : Bool) → bind (unless cs a) (λ x. Ok (f x)) ≡ unless cs (f a)
        → bind (cond t (Err c.refusal) (unless cs a)) (λ x. Ok (f x))
        ≡ cond t (Err c.refusal) (unless cs (f a))
    go true h = refl
    go false h = h

pub after_unless : {A B : Type 0} (cs ds : List Check) (a : A) (b : B) (f : A → Outcome B) → f a ≡ unless ds b
    → bind (unless cs a) f ≡ unless (cs ++ ds) b
unfolding unless
after_unless [] ds a b f h = h
after_unless (c ∷ cs) ds a b f h = go c.due (after_unless cs ds a b f h)
  where
    go : (t : Bool) → bind (unless cs a) f ≡ unless (cs ++ ds) b
        → bind (cond t (Err c.refusal) (unless cs a)) f ≡ cond t (Err c.refusal) (unless (cs ++ ds) b)
    go true k = refl
    go false k = k

-- steps one after another, where each gives what is said of it in view of those before it
module _ {X Y S : Type 0} (step : X → S → Outcome (Advanced S)) (item : X → Y) (state : List Y → S) (check-at : List Y → Y
    → List Check) (value-at : List Y → Y → List MethodLifetime)
    (one : (before : List Y) (x : X)
    → step x (state before) ≡ unless (check-at before (item x))
    (advanced (value-at before (item x)) (state (before ++ (item x ∷ []))))) where
  pub in_turn_lem : (before : List Y) (l : List X)
      → in_turn step l (state before) ≡ unless (throughout check-at before (map item l))
      (advanced (throughout value-at before (map item l)) (state (before ++ map item l)))
  unfolding in_turn throughout unless
  in_turn_lem before [] = rw append-nil
  in_turn_lem before (x ∷ l) =
      let here = before ++ (item x ∷ []) in
      let rest = throughout check-at here (map item l) in
      let vs = throughout value-at here (map item l) in
      let e : state (here ++ map item l) ≡ state (before ++ (item x ∷ map item l)) = rw append_assoc in
      let join : Advanced S → Advanced S = λ r. advanced (value-at before (item x) ++ r.given) r.left in
      let more : bind (in_turn step l (state here)) (λ r. Ok (join r))
      ≡ unless rest (join (advanced vs (state (here ++ map item l)))) =
      rw (in_turn_lem here l) (after_gives rest (advanced vs (state (here ++ map item l))) join) in
      rw (one before x, ← e)
      (after_unless (check-at before (item x)) rest (advanced (value-at before (item x)) (state here))
      (join (advanced vs (state (here ++ map item l))))
      (λ first. bind (in_turn step l first.left) (λ r. Ok (advanced (first.given ++ r.given) r.left))) more)

-- ---- one lifetime

anonymous_last : (l : List Occurrence) (o : Occurrence) → anonymous (l ++ (o ∷ [])) ≡ anonymous l + cond (is_new o) 1 0
unfolding count
anonymous_last l o = count_append is_new l (o ∷ [])

-- the machine's source, by the lifetimes of the input positions
unfoldable pub from_positions : List MethodLifetime → ElisionSource
from_positions [] = NoBorrows
from_positions (l ∷ []) = OneParam l
from_positions (l ∷ m ∷ ls) = MultipleBorrows

abbrev pub source_from : List ℕ → Receiver → List Occurrence → ElisionSource
source_from names NoSelf before = from_positions (positions names before)
source_from names (SelfRef word) before = SelfParam (made_at names [] word)

-- what is seen after some occurrences
abbrev pub seen_of : List ℕ → Receiver → List Occurrence → Seen
seen_of names self before = record { source = source_from names self before; count = count_of names before }

position_more : (ps : List MethodLifetime) (l : MethodLifetime) → from_positions (ps ++ (l ∷ [])) ≡ visit_lifetime (from_positions ps) l
unfolding from_positions
position_more [] l = refl
position_more (p ∷ []) l = refl
position_more (p ∷ q ∷ ps) l = refl

-- in the output, the machine's source is that of RFC 141
elided_source : (ps : List MethodLifetime) (s : Seen)
    → from_source (from_positions ps) s ≡ unless (check false Undeclared ∷ source_check true (only ps) ∷ [])
    (advanced (source_or (only ps) ∷ []) s)
unfolding from_positions unless
elided_source [] s = refl
elided_source (p ∷ []) s = refl
elided_source (p ∷ q ∷ ps) s = refl

pub unmade : (st : Standing) → (makes st && false) ≡ false
unmade Input = refl
unmade Aside = refl
unmade Output = refl

pub cond_not : {A : Type 0} (t : Bool) (a b : A) → cond t a b ≡ cond (not t) b a
cond_not true a b = refl
cond_not false a b = refl

module _ (names : List ℕ) where
  pub count_more : (before : List Occurrence) (o : Occurrence)
      → count_of names (before ++ (o ∷ [])) ≡ count_of names before + cond (is_new o) 1 0
  count_more before o = omega (arith, anonymous_last before o)

  positions_last : (before : List Occurrence) (o : Occurrence)
      → positions names (before ++ (o ∷ [])) ≡ positions names before ++ position_at names before o
  positions_last before o = throughout_last (position_at names) before o

  -- what is seen with one occurrence more
  seen_more : (self : Receiver) (before : List Occurrence) (st : Standing) (word : ℕ)
      → seen_of names self (before ++ (occurs st word ∷ []))
      ≡ visited st (made_at names before word) (source_from names self before)
      (count_of names before + cond (is_new (occurs st word)) 1 0)
  seen_more NoSelf before Input word =
      rw (
        count_more before (occurs Input word),
        positions_last before (occurs Input word),
        position_more (positions names before) (made_at names before word),
      )
  seen_more NoSelf before Aside word =
      rw (count_more before (occurs Aside word), positions_last before (occurs Aside word), append-nil)
  seen_more NoSelf before Output word =
      rw (count_more before (occurs Output word), positions_last before (occurs Output word), append-nil)
  seen_more (SelfRef own) before Input word = rw (count_more before (occurs Input word))
  seen_more (SelfRef own) before Aside word = rw (count_more before (occurs Aside word))
  seen_more (SelfRef own) before Output word = rw (count_more before (occurs Output word))

  -- no anonymous lifetime, no refusal for one
  not_elided : (self : Receiver) (before : List Occurrence) (st : Standing) → (elided_check names self before st false).due ≡ false
  not_elided self before Input = refl
  not_elided self before Aside = refl
  not_elided self before Output = go (source_at names self before)
    where
      go : (o : Outcome MethodLifetime) → (source_check false o).due ≡ false
      go (Ok l) = refl
      go (Err r) = refl

  abbrev AsSaid : Receiver → Standing → List Occurrence → ℕ → Type 0
  AsSaid self st before word =
      lower_word names st word (seen_of names self before)
      ≡ unless (checks_at names self before (occurs st word))
      (advanced (value_at names self before (occurs st word) ∷ [])
      (seen_of names self (before ++ (occurs st word ∷ []))))

  -- one lifetime gives what RFC 141 says
  static_said : (self : Receiver) (st : Standing) (before : List Occurrence) → AsSaid self st before 0
  unfolding lower_word unless
  static_said self Input before = rw (seen_more self before Input 0, add-zero)
  static_said self Aside before = rw (seen_more self before Aside 0, add-zero)
  static_said self Output before = rw (seen_more self before Output 0, add-zero, not_elided self before Output)

  anonymous_said : (self : Receiver) (st : Standing) (before : List Occurrence) → AsSaid self st before 1
  unfolding lower_word unless
  anonymous_said self Input before = rw (seen_more self before Input 1)
  anonymous_said self Aside before = rw (seen_more self before Aside 1)
  anonymous_said NoSelf Output before =
      rw (seen_more NoSelf before Output 1, add-zero)
      (elided_source (positions names before) (seen_of names NoSelf before))
  anonymous_said (SelfRef own) Output before = rw (seen_more (SelfRef own) before Output 1, add-zero)

  name_said : (self : Receiver) (st : Standing) (before : List Occurrence) (k : ℕ) → AsSaid self st before (suc (suc k))
  unfolding lower_word unless
  name_said self st before k =
      rw (
        seen_more self before st (suc (suc k)),
        ne_eqb (suc (suc k)) 1 (omega arith),
        ne_eqb (suc (suc k)) 0 (omega arith),
        le-leb 2 (suc (suc k)) (omega arith),
        unmade st,
        add-zero,
        not_elided self before st,
      )
      (cond_not (is_declared names (suc (suc k)))
      (lowers st (NonStatic (lifetime (place names (suc (suc k))))) (source_from names self before)
      (count_of names before)) (Err Undeclared))

  pub word_said : (self : Receiver) (st : Standing) (before : List Occurrence) (word : ℕ) → AsSaid self st before word
  word_said self st before zero = static_said self st before
  word_said self st before (suc zero) = anonymous_said self st before
  word_said self st before (suc (suc k)) = name_said self st before k

  -- some lifetimes that stand alike
  pub words_said : (self : Receiver) (st : Standing) (before : List Occurrence) (words : List ℕ)
      → lower_words names st words (seen_of names self before)
      ≡ unless (checks names self before (map (occurs st) words))
      (advanced (values names self before (map (occurs st) words))
      (seen_of names self (before ++ map (occurs st) words)))
  words_said self st before words =
      in_turn_lem (lower_word names st) (occurs st) (seen_of names self) (checks_at names self)
      (λ b o. value_at names self b o ∷ []) (word_said self st) before words

-- ---- lists in 16 places

pub lowered_back : (ls : List MethodLifetime) → map (λ (x : Lowered). x.lifetime) (map lowered ls) ≡ ls
lowered_back [] = refl
lowered_back (l ∷ ls) = ap (λ (m : List MethodLifetime). l ∷ m) (lowered_back ls)

pub length_lowered : (ls : List MethodLifetime) → length (map lowered ls) ≡ length ls
length_lowered [] = refl
length_lowered (l ∷ ls) = ap suc (length_lowered ls)

pub laid_values : (ls : List MethodLifetime) → values_in (laid ls) ≡ ls
unfolding laid
laid_values ls = rw (take_at (map lowered ls) _ (length ls) (length_lowered ls)) (lowered_back ls)

-- ---- one step

abbrev pub item_of : Bool → Step → Item
item_of out step = record { output = out; step = step }

has_other : (l : List Item) (i : Item) → is_self_type i.step ≡ false → has_self_type (l ++ (i ∷ [])) ≡ has_self_type l
unfolding any
has_other [] i h = rw h
has_other (j ∷ l) i h = rw (has_other l i h)

has_self : (l : List Item) (i : Item) → is_self_type i.step ≡ true → has_self_type (l ++ (i ∷ [])) ≡ true
unfolding any
has_self [] i h = rw h
has_self (j ∷ l) i h = go (is_self_type j.step) (has_self l i h)
  where
    go : (t : Bool) → has_self_type (l ++ (i ∷ [])) ≡ true → (t || has_self_type (l ++ (i ∷ []))) ≡ true
    go true k = refl
    go false k = k

module _ (names : List ℕ) (self : Receiver) where
  own_other : (before l : List Item) (i : Item) → is_self_type i.step ≡ false
      → own_from names self before (l ++ (i ∷ [])) ≡ own_from names self before l
  unfolding own_from
  own_other before [] i h = rw h
  own_other before (j ∷ l) i h = rw (own_other (before ++ (j ∷ [])) l i h)

  pub own_again : (before l m : List Item) → has_self_type l ≡ true → own_from names self before (l ++ m) ≡ own_from names self before l
  unfolding own_from any
  own_again before [] m h = let z : ◌≡◌ {A = ℕ} 0 1 = cc in absurd (omega arith)
  own_again before (j ∷ l) m h = go (is_self_type j.step) (own_again (before ++ (j ∷ [])) l m) h
    where
      v : List MethodLifetime
      v = values names self (occurrences self before) (step_occurrences false j.output j.step)

      go : (t : Bool)
          → (has_self_type l ≡ true
          → own_from names self (before ++ (j ∷ [])) (l ++ m) ≡ own_from names self (before ++ (j ∷ [])) l)
          → (t || has_self_type l) ≡ true
          → cond t v (own_from names self (before ++ (j ∷ [])) (l ++ m)) ≡ cond t v (own_from names self (before ++ (j ∷ [])) l)
      go true f k = refl
      go false f k = f k

  own_first : (before l m : List Item) → has_self_type l ≡ false
      → own_from names self before (l ++ m) ≡ own_from names self (before ++ l) m
  unfolding own_from any
  own_first before [] m h = rw append-nil
  own_first before (j ∷ l) m h = go (is_self_type j.step) (own_first (before ++ (j ∷ [])) l m) h
    where
      v : List MethodLifetime
      v = values names self (occurrences self before) (step_occurrences false j.output j.step)

      go : (t : Bool)
          → (has_self_type l ≡ false
          → own_from names self (before ++ (j ∷ [])) (l ++ m) ≡ own_from names self ((before ++ (j ∷ [])) ++ l) m)
          → (t || has_self_type l) ≡ false
          → cond t v (own_from names self (before ++ (j ∷ [])) (l ++ m)) ≡ own_from names self (before ++ (j ∷ l)) m
      go true f k = let z : ◌≡◌ {A = ℕ} 0 1 = cc in absurd (omega arith)
      go false f k = f k ∙ rw append_assoc

  pub occurrences_last : (l : List Item) (i : Item) → occurrences self (l ++ (i ∷ [])) ≡ occurrences self l ++ occurrences_at l i
  occurrences_last l i = rw (throughout_last occurrences_at l i, append_assoc)

  -- the lowerer after some steps
  abbrev pub state_of : List Item → Lowerer
  state_of l = record { seen = seen_of names self (occurrences self l); kept = has_self_type l; own = laid (own_from names self [] l) }

  words_step_lem : (st : Standing) (before : List Item) (words : List ℕ)
      → words_step names st words (state_of before)
      ≡ unless (checks names self (occurrences self before) (map (occurs st) words))
      (advanced (values names self (occurrences self before) (map (occurs st) words))
      (record {
        seen = seen_of names self (occurrences self before ++ map (occurs st) words);
        kept = has_self_type before;
        own = laid (own_from names self [] before);
      }))
  words_step_lem st before words =
      let left : Advanced Seen → Advanced Lowerer =
      λ a. advanced a.given
      (record { seen = a.left; kept = has_self_type before; own = laid (own_from names self [] before) }) in
      rw (words_said names self st (occurrences self before) words)
      (after_gives (checks names self (occurrences self before) (map (occurs st) words))
      (advanced (values names self (occurrences self before) (map (occurs st) words))
      (seen_of names self (occurrences self before ++ map (occurs st) words))) left)

  abbrev StepSaid : Bool → List Item → Step → Type 0
  StepSaid out before step =
      lower_step names out step (state_of before)
      ≡ unless (step_checks names self before (item_of out step))
      (advanced (lowered_at names self before (item_of out step)) (state_of (before ++ (item_of out step ∷ []))))

  self_again : (out : Bool) (before : List Item) (words : List ℕ) → has_self_type before ≡ true → StepSaid out before (SelfType words)
  unfolding lower_step unless throughout
  self_again out before words h =
      let i = item_of out (SelfType words) in
      rw (
        occurrences_last before i,
        has_self before i refl,
        own_again [] before (i ∷ []) h,
        h,
        append-nil,
        laid_values (own_from names self [] before),
      )

  self_first : (out : Bool) (before : List Item) (words : List ℕ) → has_self_type before ≡ false → StepSaid out before (SelfType words)
  unfolding lower_step own_from
  self_first out before words h =
      let i = item_of out (SelfType words) in
      let left : Advanced Seen → Advanced Lowerer =
      λ a. advanced a.given (record { seen = a.left; kept = true; own = laid a.given }) in
      rw (
        occurrences_last before i,
        has_self before i refl,
        own_first [] before (i ∷ []) h,
        h,
        words_said names self Aside (occurrences self before) words,
      )
      (after_gives (checks names self (occurrences self before) (map (occurs Aside) words))
      (advanced (values names self (occurrences self before) (map (occurs Aside) words))
      (seen_of names self (occurrences self before ++ map (occurs Aside) words))) left)

  -- one step gives what RFC 141 says
  pub step_said : (out : Bool) (before : List Item) (step : Step) → StepSaid out before step
  unfolding lower_step
  step_said out before (Lifetime word) =
      let i = item_of out (Lifetime word) in
      rw (occurrences_last before i, has_other before i refl, own_other [] before i refl)
      (words_step_lem (standing_in out) before (word ∷ []))
  step_said out before (Generics g words) =
      let i = item_of out (Generics g words) in
      rw (occurrences_last before i, has_other before i refl, own_other [] before i refl)
      (words_step_lem (standing_in out) before (appended g words))
  step_said out before (SelfType words) = go (has_self_type before) refl
    where
      go : (t : Bool) → has_self_type before ≡ t → StepSaid out before (SelfType words)
      go true h = self_again out before words h
      go false h = self_first out before words h

  -- and the steps of a record
  pub steps_said : (out : Bool) (before : List Item) (steps : List Step)
      → run_steps names out steps (state_of before)
      ≡ unless (throughout (step_checks names self) before (map (item_of out) steps))
      (advanced (throughout (lowered_at names self) before (map (item_of out) steps))
      (state_of (before ++ map (item_of out) steps)))
  steps_said out before steps =
      in_turn_lem (lower_step names out) (item_of out) state_of (step_checks names self) (lowered_at names self) (step_said out)
      before steps

-- ---- the first step, and the whole method

unused_seen : (names : List ℕ) → (unused names).seen ≡ seen_of names NoSelf []
unfolding unused throughout count from_positions
unused_seen names = rw add-zero

self_ref_said : (names : List ℕ) (word : ℕ)
    → self_ref names word
    ≡ unless (checks_at names NoSelf [] (occurs Aside word))
    (advanced (made_at names [] word ∷ [])
    (record {
      seen = record { source = SelfParam (made_at names [] word); count = count_of names (occurs Aside word ∷ []) };
      kept = false;
      own = laid [];
    }))
unfolding self_ref
self_ref_said names word =
    let left : Advanced Seen → Advanced Lowerer =
    λ a. advanced a.given
    (record {
      seen = record { source = SelfParam (first_or a.given); count = a.left.count };
      kept = false;
      own = laid [];
    }) in
    rw (unused_seen names, word_said names NoSelf Aside [] word)
    (after_gives (checks_at names NoSelf [] (occurs Aside word))
    (advanced (made_at names [] word ∷ []) (seen_of names NoSelf (occurs Aside word ∷ []))) left)

pub self_said : (names : List ℕ) (self : Receiver)
    → lower_self names self ≡ unless (checks names self [] (self_occurrences self))
    (advanced (values names self [] (self_occurrences self)) (state_of names self []))
unfolding unused unless throughout count any own_from from_positions
self_said names NoSelf = rw add-zero
self_said names (SelfRef word) = rw (self_ref_said names word)

pub method_said : (names : List ℕ) (self : Receiver) (steps returns : List Step)
    → run_method names self steps returns ≡ rfc141 names self steps returns
unfolding run_method rfc141
method_said names self steps returns =
    let second = throughout (step_checks names self) [] (inputs steps) in
    let third = throughout (step_checks names self) (inputs steps) (outputs returns) in
    let a = advanced (values names self [] (self_occurrences self)) (state_of names self []) in
    let b = advanced (throughout (lowered_at names self) [] (inputs steps)) (state_of names self (inputs steps)) in
    let c = advanced (throughout (lowered_at names self) (inputs steps) (outputs returns))
    (state_of names self (inputs steps ++ outputs returns)) in
    let whole : Advanced Lowerer → Advanced Lowerer → Advanced Lowerer → Method =
    λ x y z. record { self = x.given; steps = y.given; returns = z.given; count = z.left.seen.count } in
    let last : bind (run_steps names true returns (state_of names self (inputs steps))) (λ z. Ok (whole a b z))
    ≡ unless third (method_of names self steps returns) =
    rw (steps_said names self true (inputs steps) returns) (after_gives third c (whole a b)) in
    let middle : bind (run_steps names false steps (state_of names self []))
    (λ y. bind (run_steps names true returns y.left) (λ z. Ok (whole a y z)))
    ≡ unless (second ++ third) (method_of names self steps returns) =
    rw (steps_said names self false [] steps)
    (after_unless second third b (method_of names self steps returns)
    (λ y. bind (run_steps names true returns y.left) (λ z. Ok (whole a y z))) last) in
    rw (self_said names self)
    (after_unless (checks names self [] (self_occurrences self)) (second ++ third) a (method_of names self steps returns)
    (λ x. bind (run_steps names false steps x.left)
    (λ y. bind (run_steps names true returns y.left) (λ z. Ok (whole x y z)))) middle)
