-- A record lowered step by step: the loop of `put_steps`. What is left to be read, lowered from here behind what is
-- done, is what the whole record gives.
use Rattle.std.specs.Prelude.{Ok, Err, Some, None}
use Prim.Native.Nat.{ℕ, zero, suc, ◌+◌, ◌*◌, ◌≤◌, ◌<◌}
use mathlib.Core.Bool.{Bool, true, and-eq-true_iff}
use mathlib.Core.Path.{◌≡◌, refl, sym, ap, ◌∙◌}
use mathlib.Core.List.{List, [], ◌∷◌, ◌++◌, map, append-nil, append_assoc, map-append}
use native.Mathlib.Nat.{zero-add}
use native.Mathlib.Omega.{arith}
use borrow.Author.Tests.{leb-true}
use lib.ListN.{length, drop, length-append, length-map, length-drop, drop_of_length-le}
use lib.Seq.{sets}
use Rattle.answers.specs.declared.Refusal.{Refusal}
use Rattle.answers.specs.declared.Refusal.TheVariants.{Malformed}
use Rattle.elision.specs.Rfc.{MethodLifetime}
use Rattle.answers.specs.Refusals.{Outcome, bind}
use Rattle.answers.proofs.Copying.{sets_append}
use Rattle.records.specs.Reading.{Reading, Read, Fails, onward, is_read, read_or, read_all, in_shape, items_of, few_words}
use Rattle.records.specs.Ends.{EndsAt, ends}
use Rattle.records.proofs.ReadingLaws.{passed, fails_read}
use Rattle.elision.specs.declared.lowerer.Lowerer.{Lowerer}
use Rattle.elision.specs.declared.put.SmallLowerer.{SmallLowerer}
use Rattle.elision.specs.Steps.{Step, read_step, steps_in_shape, steps_of}
use Rattle.elision.specs.Machine.{Advanced, advanced, in_turn, fits, lower_step, one_step, run_steps}
use Rattle.elision.specs.Inner.{StandsAt, step_end, shown, Shows, Given, Lowers, PutsStep}
use Rattle.elision.specs.declared.steps.StepAt.{StepAt}
use Rattle.elision.proofs.StepLaws.{ends_there}
use Rattle.elision.proofs.PutLaws.{puts_missing}
use Rattle.elision.proofs.OutcomeLaws.{both, same_given, carried}

abbrev item : ℕ → List ℕ → Reading Step
item number = read_step

-- ---- what is read, one step more

read_is : (r : Reading (List Step)) → is_read r ≡ true → (tail : List ℕ) × (r ≡ Read (read_or [] r) tail)
read_is (Read items tail) e = (tail, refl)
read_is Fails e = passed e

pub record Turn (number : ℕ) (words : List ℕ) (rest : List Step) (tail : List ℕ) : Type 0 where
  pub step : Step
  pub behind : List ℕ
  pub items : List Step
  pub fuel : ℕ
  pub is : read_step words ≡ Read step behind
  pub more : read_all item (suc number) fuel behind ≡ Read items tail
  pub all : rest ≡ step ∷ items

read_turn : (number fuel : ℕ) (words : List ℕ) (rest : List Step) (tail : List ℕ) → 0 < length words
    → read_all item number fuel words ≡ Read rest tail → Turn number words rest tail
unfolding read_all
read_turn number fuel [] rest tail h e = absurd (omega arith)
read_turn number zero (w ∷ words) rest tail h e = fails_read e
read_turn number (suc fuel) (w ∷ words) rest tail h e = go (read_step (w ∷ words)) refl e
  where
    whole : Step → Reading (List Step) → Reading (List Step)
    whole s r = onward r (λ items last. Read (s ∷ items) last)

    inside : (s : Step) (b : List ℕ) → read_step (w ∷ words) ≡ Read s b → (r : Reading (List Step))
        → read_all item (suc number) fuel b ≡ r
        → onward r (λ items last. Read (s ∷ items) last) ≡ Read rest tail → Turn number (w ∷ words) rest tail
    inside s b q (Read items last) k f =
        let t : last ≡ tail = cc in
        let a : rest ≡ s ∷ items = cc in
        record { step = s; behind = b; items = items; fuel = fuel; is = q; more = rw (← t) k; all = a }
    inside s b q Fails k f = fails_read f

    go : (r : Reading Step) → read_step (w ∷ words) ≡ r
        → onward r (λ a behind. onward (read_all item (suc number) fuel behind) (λ items last. Read (a ∷ items) last))
        ≡ Read rest tail
        → Turn number (w ∷ words) rest tail
    go (Read s b) q f = inside s b q (read_all item (suc number) fuel b) refl f
    go Fails q f = fails_read f

read_none : (number fuel : ℕ) (rest : List Step) (tail : List ℕ) → read_all item number fuel [] ≡ Read rest tail → rest ≡ []
unfolding read_all
read_none number zero rest tail e = cc
read_none number (suc fuel) rest tail e = cc

-- ---- the loop

abbrev behind_done : List MethodLifetime → Advanced Lowerer → Outcome (Advanced Lowerer)
behind_done done a = Ok (advanced (done ++ a.given) a.left)

-- from the lowerer that the record starts with: what is left of the record, the lowerer that it is left to, shown by
-- the small one, and what is done
pub record Reached (names : List ℕ) (out : Bool) (words : List ℕ) (start : Lowerer) (slice₀ slice : List ℕ)
    (k : SmallLowerer) (n at : ℕ) : Type 0 where
  pub number : ℕ
  pub fuel : ℕ
  pub rest : List Step
  pub tail : List ℕ
  pub reads : read_all item number fuel (drop at words) ≡ Read rest tail
  pub done : List MethodLifetime
  pub count : length done ≡ n
  pub here : Lowerer
  pub shows : Shows here k
  pub left : run_steps names out (steps_of words) start ≡ bind (run_steps names out rest here) (behind_done done)
  pub stored : slice ≡ sets slice₀ 0 (map shown done)

-- the loop: numbers that are safe, and the above for every lowerer that the first small one shows
pub record Recording (names : List ℕ) (out : Bool) (words : List ℕ) (before : SmallLowerer) (slice₀ slice : List ℕ)
    (k : SmallLowerer) (n at : ℕ) : Type 0 where
  pub few : length words ≤ 1024
  pub within : at ≤ length words
  pub small : n ≤ 16 * at
  pub held : k.own ≤ 16
  pub size : length slice ≡ length slice₀
  pub reached : (s : Lowerer) → Shows s before → Reached names out words s slice₀ slice k n at

after_itself : (o : Outcome (Advanced Lowerer)) → o ≡ bind o (behind_done [])
after_itself (Ok a) = refl
after_itself (Err r) = refl

pub recording_start : (names : List ℕ) (out : Bool) (words : List ℕ) (before : SmallLowerer) (slice : List ℕ)
    → steps_in_shape words ≡ true → before.own ≤ 16 → Recording names out words before slice slice before 0 0
unfolding in_shape items_of
recording_start names out words before slice e few =
    let p = (and-eq-true_iff (few_words words) (is_read (read_all item 0 (length words) words))).0 e in
    let q = read_is (read_all item 0 (length words) words) p.1 in
    record {
      few = leb-true (length words) 1024 p.0;
      within = omega arith;
      small = omega arith;
      held = few;
      size = refl;
      reached = λ s sh. record {
        number = 0;
        fuel = length words;
        rest = steps_of words;
        tail = q.0;
        reads = q.1;
        done = [];
        count = refl;
        here = s;
        shows = sh;
        left = after_itself (run_steps names out (steps_of words) s);
        stored = refl;
      };
    }

-- where a step that was read ends
ends_behind : {words : List ℕ} {at next : ℕ} {reading : Reading Step} (s : Step) (b : List ℕ)
    → EndsAt words at reading (Some next) → reading ≡ Read s b → drop next words ≡ b
ends_behind s b (ends {a} {rest} d x e) q = let r : rest ≡ b = cc in d ∙ r

ends_order : {words : List ℕ} {at next : ℕ} {reading : Reading Step} → EndsAt words at reading (Some next)
    → (at < next) × (next ≤ length words)
ends_order (ends d x e) = (x, e)

pub one_fits : (names : List ℕ) (out : Bool) (step : Step) (s : Lowerer) → fits step ≡ true
    → one_step names out step s ≡ lower_step names out step s
unfolding one_step
one_fits names out step s h = rw h

-- one lowerer: the end, and one step more
module _ {names : List ℕ} {out : Bool} {words : List ℕ} {start : Lowerer} {slice₀ slice : List ℕ} {k : SmallLowerer}
    {n at : ℕ} (inv : Reached names out words start slice₀ slice k n at) where
  reached_end : length words ≤ at → Lowers (run_steps names out (steps_of words) start) 0 slice₀ slice k (Ok n)
  unfolding in_turn
  reached_end h =
      let none : inv.rest ≡ [] =
      read_none inv.number inv.fuel inv.rest inv.tail
      (rw (drop_of_length-le words {i = at} h) at inv.reads) in
      record {
        accepted = λ m q. record {
          it = advanced inv.done inv.here;
          is = rw (inv.left, none, append-nil inv.done);
          shows = inv.shows;
          count = sym (same_given q) ∙ sym inv.count ∙ sym (zero-add (length inv.done));
          stored = inv.stored;
        };
        refused = λ j q. both (sym q);
      }

  module _ (h : at < length words) where
    turn : Turn inv.number (drop at words) inv.rest inv.tail
    turn = read_turn inv.number inv.fuel (drop at words) inv.rest inv.tail (rw length-drop (omega arith)) inv.reads

    next : run_steps names out (steps_of words) start
        ≡ bind (bind (lower_step names out turn.step inv.here)
        (λ first. bind (run_steps names out turn.items first.left)
        (λ rest. Ok (advanced (first.given ++ rest.given) rest.left))))
        (behind_done inv.done)
    unfolding in_turn
    next = inv.left ∙ ap (λ (o : Outcome (Advanced Lowerer)). bind o (behind_done inv.done))
        (ap (λ (l : List Step). run_steps names out l inv.here) turn.all)

    module _ {k₁ : SmallLowerer} {slice₁ : List ℕ} where
      reached_refused : {j : Refusal} → PutsStep names words out at n k k₁ slice slice₁ (Err j)
          → run_steps names out (steps_of words) start ≡ Err j
      reached_refused {j} put = rw (next, (put.lowers inv.here inv.shows turn.step turn.behind turn.is).refused j refl)

      reached_more : {m to : ℕ} → EndsAt words at (read_step (drop at words)) (Some to)
          → PutsStep names words out at n k k₁ slice slice₁ (Ok m)
          → Reached names out words start slice₀ slice₁ k₁ m to
      reached_more {m} {to} ended put = go ((put.lowers inv.here inv.shows turn.step turn.behind turn.is).accepted m refl)
        where
          join : (a : Advanced Lowerer) (o : Outcome (Advanced Lowerer))
              → bind (bind o (λ rest. Ok (advanced (a.given ++ rest.given) rest.left))) (behind_done inv.done)
              ≡ bind o (behind_done (inv.done ++ a.given))
          join a (Ok b) = rw append_assoc
          join a (Err k) = refl

          go : Given (lower_step names out turn.step inv.here) n slice slice₁ k₁ m
              → Reached names out words start slice₀ slice₁ k₁ m to
          go g =
              let a = g.it in
              let size : length (map shown inv.done) ≡ n = length-map inv.done shown ∙ inv.count in
              let len : 0 + length (map shown inv.done) ≡ n = rw (zero-add (length (map shown inv.done))) size in
              record {
                number = suc inv.number;
                fuel = turn.fuel;
                rest = turn.items;
                tail = inv.tail;
                reads = rw (ends_behind turn.step turn.behind ended turn.is) turn.more;
                done = inv.done ++ a.given;
                count = length-append inv.done a.given ∙ rw (inv.count, g.count);
                here = a.left;
                shows = g.shows;
                left = rw (next, g.is) (join a (run_steps names out turn.items a.left));
                stored = rw (
                  g.stored,
                  inv.stored,
                  map-append shown inv.done a.given,
                  sets_append slice₀ 0 (map shown inv.done) (map shown a.given),
                  len,
                );
              }

pub recording_less : {words : List ℕ} {at : ℕ} {q : StepAt} → StandsAt words at (read_step (drop at words)) (Some q)
    → {to : ℕ} → to ≡ step_end q → (at < to) × (to ≤ length words)
recording_less stands e = ends_order (ends_there stands e)

module _ {names : List ℕ} {out : Bool} {words : List ℕ} {before : SmallLowerer} {slice₀ slice : List ℕ}
    {k : SmallLowerer} {n at : ℕ} (inv : Recording names out words before slice₀ slice k n at) where
  pub recording_end : length words ≤ at → (s : Lowerer) → Shows s before
      → Lowers (run_steps names out (steps_of words) s) 0 slice₀ slice k (Ok n)
  recording_end h s sh = reached_end (inv.reached s sh) h

  -- where no step stands
  pub recording_torn : StandsAt words at (read_step (drop at words)) None → at < length words → (s : Lowerer)
      → Shows s before → Lowers (run_steps names out (steps_of words) s) 0 slice₀ slice k (Err Malformed)
  recording_torn stands h s sh = puts_missing stands (turn (inv.reached s sh) h).is

  module _ {k₁ : SmallLowerer} {slice₁ : List ℕ} where
    pub recording_refused : {j : Refusal} → PutsStep names words out at n k k₁ slice slice₁ (Err j)
        → at < length words → {r : Outcome ℕ} → r ≡ Err j → (s : Lowerer) → Shows s before
        → Lowers (run_steps names out (steps_of words) s) 0 slice₀ slice₁ k₁ r
    recording_refused {j} put h e s sh = record {
      accepted = λ m q. both (sym e ∙ q);
      refused = λ i q. reached_refused (inv.reached s sh) h put ∙ carried (sym e ∙ q);
    }

    pub recording_more : {q : StepAt} → StandsAt words at (read_step (drop at words)) (Some q) → {m : ℕ}
        → PutsStep names words out at n k k₁ slice slice₁ (Ok m) → {to : ℕ} → to ≡ step_end q
        → length slice₁ ≡ length slice → Recording names out words before slice₀ slice₁ k₁ m to
    recording_more {q} stands {m} put {to} e size =
        let order = recording_less stands e in
        let h : at < length words = omega (arith, order.0, order.1) in
        record {
          few = inv.few;
          within = order.1;
          small = omega (arith, inv.small, put.near m refl, order.0);
          held = put.few;
          size = size ∙ inv.size;
          reached = λ s sh. reached_more (inv.reached s sh) h (ends_there stands e) put;
        }
