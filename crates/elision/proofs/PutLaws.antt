-- One step lowered and stored, where the lowerer is shown by small numbers and a list of words: what `put_given`,
-- `put_self` and `put_step` answer. Each law is over any lowerer that is shown.
use Rattle.std.specs.Prelude.{Ok, Err, Some, None}
use Prim.Native.Nat.{ℕ, ◌+◌, ◌-◌, ◌≤◌}
use mathlib.Core.Bool.{Bool, true, false}
use mathlib.Core.Path.{◌≡◌, refl, sym, ap, subst, ◌∙◌}
use mathlib.Core.List.{List, ◌++◌, map, append-nil}
use native.Mathlib.Nat.{zero-add, zero-sub}
use native.Mathlib.Omega.{arith}
use lib.ListN.{length, take, drop, length-map}
use lib.Seq.{sets, length-sets, take_at}
use Rattle.answers.specs.Refusals.{Outcome}
use Rattle.answers.proofs.Copying.{sets_front, Copying}
use Rattle.records.specs.Reading.{Reading, Read, Fails}
use Rattle.elision.proofs.OutcomeLaws.{both, same_given}
use Rattle.elision.specs.declared.steps.StepAt.{StepAt}
use Rattle.elision.specs.declared.steps.StepAt.TheVariants as standing
use Rattle.elision.specs.declared.lowerer.Standing.TheVariants.{Aside}
use Rattle.elision.specs.declared.lowerer.Seen.{Seen}
use Rattle.elision.specs.declared.lowerer.Lowerer.{Lowerer}
use Rattle.elision.specs.declared.put.SmallLowerer.{SmallLowerer}
use Rattle.elision.specs.declared.put.Put.{Put}
use Rattle.elision.specs.Steps.{Step, read_step}
use Rattle.elision.specs.Rfc.{appended, standing_in}
use Rattle.elision.specs.Machine.{Advanced, advanced, laid, lower_words, words_step, self_step, lower_step}
use Rattle.elision.specs.Inner.{StandsAt, shown, Puts, Shows, Given, Lowers, PutsOne, PutsStep}
use Rattle.elision.specs.Inner as inner
use Rattle.elision.proofs.RfcLaws.{laid_values}
use Rattle.elision.proofs.PartLaws.{told}
use Rattle.records.proofs.ReadingLaws.{fails_read}

-- ---- what `put_words` answers

record GivenWords (o : Outcome (Advanced Seen)) (at : ℕ) (before behind : List ℕ) (p : Put) : Type 0 where
  it : Advanced Seen
  is : o ≡ Ok it
  saw : it.left ≡ p.seen
  count : p.at ≡ at + length it.given
  stored : behind ≡ sets before at (map shown it.given)

module _ {at : ℕ} {before behind : List ℕ} where
  words_given : {p : Put} (o : Outcome (Advanced Seen)) → Puts o at before behind (Ok p)
      → GivenWords o at before behind p
  words_given {p} (Ok a) h =
      let same : p ≡ record { seen = a.left; at = at + length a.given } = same_given h.answers in
      record {
        it = a;
        is = refl;
        saw = sym (ap (λ (x : Put). x.seen) same);
        count = ap (λ (x : Put). x.at) same;
        stored = h.stores a refl;
      }
  words_given (Err k) h = both (sym h.answers)

-- a step that is not refused
one_given : {step : Lowerer → Outcome (Advanced Lowerer)} {n : ℕ} {k k₁ : SmallLowerer} {before behind : List ℕ}
    {m : ℕ} → k₁.own ≤ 16 → m ≤ n + 16 → ((s : Lowerer) → Shows s k → Given (step s) n before behind k₁ m)
    → PutsOne step n k k₁ before behind (Ok m)
one_given {step} {n} {k} {k₁} {before} {behind} {m} few near f = record {
  few = few;
  near = λ l q. let same : m ≡ l = same_given q in omega (arith, same, near);
  lowers = λ s sh. record {
    accepted = λ l q. subst (λ (x : ℕ). Given (step s) n before behind k₁ x) (same_given q) (f s sh);
    refused = λ i q. both (sym q);
  };
}

-- ---- kind 2: the loop of `put_own`, which copies the words in the list

pub record Storing (list : List ℕ) (count at : ℕ) (out₀ out : List ℕ) (i : ℕ) : Type 0 where
  pub size : length out ≡ length out₀
  pub copied : length list ≡ 16 → Copying list count at out₀ out i

-- ---- kind 2: a later use, and the first

module _ (names words : List ℕ) (k : SmallLowerer) (n : ℕ) {list₁ : List ℕ} (t : k.kept ≡ false) where
  -- no anonymous ones are appended
  said : {r : Outcome Put} → Puts (lower_words names Aside (appended 0 words) k.seen) 0 k.list list₁ r
      → Puts (lower_words names Aside words k.seen) 0 k.list list₁ r
  said call = rw (zero-sub (length words), append-nil words) at call

  -- the words given are in the list, and from there in the slice
  pub self_first : {p : Put} {before behind : List ℕ}
      → Puts (lower_words names Aside (appended 0 words) k.seen) 0 k.list list₁ (Ok p)
      → (length list₁ ≡ 16 → behind ≡ sets before n (take p.at list₁)) → {m : ℕ} → m ≡ n + p.at
      → PutsOne (self_step names words) n k (record { seen = p.seen; kept = true; own = p.at; list = list₁ }) before
      behind (Ok m)
  self_first {p} {before} {behind} call stored {m} e =
      let few : p.at ≤ 16 = omega (arith, call.few p refl) in
      one_given few (omega (arith, e, few))
      (λ s sh. go s sh (words_given (lower_words names Aside words k.seen) (said call)) few)
    where
      go : (s : Lowerer) → Shows s k → GivenWords (lower_words names Aside words k.seen) 0 k.list list₁ p → p.at ≤ 16
          → Given (self_step names words s) n before behind
          (record { seen = p.seen; kept = true; own = p.at; list = list₁ }) m
      go s sh g few =
          let ws = map shown g.it.given in
          let many : p.at ≡ length g.it.given = g.count ∙ zero-add (length g.it.given) in
          let size : length ws ≡ p.at = length-map g.it.given shown ∙ sym many in
          let full : length list₁ ≡ 16 = ap length g.stored ∙ length-sets k.list 0 ws ∙ sh.full in
          let front : list₁ ≡ ws ++ drop (length ws) k.list =
          g.stored ∙ sets_front k.list ws (omega (arith, few, size, sh.full)) in
          let first : take p.at list₁ ≡ ws = ap (take p.at) front ∙ take_at ws (drop (length ws) k.list) p.at size in
          record {
            it = advanced g.it.given (record { seen = g.it.left; kept = true; own = laid g.it.given });
            is = rw (sh.keeps, t, sh.saw, g.is);
            shows = record {
              saw = g.saw;
              keeps = refl;
              full = full;
              many = λ u. ap length (laid_values g.it.given) ∙ sym many;
              words = λ u. first ∙ sym (ap (map shown) (laid_values g.it.given));
            };
            count = e ∙ ap (λ (x : ℕ). n + x) many;
            stored = stored full ∙ ap (sets before n) first;
          }

-- ---- the step that stands at a place

-- what is read there is the step that `lower_step` takes
same_step : {s t : Step} {b rest : List ℕ} → Read s b ≡ Read t rest → s ≡ t
same_step e = cc

same_lifetime : (names : List ℕ) (out : Bool) {words : List ℕ} {at : ℕ} {reading : Reading Step} {word to : ℕ}
    → StandsAt words at reading (Some (standing.Lifetime word to))
    → (step : Step) (rest : List ℕ) → reading ≡ Read step rest → (s : Lowerer)
    → words_step names (standing_in out) (appended 0 (take (to - (to - 1)) (drop (to - 1) words))) s
    ≡ lower_step names out step s
unfolding lower_step
same_lifetime names out {to = to} (inner.lifetime w d b l) step rest e s =
    let one : to - (to - 1) ≡ 1 = omega arith in
    rw (← same_step e, one, w)

same_generics : (names : List ℕ) (out : Bool) {words : List ℕ} {at : ℕ} {reading : Reading Step} {g from to : ℕ}
    → StandsAt words at reading (Some (standing.Generics g from to))
    → (step : Step) (rest : List ℕ) → reading ≡ Read step rest → (s : Lowerer)
    → words_step names (standing_in out) (appended g (take (to - from) (drop from words))) s
    ≡ lower_step names out step s
unfolding lower_step
same_generics names out (inner.generics l d b m x) step rest e s = rw (← same_step e, l)

same_self : (names : List ℕ) (out : Bool) {words : List ℕ} {at : ℕ} {reading : Reading Step} {from to : ℕ}
    → StandsAt words at reading (Some (standing.SelfType from to))
    → (step : Step) (rest : List ℕ) → reading ≡ Read step rest → (s : Lowerer)
    → self_step names (take (to - from) (drop from words)) s ≡ lower_step names out step s
unfolding lower_step
same_self names out (inner.self_type l d b m x) step rest e s = rw (← same_step e, l)

missing_fails : {words : List ℕ} {at : ℕ} {reading : Reading Step} → StandsAt words at reading None → reading ≡ Fails
missing_fails inner.missing = refl

-- where no step stands, none is read
pub puts_missing : {words : List ℕ} {at : ℕ} → StandsAt words at (read_step (drop at words)) None → {step : Step}
    {rest : List ℕ} {A : Type 0} → read_step (drop at words) ≡ Read step rest → A
puts_missing stands q = fails_read (sym (missing_fails stands) ∙ q)

-- one step, where it is the one that stands there
puts : {words : List ℕ} {at : ℕ} {names : List ℕ} {out : Bool} {n : ℕ} {k k₁ : SmallLowerer} {before behind : List ℕ}
    {r : Outcome ℕ} (step : Lowerer → Outcome (Advanced Lowerer))
    → ((step₁ : Step) (rest : List ℕ) → read_step (drop at words) ≡ Read step₁ rest → (s : Lowerer)
    → step s ≡ lower_step names out step₁ s)
    → PutsOne step n k k₁ before behind r → PutsStep names words out at n k k₁ before behind r
puts {n = n} {k₁ = k₁} {before = before} {behind = behind} {r = r} step same p = record {
  few = p.few;
  near = p.near;
  lowers = λ s sh step₁ rest e. subst (λ (o : Outcome (Advanced Lowerer)). Lowers o n before behind k₁ r)
      (same step₁ rest e s) (p.lowers s sh);
}

module _ {words : List ℕ} {q : StepAt} (names : List ℕ) (out : Bool) (n : ℕ) {k k₁ : SmallLowerer}
    {before behind : List ℕ} {r : Outcome ℕ} where
  pub puts_lifetime : {word to : ℕ} → q ≡ standing.Lifetime word to
      → PutsOne (words_step names (standing_in out) (appended 0 (take (to - (to - 1)) (drop (to - 1) words)))) n k k₁
      before behind r
      → (at : ℕ) → StandsAt words at (read_step (drop at words)) (Some q)
      → PutsStep names words out at n k k₁ before behind r
  puts_lifetime {word} {to} e p at stands =
      puts (words_step names (standing_in out) (appended 0 (take (to - (to - 1)) (drop (to - 1) words))))
      (same_lifetime names out (told stands e)) p

  pub puts_generics : {g from to : ℕ} → q ≡ standing.Generics g from to
      → PutsOne (words_step names (standing_in out) (appended g (take (to - from) (drop from words)))) n k k₁ before
      behind r
      → (at : ℕ) → StandsAt words at (read_step (drop at words)) (Some q)
      → PutsStep names words out at n k k₁ before behind r
  puts_generics {g} {from} {to} e p at stands =
      puts (words_step names (standing_in out) (appended g (take (to - from) (drop from words))))
      (same_generics names out (told stands e)) p

  pub puts_self : {from to : ℕ} → q ≡ standing.SelfType from to
      → PutsOne (self_step names (take (to - from) (drop from words))) n k k₁ before behind r
      → (at : ℕ) → StandsAt words at (read_step (drop at words)) (Some q)
      → PutsStep names words out at n k k₁ before behind r
  puts_self {from} {to} e p at stands =
      puts (self_step names (take (to - from) (drop from words))) (same_self names out (told stands e)) p
