-- The three records one after another: what `put_receiver` and `run` answer, and what they store.
use Rattle.std.specs.Prelude.{Ok, Err}
use Prim.Native.Nat.{ℕ}
use mathlib.Core.Bool.{true, false}
use mathlib.Core.Path.{◌≡◌, refl, sym, ap, ◌∙◌}
use mathlib.Core.List.{List, [], ◌∷◌}
use native.Mathlib.Nat.{zero-add}
use native.Mathlib.Omega.{arith}
use lib.ListN.{length, get_or, set}
use Rattle.answers.specs.declared.Refusal.{Refusal}
use Rattle.answers.specs.Refusals.{Outcome}
use Rattle.records.proofs.ReadingLaws.{passed}
use Rattle.elision.specs.declared.source.ElisionSource.TheVariants.{NoBorrows, SelfParam}
use Rattle.elision.specs.declared.lowerer.Standing.TheVariants.{Aside}
use Rattle.elision.specs.declared.lowerer.Seen.{Seen}
use Rattle.elision.specs.declared.lowerer.Worded.{Worded}
use Rattle.elision.specs.declared.lowerer.Lowerer.{Lowerer}
use Rattle.elision.specs.declared.put.SmallLowerer.{SmallLowerer}
use Rattle.elision.specs.declared.method.Totals.{Totals}
use Rattle.elision.specs.Steps.{Step, Receiver, receiver_of}
use Rattle.elision.specs.Rfc.{Method}
use Rattle.elision.specs.Machine.{Advanced, advanced, laid, lower_word, unused, self_ref, lower_self, run_steps}
use Rattle.elision.specs.Machine.{run_method}
use Rattle.elision.specs.Inner.{shown, small_unused, worded, Shows, Given, Lowers, totals, RunsAll}
use Rattle.elision.proofs.OutcomeLaws.{both, same_given, carried}
use Rattle.elision.proofs.LowererLoops.{single_word, accepted_word, refused_word}

-- ---- the record `self`

-- a lowerer without the `Self` type
abbrev bare : Seen → Lowerer
bare seen = record { seen = seen; kept = false; own = laid [] }

-- is shown by a small one
bare_shown : (seen : Seen) {k : SmallLowerer} → k.kept ≡ false → length k.list ≡ 16 → k.seen ≡ seen → Shows (bare seen) k
bare_shown seen {k} off full e = record {
  saw = sym e;
  keeps = sym off;
  full = full;
  many = λ t. passed (sym off ∙ t);
  words = λ t. passed (sym off ∙ t);
}

-- what is seen at first
abbrev fresh : List ℕ → Seen
fresh names = record { source = NoBorrows; count = length names }

module _ (names : List ℕ) {k : SmallLowerer} (unused_is : k ≡ small_unused names) where
  off : k.kept ≡ false
  off = ap (λ (x : SmallLowerer). x.kept) unused_is

  full : length k.list ≡ 16
  full = ap (λ (x : SmallLowerer). length x.list) unused_is

  saw : k.seen ≡ fresh names
  saw = ap (λ (x : SmallLowerer). x.seen) unused_is

  pub receiver_none : (self slice : List ℕ) → length self ≡ 0
      → Lowers (lower_self names (receiver_of self)) 0 slice slice k (Ok 0)
  unfolding unused
  receiver_none [] slice h = record {
    accepted = λ m q. record {
      it = advanced [] (bare (fresh names));
      is = refl;
      shows = bare_shown (fresh names) off full saw;
      count = sym (same_given q);
      stored = refl;
    };
    refused = λ j q. both (sym q);
  }
  receiver_none (w ∷ self) slice h = absurd (omega arith)

  module _ (self : List ℕ) (h : length self ≡ 0 → ⊥) where
    pub receiver_refused : {j : Refusal} → Err j ≡ worded (lower_word names Aside (get_or self 0 0) k.seen)
        → {r : Outcome ℕ} → r ≡ Err j → {slice slice₁ : List ℕ}
        → Lowers (lower_self names (receiver_of self)) 0 slice slice₁ k r
    unfolding self_ref unused
    receiver_refused {j} v e =
        let here : Err j ≡ worded (lower_word names Aside (get_or self 0 0) (fresh names)) = rw saw at v in
        record {
          accepted = λ m q. both (sym e ∙ q);
          refused = λ i q.
              go self h (refused_word (lower_word names Aside (get_or self 0 0) (fresh names)) here) ∙ carried (sym e ∙ q);
        }
      where
        go : (self : List ℕ) → (length self ≡ 0 → ⊥) → lower_word names Aside (get_or self 0 0) (fresh names) ≡ Err j
            → lower_self names (receiver_of self) ≡ Err j
        go [] h e = absurd (h refl)
        go (x ∷ self) h e = rw e

    pub receiver_given : {w : Worded} → Ok w ≡ worded (lower_word names Aside (get_or self 0 0) k.seen)
        → {shows : ℕ} → shows ≡ shown w.lifetime → {slice slice₁ : List ℕ} → slice₁ ≡ set slice 0 shows
        → Lowers (lower_self names (receiver_of self)) 0 slice slice₁
        (record {
          seen = record { source = SelfParam w.lifetime; count = w.seen.count };
          kept = k.kept;
          own = k.own;
          list = k.list;
        }) (Ok 1)
    unfolding self_ref unused
    receiver_given {w} v sh put =
        let after : Seen = record { source = SelfParam w.lifetime; count = w.seen.count } in
        let here : Ok w ≡ worded (lower_word names Aside (get_or self 0 0) (fresh names)) = rw saw at v in
        let one =
        accepted_word (lower_word names Aside (get_or self 0 0) (fresh names)) here
        (single_word names Aside (get_or self 0 0) (fresh names)) in
        record {
          accepted = λ m q. record {
            it = advanced (w.lifetime ∷ []) (bare after);
            is = go self h one;
            shows = bare_shown after off full refl;
            count = sym (same_given q);
            stored = rw (put, sh);
          };
          refused = λ j q. both (sym q);
        }
      where
        go : (self : List ℕ) → (length self ≡ 0 → ⊥)
            → lower_word names Aside (get_or self 0 0) (fresh names) ≡ Ok (advanced (w.lifetime ∷ []) w.seen)
            → lower_self names (receiver_of self)
            ≡ Ok
            (advanced (w.lifetime ∷ []) (bare (record { source = SelfParam w.lifetime; count = w.seen.count })))
        go [] h e = absurd (h refl)
        go (x ∷ self) h e = rw e

-- ---- the three records

all_refused : {o : Outcome Method} {k : Refusal} {own given taken own₁ given₁ taken₁ : List ℕ} {t : Outcome Totals}
    → o ≡ Err k → t ≡ Err k → RunsAll o own given taken own₁ given₁ taken₁ t
all_refused e h = record {
  answers = rw (e, h);
  self = λ m q. both (sym e ∙ q);
  steps = λ m q. both (sym e ∙ q);
  returns = λ m q. both (sym e ∙ q);
}

same : {a b c d a₁ b₁ c₁ d₁ : ℕ} → a ≡ a₁ → b ≡ b₁ → c ≡ c₁ → d ≡ d₁
    → ◌≡◌ {A = Outcome Totals} (Ok (record { selves = a; steps = b; returns = c; count = d }))
    (Ok (record { selves = a₁; steps = b₁; returns = c₁; count = d₁ }))
same p q r t = rw (p, q, r, t)

given_all : (names : List ℕ) (self : Receiver) (steps returns : List Step) (a b c : Advanced Lowerer)
    → lower_self names self ≡ Ok a → run_steps names false steps a.left ≡ Ok b
    → run_steps names true returns b.left ≡ Ok c
    → run_method names self steps returns
    ≡ Ok (record { self = a.given; steps = b.given; returns = c.given; count = c.left.seen.count })
unfolding run_method
given_all names self steps returns a b c p q r = rw (p, q, r)

-- how many words a record gave
counted : {o : Outcome (Advanced Lowerer)} {slice slice₁ : List ℕ} {k : SmallLowerer} {m : ℕ}
    (g : Given o 0 slice slice₁ k m) → m ≡ length g.it.given
counted g = g.count ∙ zero-add (length g.it.given)

module _ (names : List ℕ) (self : Receiver) (steps returns : List Step) {own own₁ : List ℕ} {k₁ : SmallLowerer} where
  pub all_first : {j : Refusal} {given taken given₁ taken₁ : List ℕ} {t : Outcome Totals}
      → Lowers (lower_self names self) 0 own own₁ k₁ (Err j) → t ≡ Err j
      → RunsAll (run_method names self steps returns) own given taken own₁ given₁ taken₁ t
  unfolding run_method
  all_first {j = j} first h = all_refused (rw (first.refused j refl)) h

  module _ {m₁ : ℕ} (first : Lowers (lower_self names self) 0 own own₁ k₁ (Ok m₁)) where
    one : Given (lower_self names self) 0 own own₁ k₁ m₁
    one = first.accepted m₁ refl

    pub all_second : {j : Refusal} {given given₁ : List ℕ} {k₂ : SmallLowerer} {taken taken₁ : List ℕ} {t : Outcome Totals}
        → ((s : Lowerer) → Shows s k₁ → Lowers (run_steps names false steps s) 0 given given₁ k₂ (Err j)) → t ≡ Err j
        → RunsAll (run_method names self steps returns) own given taken own₁ given₁ taken₁ t
    unfolding run_method
    all_second {j} second h = all_refused (rw (one.is, (second one.it.left one.shows).refused j refl)) h

    module _ {given given₁ : List ℕ} {k₂ : SmallLowerer} {m₂ : ℕ}
        (second : (s : Lowerer) → Shows s k₁ → Lowers (run_steps names false steps s) 0 given given₁ k₂ (Ok m₂)) where
      two : Given (run_steps names false steps one.it.left) 0 given given₁ k₂ m₂
      two = (second one.it.left one.shows).accepted m₂ refl

      pub all_third : {j : Refusal} {taken taken₁ : List ℕ} {k₃ : SmallLowerer} {t : Outcome Totals}
          → ((s : Lowerer) → Shows s k₂ → Lowers (run_steps names true returns s) 0 taken taken₁ k₃ (Err j)) → t ≡ Err j
          → RunsAll (run_method names self steps returns) own given taken own₁ given₁ taken₁ t
      unfolding run_method
      all_third {j} third h =
          all_refused (rw (one.is, two.is, (third two.it.left two.shows).refused j refl)) h

      pub all_given : {m₃ : ℕ} {taken taken₁ : List ℕ} {k₃ : SmallLowerer}
          → ((s : Lowerer) → Shows s k₂ → Lowers (run_steps names true returns s) 0 taken taken₁ k₃ (Ok m₃))
          → RunsAll (run_method names self steps returns) own given taken own₁ given₁ taken₁
          (Ok (record { selves = m₁; steps = m₂; returns = m₃; count = k₃.seen.count }))
      all_given {m₃} third =
          let three = (third two.it.left two.shows).accepted m₃ refl in
          let whole : Method =
          record {
            self = one.it.given;
            steps = two.it.given;
            returns = three.it.given;
            count = three.it.left.seen.count;
          } in
          let is : run_method names self steps returns ≡ Ok whole =
          given_all names self steps returns one.it two.it three.it one.is two.is three.is in
          record {
            answers =
                same (counted one) (counted two) (counted three) (sym (ap (λ (x : Seen). x.count) three.shows.saw))
                ∙ sym (ap totals is);
            self = λ m q. rw (← same_given (sym is ∙ q)) one.stored;
            steps = λ m q. rw (← same_given (sym is ∙ q)) two.stored;
            returns = λ m q. rw (← same_given (sym is ∙ q)) three.stored;
          }
