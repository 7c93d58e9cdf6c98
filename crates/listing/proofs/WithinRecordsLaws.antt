-- Ten records that were read, listed stage by stage: the first refusal due is that of the stage which refuses them; if none
-- is, the method that the stages leave is listed as the records are.
use Rattle.std.specs.Prelude.{Ok, Err, Some, None, Option}
use Prim.Native.Nat.{ℕ, ◌-◌, ◌/◌, ◌≤◌, ◌<◌}
use mathlib.Core.Bool.{true}
use mathlib.Core.Path.{◌≡◌, refl, sym, ap, subst, ◌∙◌}
use mathlib.Core.List.Memᴰ
use mathlib.Core.List.{List, [], ◌∷◌, ◌++◌}
use native.Mathlib.Nat.{sub-zero, div-add-mod', mod-lt}
use native.Mathlib.Omega.{arith}
use borrow.Author.Tests.{le-ltb, not-false}
use lib.Dec.{ltb}
use lib.ListN.{length, take, drop, length-append, length-map}
use lib.Seq.{take-append_seam}
use Rattle.answers.specs.declared.Refusal.{Refusal}
use Rattle.answers.specs.declared.Refusal.TheVariants.{NoRoom}
use Rattle.lifetimes.specs.declared.env.LifetimeEnv.{LifetimeEnv}
use Rattle.answers.specs.Refusals.{Check, check, Outcome, unless, FirstDue, NoneDue, next, end}
use Rattle.answers.specs.Lent.{written}
use Rattle.lifetimes.specs.LoweredWords.{word_of}
use Rattle.answers.proofs.RefusalLaws.{due_given, given_due, refused_due, due_refused, first_more, none_first}
use Rattle.answers.proofs.VerdictLaws.{unless_after}
use Rattle.ast_lifetimes.specs.declared.env.LifetimeEnv as ast-env
use Rattle.ast_lifetimes.specs.Env as ast
use Rattle.elision.specs.declared.method.Lowering.{Lowering}
use Rattle.elision.specs.Steps.{receiver_of}
use Rattle.elision.specs.Rfc as rfc
use Rattle.elision.specs.Lowering.{words, lowered_records, measure_checks, lowering_room_checks, measure_records, lower_records, answered, finished}
use Rattle.elision.specs.Lowering.{own_words, step_words, return_words}
use Rattle.elision.proofs.SizeLaws.{lowered_self_lem, lowered_steps_lem, lowered_returns_lem}
use Rattle.methods.specs.Used.{used_set, output_numbers}
use Rattle.methods.specs.Method.{method_checks}
use Rattle.lifetimes.specs.Sets.{set_of}
use Rattle.text.specs.Decimal.{line}
use Rattle.records.specs.Reading.{most_words}
use Rattle.sheet.specs.Text.{Records}
use Rattle.sheet.specs.Shape.{sheet_in_shape, records_checks}
use Rattle.sheet.proofs.Theorems.{shapes_are_short}
use Rattle.borrowing_param.specs.SheetMethod.{lowered_of, ast_env_of, env_of_sheet, lowering_checks}
use Rattle.borrowing_param.specs.Borrows.{Borrows, sheet_borrows}
use Rattle.borrowing_param.proofs.NewLaws.{used_below, env_none}
use Rattle.borrowing_param.proofs.OutcomeLaws.{ok_same}
use Rattle.borrowing_param.proofs.Condition3Laws.{params_none}
use Rattle.borrowing_param.proofs.MethodLaws.{names_first, ast_is, names_are, steps_first, env_is, measure_none}
use Rattle.borrowing_param.proofs.MethodLaws.{method_first, method_none}
use Rattle.listing.specs.Listing.{count_lines, lowered_heading, longer_lines, answer_lines, edge_lines, most_edges}
use Rattle.listing.specs.Listing.{room_bytes, edges_check, listing_of}
use Rattle.listing.specs.InnerListing.{ListsTo, ListsWithin, Ample, listed_records, method_borrows, method_listing}
use Rattle.listing.specs.InnerListing.{listed_method, Listable, per_word, lowered_room, lists_room, edges_room}
use Rattle.listing.proofs.RoomLaws.{listing_short}

-- checks at the end of which none is due
unless_before : {A : Type 0} (a : A) (checks : List Check) {more : List Check} → NoneDue more
    → unless (checks ++ more) a ≡ unless checks a
unfolding unless
unless_before a [] n = due_given a n
unless_before a (c ∷ cs) n = rw (unless_before a cs n)

abbrev text_by : LifetimeEnv → Borrows → List ℕ → List ℕ → List ℕ → List ℕ
text_by env b own given taken =
    count_lines env.count b
    ++ ((lowered_heading ++ (line own ++ (line given ++ line taken)))
    ++ (longer_lines env
    ++ (answer_lines b.answers
    ++ edge_lines b.edges)))

refuses : (r : Records) {k : Refusal} {out : List ℕ} → FirstDue k (lowering_checks r)
    → ListsTo (listed_records r) out (Err k) out
refuses r f = (due_refused (listing_of r) (first_more (edges_check r ∷ []) f), refl)

module _ (r : Records) (first : NoneDue (records_checks r)) (given taken : ℕ) where
  shape : sheet_in_shape r ≡ true
  shape = not-false (sheet_in_shape r) (none_first first)

  -- scratch for the lowered words
  steps_long : length r.steps ≤ most_words
  steps_long =
      shapes_are_short r shape r.steps
      (Memᴰ.tail (Memᴰ.tail (Memᴰ.tail (Memᴰ.tail (Memᴰ.head refl)))))

  returns_long : length r.returns ≤ most_words
  returns_long =
      shapes_are_short r shape r.returns
      (Memᴰ.tail (Memᴰ.tail (Memᴰ.tail (Memᴰ.tail (Memᴰ.tail (Memᴰ.head refl))))))

  eighth : {room n : ℕ} → room / per_word < n → n ≤ most_words → lowered_room ≤ room → ⊥
  eighth {room} {n} h k a = omega (arith, h, k, a, div-add-mod' room per_word, mod-lt room {m = per_word} (omega arith))

  pub steps_short : {lists edges : ℕ} {out : List ℕ} → given / per_word < length r.steps
      → ListsWithin (listed_records r) (Ample given taken lists edges) out (Ok None) out
  steps_short h = (λ a. eighth h steps_long a.0, refl)

  pub returns_short : {lists edges : ℕ} {out : List ℕ} → taken / per_word < length r.returns
      → ListsWithin (listed_records r) (Ample given taken lists edges) out (Ok None) out
  returns_short h = (λ a. eighth h returns_long a.1, refl)

  module _ (steps_room : length r.steps ≤ given / per_word) (returns_room : length r.returns ≤ taken / per_word)
      {a : Outcome ast-env.LifetimeEnv} (is : a ≡ ast.from_method_item r.names r.bounds r.types) where
    pub names_listed : {k : Refusal} {out : List ℕ} → a ≡ Err k → ListsTo (listed_records r) out (Err k) out
    names_listed v = refuses r (names_first r first is v)

    module _ {e : ast-env.LifetimeEnv} (fine : a ≡ Ok e) where
      abbrev lowered : Outcome rfc.Method
      lowered = lower_records e r.self r.steps r.returns 1 given taken

      -- with so much room `lower` refuses as `measure` does
      room_none : NoneDue (lowering_room_checks (lowered_records e r.self r.steps r.returns) 1 given taken)
      room_none =
          let m = lowered_records e r.self r.steps r.returns in
          let names = ast.names_of e in
          let self = receiver_of r.self in
          next (le-ltb 1 (length (words m.self)) (omega (arith, lowered_self_lem names self, length-map m.self word_of)))
          (next (le-ltb given (length (words m.steps))
          (omega (
            arith,
            lowered_steps_lem names self r.steps,
            length-map m.steps word_of,
            steps_room,
            div-add-mod' given per_word,
          )))
          (next (le-ltb taken (length (words m.returns))
          (omega (
            arith,
            lowered_returns_lem names self r.steps r.returns,
            length-map m.returns word_of,
            returns_room,
            div-add-mod' taken per_word,
          ))) end))

      lower_measures : lowered ≡ measure_records e r.self r.steps r.returns
      unfolding lower_records measure_records
      lower_measures =
          unless_before (lowered_records e r.self r.steps r.returns)
          (measure_checks e r.self r.steps r.returns) room_none

      module _ {l : Outcome Lowering} (lowers : l ≡ answered e lowered) where
        measures : l ≡ answered e (measure_records e r.self r.steps r.returns)
        measures = lowers ∙ ap (answered e) lower_measures

        pub steps_listed : {k : Refusal} {out : List ℕ} → l ≡ Err k → ListsTo (listed_records r) out (Err k) out
        steps_listed v = refuses r (steps_first r first is fine measures v)

-- What the stages have left when the records are lowered: what `from_method_item` gave, and what `lower` gave and wrote
-- to three slices
pub record Elided (r : Records) (own given taken : List ℕ) (e : ast-env.LifetimeEnv) (low : Lowering)
    (own₁ given₁ taken₁ : List ℕ) : Type 0 where
  pub first : NoneDue (records_checks r)
  pub steps_room : length r.steps ≤ length given / per_word
  pub returns_room : length r.returns ≤ length taken / per_word
  pub names : Ok e ≡ ast.from_method_item r.names r.bounds r.types
  pub lowers : Ok low ≡ answered e (lower_records e r.self r.steps r.returns 1 (length given) (length taken))
  pub own_written : own₁
      ≡ written (own_words (lower_records e r.self r.steps r.returns 1 (length given) (length taken))) own
  pub steps_written : given₁
      ≡ written (step_words (lower_records e r.self r.steps r.returns 1 (length given) (length taken)))
      given
  pub returns_written : taken₁
      ≡ written (return_words (lower_records e r.self r.steps r.returns 1 (length given) (length taken)))
      taken

module _ {r : Records} {own given taken : List ℕ} {e : ast-env.LifetimeEnv} {low : Lowering} {own₁ given₁ taken₁ : List ℕ}
    (h : Elided r own given taken e low own₁ given₁ taken₁) where
  abbrev lowering : Outcome rfc.Method
  lowering = lower_records e r.self r.steps r.returns 1 (length given) (length taken)

  measured : ◌≡◌ {A = Outcome Lowering} (Ok low) (answered e (measure_records e r.self r.steps r.returns))
  measured = measures r h.first (length given) (length taken) h.steps_room h.returns_room h.names refl h.lowers

  -- what stands in the scratch
  lowered_is : lowering ≡ Ok (lowered_of r)
  unfolding measure_records
  lowered_is =
      lower_measures r h.first (length given) (length taken) h.steps_room h.returns_room h.names refl
      ∙ ap (λ (x : ast-env.LifetimeEnv). measure_records x r.self r.steps r.returns) (ast_is r h.first h.names refl)
      ∙ due_given (lowered_records (ast_env_of r) r.self r.steps r.returns)
      (measure_none r h.first h.names refl measured refl)
      ∙ rw (names_are r h.first h.names refl)

  low_is : low ≡ record {
    selves = length (words (lowered_of r).self);
    steps = length (words (lowered_of r).steps);
    returns = length (words (lowered_of r).returns);
    env = finished e (lowered_of r).count;
  }
  low_is = ok_same (h.lowers ∙ ap (answered e) lowered_is)

  stands : (f : Outcome rfc.Method → Outcome (List ℕ)) (ws : List ℕ) → f (Ok (lowered_of r)) ≡ Ok ws → {n : ℕ}
      → n ≡ length ws → (slice : List ℕ) {slice₁ : List ℕ} → slice₁ ≡ written (f lowering) slice
      → (n ≤ length slice₁) × (take (n - 0) (drop 0 slice₁) ≡ ws)
  stands f ws e {n} size slice {slice₁} wrote =
      let is_there : slice₁ ≡ ws ++ drop (length ws) slice =
      wrote ∙ ap (λ (o : Outcome rfc.Method). written (f o) slice) lowered_is
      ∙ ap (λ (o : Outcome (List ℕ)). written o slice) e in
      (rw (size, is_there, length-append) (omega arith), rw (sub-zero, size, is_there) (take-append_seam ws (drop (length ws) slice)))

  pub own_stands : (low.selves ≤ length own₁) × (take (low.selves - 0) (drop 0 own₁) ≡ words (lowered_of r).self)
  own_stands = stands own_words (words (lowered_of r).self) refl (ap (λ (x : Lowering). x.selves) low_is) own h.own_written

  pub steps_stand : (low.steps ≤ length given₁) × (take (low.steps - 0) (drop 0 given₁) ≡ words (lowered_of r).steps)
  steps_stand = stands step_words (words (lowered_of r).steps) refl (ap (λ (x : Lowering). x.steps) low_is) given
      h.steps_written

  pub returns_stand : (low.returns ≤ length taken₁)
      × (take (low.returns - 0) (drop 0 taken₁) ≡ words (lowered_of r).returns)
  returns_stand = stands return_words (words (lowered_of r).returns) refl (ap (λ (x : Lowering). x.returns) low_is)
      taken h.returns_written

  abbrev method : List Check
  method = method_checks low.env r.structs r.params r.output r.force

  -- the used lifetimes
  pub used_listed : {k : Refusal} {out : List ℕ} → Err k ≡ used_set low.env r.structs r.params r.output r.force
      → ListsTo (listed_records r) out (Err k) out
  unfolding used_set
  used_listed {k} u =
      refuses r (method_first r h.first h.names refl measured refl (refused_due _ k method (sym u)))

  module _ {used : ℕ} (gives : Ok used ≡ used_set low.env r.structs r.params r.output r.force) where
    -- the lowered words, as the parts of the scratch that are handed on
    abbrev selves : List ℕ
    selves = take (low.selves - 0) (drop 0 own₁)

    abbrev inputs : List ℕ
    inputs = take (low.steps - 0) (drop 0 given₁)

    abbrev outputs : List ℕ
    outputs = take (low.returns - 0) (drop 0 taken₁)

    accepted : NoneDue method × (set_of (output_numbers r.structs r.output) ≡ used)
    unfolding used_set
    accepted = given_due _ used method (sym gives)

    none : NoneDue (lowering_checks r)
    none = method_none r h.first h.names refl measured refl accepted.0

    the_env : low.env ≡ env_of_sheet r
    the_env = env_is r h.first h.names refl measured refl

    borrows_are : sheet_borrows r ≡ method_borrows low.env used r.structs r.params
    borrows_are = rw (accepted.1, the_env)

    text_is : listing_of r ≡ method_listing low.env used r.structs r.params selves inputs outputs
    unfolding listing_of method_listing
    text_is =
        ap (λ (b : Borrows). text_by (env_of_sheet r) b (words (lowered_of r).self) (words (lowered_of r).steps)
        (words (lowered_of r).returns)) borrows_are
        ∙ ap (λ (x : LifetimeEnv). text_by x (method_borrows low.env used r.structs r.params)
        (words (lowered_of r).self) (words (lowered_of r).steps) (words (lowered_of r).returns)) (sym the_env)
        ∙ rw (own_stands.1, steps_stand.1, returns_stand.1)

    pub listable : Listable low.env used r.structs r.params selves inputs outputs
    listable = record {
      valid = env_none low.env r.structs r.params r.output r.force accepted.0;
      of = params_none low.env r.structs r.params r.output r.force accepted.0;
      below = used_below low.env r.structs r.params r.output r.force accepted.0 used (sym gives);
      short = λ few. subst (λ (t : List ℕ). length t ≤ room_bytes) text_is
          (listing_short r h.first none
          (subst (λ (b : Borrows). length b.edges ≤ most_edges) (sym borrows_are) few));
    }

    pub records_listed : (lists edges : ℕ) (w : Outcome (Option ℕ)) (out out₁ : List ℕ)
        → ListsWithin (listed_method low.env used r.structs r.params selves inputs outputs)
        ((lists_room ≤ lists) × (edges_room ≤ edges)) out w out₁
        → ListsWithin (listed_records r) (Ample (length given) (length taken) lists edges) out w out₁
    unfolding listed_method
    records_listed lists edges w out out₁ h = go w h
      where
        same : listed_method low.env used r.structs r.params selves inputs outputs ≡ listed_records r
        same =
            ap (λ (b : Borrows). unless (check (ltb most_edges (length b.edges)) NoRoom ∷ [])
            (method_listing low.env used r.structs r.params selves inputs outputs)) (sym borrows_are)
            ∙ ap (λ (t : List ℕ). unless (edges_check r ∷ []) t) (sym text_is)
            ∙ sym (unless_after (listing_of r) (edges_check r ∷ []) none)

        go : (w : Outcome (Option ℕ))
            → ListsWithin (listed_method low.env used r.structs r.params selves inputs outputs)
            ((lists_room ≤ lists) × (edges_room ≤ edges)) out w out₁
            → ListsWithin (listed_records r) (Ample (length given) (length taken) lists edges) out w out₁
        go (Ok (Some n)) h = subst (λ (o : Outcome (List ℕ)). ListsTo o out (Ok n) out₁) same h
        go (Ok None) h = (λ a. h.0 (a.2, a.3), h.1)
        go (Err k) h = subst (λ (o : Outcome (List ℕ)). ListsTo o out (Err k) out₁) same h
