-- What `measure` and `lower` answer and write, by what their tests and calls show.
use Rattle.std.specs.Prelude.{Ok, Err}
use Prim.Native.Nat.{ℕ, ◌-◌, ◌≤◌, ◌<◌}
use mathlib.Core.Bool.{Bool, true, false, not, and-eq-true_iff}
use mathlib.Core.Logic.{◌⊎◌, inl, inr}
use mathlib.Core.Path.{◌≡◌, refl, sym, ap, subst, ◌∙◌}
use mathlib.Core.List.{List, ◌++◌, map}
use native.Mathlib.Nat.{sub-zero}
use native.Mathlib.Omega.{arith}
use borrow.Author.Tests.{lt-ltb, le-ltb, ltb-false}
use lib.ListN.{length, take, drop, length-map}
use lib.Seq.{sets, length-take-le}
use Rattle.answers.specs.declared.Refusal.{Refusal}
use Rattle.answers.specs.declared.Refusal.TheVariants.{Malformed, NoRoom}
use Rattle.elision.specs.Rfc.{MethodLifetime}
use Rattle.answers.specs.Refusals.{Check, check, Outcome, unless, FirstDue, NoneDue, here, later}
use Rattle.answers.specs.Refusals.{next, end}
use Rattle.answers.specs.Lent.{room_check, judged, Slice, held, left, room, Stays}
use Rattle.lifetimes.specs.LoweredWords.{word_of}
use Rattle.lifetimes.specs.Env as hirenv
use Rattle.lifetimes.specs.declared.env.LifetimeEnv as environment
use Rattle.answers.proofs.RefusalLaws.{refused_first, accepted_none, due_given, due_refused, refused_due, given_due}
use Rattle.answers.proofs.RefusalLaws.{none_first, none_rest, none_split, first_more, first_after, none_more}
use Rattle.answers.proofs.Copying.{sets_front}
use Rattle.records.specs.Reading.{shape_verdict}
use Rattle.ast_lifetimes.specs.declared.env.LifetimeEnv as ast
use Rattle.ast_lifetimes.specs.Env.{names_of, env_checks}
use Rattle.elision.specs.declared.method.Lowering.{Lowering}
use Rattle.elision.specs.declared.method.Totals.{Totals}
use Rattle.elision.specs.Steps.{self_in_shape, steps_in_shape, steps_of, receiver_of}
use Rattle.elision.specs.Rfc.{Method, elision_checks, rfc141}
use Rattle.elision.specs.Machine.{run_method}
use Rattle.elision.specs.Lowering.{words, lowered_records, in_shape_all, measure_checks, lowering_room_checks, lower_checks}
use Rattle.elision.specs.Lowering.{measure_records, finished, finish_env, lower_records, answered, LowersTo}
use Rattle.elision.specs.Inner.{shown, totals, RunsAll}
use Rattle.elision.proofs.RfcLaws.{method_said}
use Rattle.elision.proofs.ShapeLaws.{shape_in, shape_out}
use Rattle.elision.proofs.SmallLaws.{AllSmall, small_words, SmallMethod, method_small}
use Rattle.elision.proofs.OutcomeLaws.{both, same_given, over_refused, over_given}

not_false : (b : Bool) → not b ≡ false → b ≡ true
not_false true h = refl
not_false false h = sym h

all_shaped : (self steps returns : List ℕ) → in_shape_all self steps returns ≡ true → (steps_in_shape steps ≡ true)
    × (steps_in_shape returns ≡ true)
all_shaped self steps returns h =
    (and-eq-true_iff (steps_in_shape steps) _).0 ((and-eq-true_iff (self_in_shape self) _).0 h).1

-- ---- `measure`

module _ (e : ast.LifetimeEnv) (self steps returns : List ℕ) where
  measure_due : {r : Refusal} → FirstDue r (measure_checks e self steps returns)
      → Err r ≡ answered e (measure_records e self steps returns)
  unfolding measure_records
  measure_due f = rw (due_refused (lowered_records e self steps returns) f)

  pub measure_shape : {r : Refusal} → Err r ≡ shape_verdict (in_shape_all self steps returns)
      → Err r ≡ answered e (measure_records e self steps returns)
  measure_shape v =
      let p = shape_out (in_shape_all self steps returns) v in
      measure_due (here {c = check (not (in_shape_all self steps returns)) Malformed} (rw p.0) (sym p.1))

-- the records are in shape
pub record Shaped (e : ast.LifetimeEnv) (self steps returns : List ℕ) : Type 0 where
  pub shape : in_shape_all self steps returns ≡ true

pub shape_told : (e : ast.LifetimeEnv) (self steps returns : List ℕ)
    → Ok (tt {0}) ≡ shape_verdict (in_shape_all self steps returns) → Shaped e self steps returns
shape_told e self steps returns v = record { shape = shape_in (in_shape_all self steps returns) v }

module _ {e : ast.LifetimeEnv} {self steps returns : List ℕ} (h : Shaped e self steps returns) where
  shape_not : not (in_shape_all self steps returns) ≡ false
  shape_not = rw h.shape

  pub measure_env : {r : Refusal} → Err r ≡ judged (env_checks e)
      → Err r ≡ answered e (measure_records e self steps returns)
  measure_env {r} v =
      measure_due e self steps returns (later shape_not (first_more _ (refused_first (tt {0}) r (env_checks e) (sym v))))

-- the records are in shape, and the environment is valid
pub record Valid (e : ast.LifetimeEnv) (self steps returns : List ℕ) : Type 0 where
  pub shaped : Shaped e self steps returns
  pub none : NoneDue (env_checks e)

pub valid_told : {e : ast.LifetimeEnv} {self steps returns : List ℕ} → Shaped e self steps returns
    → Ok (tt {0}) ≡ judged (env_checks e) → Valid e self steps returns
valid_told {e} h v = record { shaped = h; none = accepted_none (tt {0}) (env_checks e) (sym v) }

module _ {e : ast.LifetimeEnv} {self steps returns : List ℕ} (h : Valid e self steps returns) where
  abbrev records : Method
  records = lowered_records e self steps returns

  abbrev checks : List Check
  checks = elision_checks (names_of e) (receiver_of self) (steps_of steps) (steps_of returns)

  abbrev run : Outcome Method
  run = run_method (names_of e) (receiver_of self) (steps_of steps) (steps_of returns)

  said : run ≡ unless checks records
  unfolding rfc141
  said = method_said (names_of e) (receiver_of self) (steps_of steps) (steps_of returns)

  -- the names as they are lent are those of the environment
  abbrev lent : Outcome Method
  lent = run_method (take (e.named - 0) (drop 0 e.names)) (receiver_of self) (steps_of steps) (steps_of returns)

  lent_run : lent ≡ run
  lent_run = rw sub-zero

  pub measure_refused : {r : Refusal} → Err r ≡ totals lent → Err r ≡ answered e (measure_records e self steps returns)
  measure_refused {r} v =
      let f = refused_due records r checks (sym said ∙ over_refused _ run (v ∙ ap totals lent_run)) in
      measure_due e self steps returns (later (shape_not h.shaped) (first_after h.none f))

  module _ {t : Totals} (counts : Ok t ≡ totals lent) where
    given_run : (m : Method) × ((run ≡ Ok m) × (Ok t ≡ totals (Ok m)))
    given_run = let g = over_given _ run (counts ∙ ap totals lent_run) in
        (g.0, (g.1.0, counts ∙ ap totals lent_run ∙ ap totals g.1.0))

    passed : NoneDue checks × (records ≡ given_run.0)
    passed = given_due records given_run.0 checks (sym said ∙ given_run.1.0)

    told : Ok t ≡ totals (Ok records)
    told = given_run.1.1 ∙ ap (λ (m : Method). totals (Ok m)) (sym passed.1)

    pub measure_all : {made : environment.LifetimeEnv} → made ≡ finished e t.count → Ok (record {
      selves = t.selves;
      steps = t.steps;
      returns = t.returns;
      env = made;
    }) ≡ answered e (measure_records e self steps returns)
    unfolding measure_records
    measure_all is =
        let due : NoneDue (measure_checks e self steps returns) = next (shape_not h.shaped) (none_more h.none passed.0) in
        rw (
          is,
          due_given records due,
          same_given told,
          length-map records.self word_of,
          length-map records.steps word_of,
          length-map records.returns word_of,
        )

-- ---- `lower`

module _ (e : ast.LifetimeEnv) (self steps returns : List ℕ) (own given taken : Slice) where
  abbrev whole : Outcome Method
  whole = lower_records e self steps returns (room own) (room given) (room taken)

  refused_answers : {r : Refusal} {x : Outcome Lowering} → x ≡ Err r
      → FirstDue r (lower_checks e self steps returns (room own) (room given) (room taken))
      → Stays own → Stays given → Stays taken → LowersTo e whole x own given taken
  unfolding lower_records
  refused_answers h due a b c =
      let q = due_refused (lowered_records e self steps returns) due in
      record { answer = rw q h; own_filled = rw q a; given_filled = rw q b; taken_filled = rw q c }

  pub lower_refused : {r : Refusal} → Err r ≡ answered e (measure_records e self steps returns) → {x : Outcome Lowering}
      → x ≡ Err r → Stays own → Stays given → Stays taken → LowersTo e whole x own given taken
  unfolding measure_records
  lower_refused {r} v h =
      refused_answers h
      (first_more _
      (refused_due (lowered_records e self steps returns) r (measure_checks e self steps returns)
      (over_refused _ (measure_records e self steps returns) v)))

-- what `measure` leaves where it accepts
pub record Measured (e : ast.LifetimeEnv) (self steps returns : List ℕ) (m : Lowering) : Type 0 where
  pub none : NoneDue (measure_checks e self steps returns)
  pub is : Ok m ≡ answered e (Ok (lowered_records e self steps returns))

pub measures : (e : ast.LifetimeEnv) (self steps returns : List ℕ) {m : Lowering}
    → Ok m ≡ answered e (measure_records e self steps returns) → Measured e self steps returns m
unfolding measure_records
measures e self steps returns counted =
    let g = over_given _ (measure_records e self steps returns) counted in
    let d = given_due (lowered_records e self steps returns) g.0 (measure_checks e self steps returns) g.1.0 in
    record {
      none = d.0;
      is = counted ∙ ap (λ (o : Outcome Method). answered e o) (g.1.0 ∙ ap (λ (m : Method). Ok m) (sym d.1));
    }

-- whether words have room, by how many they are
fits : {room n : ℕ} (ws : List ℕ) → length ws ≡ n → n ≤ room → (room_check room ws).due ≡ false
fits {room} ws size h = le-ltb room (length ws) (omega (arith, size))

lacks : {room n : ℕ} (ws : List ℕ) → length ws ≡ n → room < n → (room_check room ws).due ≡ true
lacks {room} ws size h = lt-ltb room (length ws) (omega (arith, size))

module _ {e : ast.LifetimeEnv} {self steps returns : List ℕ} {m : Lowering} (h : Measured e self steps returns m) where
  abbrev method : Method
  method = lowered_records e self steps returns

  selves : length (words method.self) ≡ m.selves
  selves = sym (ap (λ (x : Lowering). x.selves) (same_given h.is))

  stepped : length (words method.steps) ≡ m.steps
  stepped = sym (ap (λ (x : Lowering). x.steps) (same_given h.is))

  returned : length (words method.returns) ≡ m.returns
  returned = sym (ap (λ (x : Lowering). x.returns) (same_given h.is))

  pub lower_shaped : (steps_in_shape steps ≡ true) × (steps_in_shape returns ≡ true)
  lower_shaped = all_shaped self steps returns (not_false (in_shape_all self steps returns) (none_first h.none))

  parted : NoneDue (env_checks e) × NoneDue (elision_checks (names_of e) (receiver_of self) (steps_of steps) (steps_of returns))
  parted = none_split (env_checks e) (elision_checks (names_of e) (receiver_of self) (steps_of steps) (steps_of returns))
      (none_rest h.none)

  pub lower_named : e.named ≤ 32
  lower_named = ltb-false 32 e.named (none_first parted.0)

  is : run_method (names_of e) (receiver_of self) (steps_of steps) (steps_of returns) ≡ Ok method
  unfolding rfc141
  is = method_said (names_of e) (receiver_of self) (steps_of steps) (steps_of returns) ∙ due_given method parted.1

  -- the records are lowered once more, and what they gave when they were measured they give again
  pub lower_again : {A : Type 0} {own given taken own₁ given₁ taken₁ : List ℕ} {t : Outcome Totals} {k : Refusal}
      → RunsAll (run_method (take (e.named - 0) (drop 0 e.names)) (receiver_of self) (steps_of steps) (steps_of returns))
      own given taken own₁ given₁ taken₁ t
      → t ≡ Err k → A
  lower_again lays v =
      both
      (sym v ∙ lays.answers
      ∙ ap (λ (ns : List ℕ). totals (run_method ns (receiver_of self) (steps_of steps) (steps_of returns)))
      (ap (λ (n : ℕ). take n e.names) (sub-zero e.named))
      ∙ ap totals is)

  module _ {own given taken : Slice} {x : Outcome Lowering} where
    no_room : x ≡ Err NoRoom → FirstDue NoRoom (lowering_room_checks method (room own) (room given) (room taken))
        → Stays own → Stays given → Stays taken
        → LowersTo e (whole e self steps returns own given taken) x own given taken
    no_room n f = refused_answers e self steps returns own given taken n (first_after h.none f)

    -- one of the slices is too short
    pub lower_short : (room own < m.selves)
        ⊎ (((m.selves ≤ room own) × (room given < m.steps))
        ⊎ ((m.selves ≤ room own) × (m.steps ≤ room given) × (room taken < m.returns))) → x ≡ Err NoRoom
        → Stays own → Stays given → Stays taken
        → LowersTo e (whole e self steps returns own given taken) x own given taken
    lower_short (inl l) n = no_room n (here (lacks (words method.self) selves l) refl)
    lower_short (inr (inl h)) n =
        no_room n
        (later (fits (words method.self) selves h.0) (here (lacks (words method.steps) stepped h.1) refl))
    lower_short (inr (inr h)) n =
        no_room n
        (later (fits (words method.self) selves h.0)
        (later (fits (words method.steps) stepped h.1) (here (lacks (words method.returns) returned h.2) refl)))

  module _ (own given taken : Slice) {t : Outcome Totals} (room₁ : m.selves ≤ room own) (room₂ : m.steps ≤ room given)
      (room₃ : m.returns ≤ room taken) (full : length e.names ≡ 32)
      (lays : RunsAll
      (run_method (take (e.named - 0) (drop 0 e.names)) (receiver_of self) (steps_of steps) (steps_of returns))
      (held own) (held given) (held taken) (left own) (left given) (left taken) t) where
    stores : RunsAll (run_method (names_of e) (receiver_of self) (steps_of steps) (steps_of returns)) (held own) (held given)
        (held taken) (left own) (left given) (left taken) t
    stores = subst
        (λ (ns : List ℕ). RunsAll (run_method ns (receiver_of self) (steps_of steps) (steps_of returns)) (held own)
        (held given) (held taken) (left own) (left given) (left taken) t) (rw sub-zero) lays

    all : whole e self steps returns own given taken ≡ Ok method
    unfolding lower_records
    all =
        let rooms : NoneDue (lowering_room_checks method (room own) (room given) (room taken)) =
        next (fits (words method.self) selves room₁)
        (next (fits (words method.steps) stepped room₂)
        (next (fits (words method.returns) returned room₃) end)) in
        due_given method (none_more h.none rooms)

    few : length (names_of e) ≤ 32
    few = omega (arith, lower_named, length-take-le e.named e.names (omega (arith, lower_named)))

    small : AllSmall method.self × (AllSmall method.steps × AllSmall method.returns)
    small = subst (SmallMethod (names_of e) few) is (method_small (names_of e) few (receiver_of self) (steps_of steps) (steps_of returns))

    laid : (slice slice₁ : List ℕ) (ls : List MethodLifetime) → AllSmall ls → slice₁ ≡ sets slice 0 (map shown ls)
        → length (words ls) ≤ length slice → slice₁ ≡ words ls ++ drop (length (words ls)) slice
    laid slice slice₁ ls p q r = q ∙ rw (small_words ls p) (sets_front slice (words ls) r)

    pub lower_all : LowersTo e (whole e self steps returns own given taken) (Ok m) own given taken
    lower_all = record {
      answer = rw all h.is;
      own_filled = rw all (laid (held own) (left own) method.self small.0 (stores.self method is) (omega (arith, selves)));
      given_filled =
          rw all (laid (held given) (left given) method.steps small.1.0 (stores.steps method is) (omega (arith, stepped)));
      taken_filled =
          rw all (laid (held taken) (left taken) method.returns small.1.1 (stores.returns method is)
          (omega (arith, returned)));
    }

-- ---- `finish`

module _ (e : ast.LifetimeEnv) (count : ℕ) where
  pub finish_env_lem : {r : Refusal} → Err r ≡ judged (env_checks e) → Err r ≡ finish_env e count
  unfolding finish_env
  finish_env_lem {r} v =
      let f : FirstDue r (env_checks e ++ hirenv.env_checks (finished e count)) =
      first_more _ (refused_first (tt {0}) r (env_checks e) (sym v)) in
      rw (due_refused (finished e count) f)

  module _ (valid : Ok (tt {0}) ≡ judged (env_checks e)) {made : environment.LifetimeEnv} (is : made ≡ finished e count) where
    checks_none : NoneDue (env_checks e)
    checks_none = accepted_none (tt {0}) (env_checks e) (sym valid)

    pub finish_refused : {r : Refusal} → Err r ≡ judged (hirenv.env_checks made) → Err r ≡ finish_env e count
    unfolding finish_env
    finish_refused {r} v =
        let w : Err r ≡ judged (hirenv.env_checks (finished e count)) = rw is at v in
        let f : FirstDue r (env_checks e ++ hirenv.env_checks (finished e count)) =
        first_after checks_none (refused_first (tt {0}) r (hirenv.env_checks (finished e count)) (sym w)) in
        rw (due_refused (finished e count) f)

    pub finish_given : Ok (tt {0}) ≡ judged (hirenv.env_checks made) → Ok made ≡ finish_env e count
    unfolding finish_env
    finish_given v =
        let w : Ok (tt {0}) ≡ judged (hirenv.env_checks (finished e count)) = rw is at v in
        let f : NoneDue (env_checks e ++ hirenv.env_checks (finished e count)) =
        none_more checks_none (accepted_none (tt {0}) (hirenv.env_checks (finished e count)) (sym w)) in
        rw (is, due_given (finished e count) f)
