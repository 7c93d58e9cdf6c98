-- What `longer_than` and `shorter_than` answer, by what their tests show: a refusal of the environment, nothing for an
-- unknown name, or what the traversal of the same bounds answers, whose other checks are then not due.
use Rattle.std.specs.Prelude.{Option, Some, None, Ok, Err}
use Prim.Native.Nat.{ℕ, ◌≤◌, ◌<◌}
use mathlib.Core.Bool.{Bool, true}
use mathlib.Core.Path.{◌≡◌, sym, ◌∙◌}
use mathlib.Core.List.{List, [], ◌∷◌}
use native.Mathlib.Omega.{arith}
use borrow.Author.Tests.{lt-leb, ltb-true, ltb-false, not-false}
use lib.ListN.{length}
use lib.Seq.{length-take-le}
use Rattle.answers.specs.declared.Refusal.{Refusal}
use Rattle.lifetimes.specs.declared.lifetime.Lifetime.{Lifetime}
use Rattle.lifetimes.specs.declared.env.LifetimeEnv as hir
use Rattle.lifetimes.specs.Numbers.{lifetime}
use Rattle.answers.specs.Refusals.{FirstDue, NoneDue, end, next, Outcome}
use Rattle.answers.specs.Lent.{counted, written, room_check}
use Rattle.lifetimes.specs.Env as lifetimes
use Rattle.lifetimes.specs.Walk.{FirstFirst, traversal}
use Rattle.lifetimes.specs.Reach.{depth_first, list_from, list_depth_first}
use Rattle.answers.proofs.RefusalLaws.{none_first, none_rest, first_more, none_more}
use Rattle.lifetimes.proofs.EnvLaws.{none_due}
use Rattle.answers.proofs.LentLaws.{answers_refusal, answers_list, has_room}
use Rattle.ast_lifetimes.specs.declared.env.LifetimeEnv.{LifetimeEnv}
use Rattle.ast_lifetimes.specs.Env.{place, is_declared, id_of, names_of, bounds_of, reach_of, env_checks, list_than}
use Rattle.ast_lifetimes.proofs.NamesLaws.{number_none, number_some}
use Rattle.answers.proofs.VerdictLaws.{unless_after}

-- an environment whose names are all its lifetimes, with the same bounds
abbrev pub hir_of : LifetimeEnv → hir.LifetimeEnv
hir_of e = lifetimes.env_with e.named e.named e.bounds

module _ (e : LifetimeEnv) (none : NoneDue (env_checks e)) where
  pub few_names : e.named ≤ 32
  few_names = ltb-false 32 e.named (none_first none)

  hir_none : NoneDue (lifetimes.env_checks (hir_of e))
  hir_none =
      none_due (hir_of e) (omega (arith, few_names)) (ltb-false 256 e.bounds.pushed (none_first (none_rest none))) (omega arith)
      (not-false _ (none_first (none_rest (none_rest none))))

module _ (d : Bool) (e : LifetimeEnv) (word : ℕ) (slice : List ℕ) where
  pub than_refused : {r : Refusal} → FirstDue r (env_checks e)
      → (Err r ≡ counted (list_than d e word (length slice))) × (slice ≡ written (list_than d e word (length slice)) slice)
  unfolding list_than
  than_refused f = answers_refusal _ slice (first_more _ f)

  module _ (none : NoneDue (env_checks e)) (full : length e.names ≡ 32) {found : Option ℕ} (number : found ≡ id_of (names_of e) word) where
    count_named : length (names_of e) ≡ e.named
    count_named = length-take-le e.named e.names (omega (arith, few_names e none))

    pub than_unknown : found ≡ None → (Ok 0 ≡ counted (list_than d e word (length slice)))
        × (slice ≡ written (list_than d e word (length slice)) slice)
    unfolding list_than
    than_unknown h =
        rw (number_none (names_of e) word (sym number ∙ h))
        (answers_list [] slice (none_more none (has_room (length slice) [] (omega arith) end)))

    -- a declared name: the traversal's own checks are not due, but for room
    module _ {at : ℕ} (h : found ≡ Some at) where
      known : (is_declared (names_of e) word ≡ true) × (at ≡ place (names_of e) word)
      known = number_some (names_of e) word (sym number ∙ h)

      same : list_depth_first d (hir_of e) at (length slice) ≡ list_than d e word (length slice)
      unfolding list_than list_from depth_first
      same =
          let l = traversal FirstFirst d (bounds_of e) at in
          let inside : at < e.named = omega (arith, ltb-true _ _ known.0, known.1, count_named) in
          let listed : reach_of d (names_of e) (bounds_of e) word ≡ l = rw (known.0, ← known.1) in
          let checked = none_more (hir_none e none) (next (lt-leb e.named at inside) end) in
          rw (listed, unless_after l (room_check (length slice) l ∷ []) none) (unless_after l (room_check (length slice) l ∷ []) checked)

      pub than_traversal : {made : hir.LifetimeEnv} → made ≡ hir_of e → {l : Lifetime} → l ≡ lifetime at
          → {r : Outcome ℕ} {after : List ℕ}
          → (r ≡ counted (list_depth_first d made l.0 (length slice)))
          × (after ≡ written (list_depth_first d made l.0 (length slice)) slice)
          → (r ≡ counted (list_than d e word (length slice))) × (after ≡ written (list_than d e word (length slice)) slice)
      than_traversal j i a = rw (j, i, same) at a
