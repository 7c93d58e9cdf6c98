-- What the public traversals answer, by what their tests show: one list, all sets, all lists.
use Rattle.std.specs.Prelude.{Ok, Err}
use Prim.Native.Nat.{ℕ, ◌≤◌, ◌<◌}
use mathlib.Core.Bool.{Bool, true, false}
use mathlib.Core.Path.{◌≡◌, refl, sym, ap, ◌∙◌}
use mathlib.Core.List.{List, ◌++◌, map, flatten}
use native.Mathlib.Omega.{arith}
use borrow.Author.Tests.{le-leb, lt-leb, le-ltb}
use lib.ListN.{length, drop, take, length-map}
use lib.Seq.{sets, length-take-le}
use Rattle.answers.specs.declared.Refusal.{Refusal}
use Rattle.answers.specs.declared.Refusal.TheVariants.{OutOfRange, NoRoom}
use Rattle.lifetimes.specs.declared.env.LifetimeEnv.{LifetimeEnv}
use Rattle.lifetimes.specs.declared.reach.Lists.{Lists}
use Rattle.answers.specs.Lists.{range}
use Rattle.answers.specs.Refusals.{Outcome, FirstDue, here, later, NoneDue, end, next}
use Rattle.answers.specs.Lent.{counted, written}
use Rattle.lifetimes.specs.Env.{bounds_of, env_checks}
use Rattle.lifetimes.specs.Walk.{order_of}
use Rattle.lifetimes.specs.Index.{graph_of, graph_in, list_over, list_by, lists_from, Measures, Lays}
use Rattle.answers.specs.Lists.{ends_from}
use Rattle.lifetimes.specs.Reach.{all_sets, no_sets, reach_sets, all_lists, lists_checks, list_words, list_ends}
use Rattle.lifetimes.specs.Reach.{lists_answer, reach_list, reach_set, depth_first, list_from}
use Rattle.answers.proofs.ListLaws.{length_range}
use Rattle.answers.proofs.RefusalLaws.{due_given, due_refused, first_more, first_after, none_more}
use Rattle.answers.proofs.LentLaws.{answers_refusal, answers_list, no_room, has_room}
use Rattle.answers.proofs.Copying.{sets_front, drop_replicate}
use Rattle.lifetimes.proofs.EnvLaws.{valid}
use Rattle.lifetimes.proofs.ReachLaws.{traversal_linked}
use Rattle.lifetimes.proofs.ReachLoops.{length_ends}

-- the list over the index in an order is the environment's
pub list_by_lem : (ast d : Bool) (e : LifetimeEnv) (x : ℕ) → list_over (graph_in (order_of ast) d (bounds_of e)) x ≡ list_by ast d e x
unfolding reach_list depth_first
list_by_lem true d e x = traversal_linked (order_of true) d (bounds_of e) x
list_by_lem false d e x = traversal_linked (order_of false) d (bounds_of e) x

-- one list
module _ (e : LifetimeEnv) (x : ℕ) (list slice : List ℕ) where
  pub list_refused : {r : Refusal} → FirstDue r (env_checks e)
      → (Err r ≡ counted (list_from e x list (length slice)))
      × (slice ≡ written (list_from e x list (length slice)) slice)
  unfolding list_from
  list_refused f = answers_refusal _ slice (first_more _ f)

  module _ (none : NoneDue (env_checks e)) where
    pub list_past : e.count ≤ x → (Err OutOfRange ≡ counted (list_from e x list (length slice)))
        × (slice ≡ written (list_from e x list (length slice)) slice)
    unfolding list_from
    list_past h = answers_refusal _ slice (first_after none (here (le-leb e.count x h) refl))

    module _ (inside : x < e.count) (items : List ℕ) (n : ℕ) (few : n ≤ length items) (is : take n items ≡ list) where
      long : n ≡ length list
      long = sym (length-take-le n items few) ∙ ap length is

      pub list_short : length slice < n → (Err NoRoom ≡ counted (list_from e x list (length slice)))
          × (slice ≡ written (list_from e x list (length slice)) slice)
      unfolding list_from
      list_short h =
          answers_refusal _ slice
          (first_after none (later (lt-leb e.count x inside) (no_room (length slice) list (omega (arith, long)))))

      pub list_given : n ≤ length slice → (Ok n ≡ counted (list_from e x list (length slice)))
          × (take n items ++ drop n slice ≡ written (list_from e x list (length slice)) slice)
      unfolding list_from
      list_given h =
          let room : length list ≤ length slice = omega (arith, long) in
          let a = answers_list list slice
          (none_more none (next (lt-leb e.count x inside) (has_room (length slice) list room end))) in
          (rw long a.0, rw (is, long) a.1)

-- the sets of all lifetimes, in an array of zeros
sets_all : (d : Bool) (e : LifetimeEnv) → e.count ≤ 64 → (reach : List ℕ)
    → reach ≡ sets no_sets 0 (map (reach_set d e) (range 0 e.count)) → reach ≡ all_sets d e
unfolding all_sets
sets_all d e h reach is =
    let all = map (reach_set d e) (range 0 e.count) in
    let long : length all ≡ e.count = simp length-map (length_range 0 e.count) in
    is ∙ sets_front no_sets all (omega (arith, long)) ∙ rw (long, drop_replicate {A = ℕ} e.count 64 0)

module _ (d : Bool) (e : LifetimeEnv) where
  pub sets_refused : {r : Refusal} → FirstDue r (env_checks e) → Err r ≡ reach_sets d e
  unfolding reach_sets
  sets_refused f = sym (due_refused (all_sets d e) f)

  pub sets_given : {reach : List ℕ} {total : ℕ} → NoneDue (env_checks e)
      → Measures (graph_of d e) e.count no_sets reach total
      → Ok reach ≡ reach_sets d e
  unfolding reach_sets reach_set reach_list
  sets_given {reach} none m = rw (due_given (all_sets d e) none, sets_all d e (valid e none).counted reach m.reach)

-- all lists: the answer, the words, the ends
module _ (d : Bool) (e : LifetimeEnv) (words ends : List ℕ) where
  abbrev pub ListsAre : Outcome Lists → List ℕ → List ℕ → Type 0
  ListsAre r words₁ ends₁ =
      (r ≡ lists_answer d e (length words) (length ends))
      × (words₁ ≡ written (list_words d e (length words) (length ends)) words)
      × (ends₁ ≡ written (list_ends d e (length words) (length ends)) ends)

  lists_by : {r : Refusal} → FirstDue r (lists_checks d e (length words) (length ends))
      → ListsAre (Err r) words ends
  unfolding lists_answer list_words list_ends
  lists_by f = (
    sym (due_refused (record { count = length (flatten (all_lists d e)); sets = all_sets d e }) f),
    rw (due_refused (flatten (all_lists d e)) f),
    rw (due_refused (ends_from 0 (all_lists d e)) f),
  )

  pub lists_refused : {r : Refusal} → FirstDue r (env_checks e)
      → ListsAre (Err r) words ends
  lists_refused f = lists_by (first_more _ f)

  module _ (none : NoneDue (env_checks e)) where
    ends_long : length (ends_from 0 (all_lists d e)) ≡ e.count
    unfolding all_lists reach_list
    ends_long = length_ends 0 (lists_from (graph_of d e) 0 e.count) ∙ simp length-map (length_range 0 e.count)

    pub lists_no_ends : length ends < e.count → ListsAre (Err NoRoom) words ends
    lists_no_ends h = lists_by (first_after none (no_room (length ends) (ends_from 0 (all_lists d e)) (omega (arith, ends_long))))

    module _ (places : e.count ≤ length ends) where
      pub lists_no_words : length words < length (flatten (lists_from (graph_of d e) 0 e.count))
          → ListsAre (Err NoRoom) words ends
      unfolding all_lists reach_list
      lists_no_words h =
          let room : length (ends_from 0 (all_lists d e)) ≤ length ends = omega (arith, ends_long) in
          lists_by (first_after none
          (later (le-ltb (length ends) (length (ends_from 0 (all_lists d e))) room)
          (no_room (length words) (flatten (all_lists d e)) h)))

      pub lists_given : length (flatten (lists_from (graph_of d e) 0 e.count)) ≤ length words
          → {words₁ ends₁ reach : List ℕ} {total : ℕ}
          → Lays (graph_of d e) e.count words ends no_sets words₁ ends₁ reach total
          → ListsAre (Ok (record { count = total; sets = reach })) words₁ ends₁
      unfolding lists_answer list_words list_ends all_lists reach_set reach_list
      lists_given fits {words₁} {ends₁} {reach} {total} lays =
          let room : length (ends_from 0 (all_lists d e)) ≤ length ends = omega (arith, ends_long) in
          let n : NoneDue (lists_checks d e (length words) (length ends)) =
          none_more none
          (has_room (length ends) (ends_from 0 (all_lists d e)) room
          (has_room (length words) (flatten (all_lists d e)) fits end)) in (
            rw (
              due_given {A = Lists} (record { count = length (flatten (all_lists d e)); sets = all_sets d e }) n,
              lays.measures.total,
              sets_all d e (valid e none).counted reach lays.measures.reach,
            ),
            rw (due_given (flatten (all_lists d e)) n) (lays.words ∙ sets_front words (flatten (all_lists d e)) fits),
            rw (due_given (ends_from 0 (all_lists d e)) n) (lays.ends ∙ sets_front ends (ends_from 0 (all_lists d e)) room),
          )
