-- A visit to each parameter, one after another: with room for all edges none is refused, and they give the listing;
-- without, one is refused.
use Rattle.std.specs.Prelude.{Ok, Err}
use Prim.Native.Nat.{ℕ, zero, suc, ◌+◌, ◌*◌, ◌≤◌, ◌<◌}
use mathlib.Core.Bool.{Bool, true, false}
use mathlib.Core.Path.{◌≡◌, refl, sym, ap, ◌∙◌}
use mathlib.Core.List.{List, [], ◌∷◌, flat_map, Memᴰ}
use native.Mathlib.Nat.{add-zero, zero-add}
use native.Mathlib.Decide.{dec_lt}
use native.Mathlib.Omega.{arith}
use borrow.Author.Tests.{le-leb, leb-true, leb-false}
use lib.Dec.{leb}
use lib.ListN.{length, get_or, take}
use lib.Seq.{take-length}
use Rattle.answers.specs.declared.Refusal.TheVariants.{NoRoom}
use Rattle.lifetimes.specs.declared.env.LifetimeEnv.{LifetimeEnv}
use Rattle.answers.specs.Refusals.{NoneDue, over}
use Rattle.answers.specs.Lists.{range, numbered}
use Rattle.lifetimes.specs.Sets.{member}
use Rattle.answers.proofs.ListLaws.{length_range, get_d_range, range_has}
use Rattle.lifetimes.proofs.SetLaws.{members_has}
use Rattle.hir_types.specs.LoweredTypes.{LoweredType}
use Rattle.methods.specs.Method.{types_in, method_checks}
use Rattle.borrowing_param.specs.declared.visitor.ParamBorrowInfo.{ParamBorrowInfo}
use Rattle.borrowing_param.specs.declared.visitor.BorrowingParamVisitor.{BorrowingParamVisitor}
use Rattle.borrowing_param.specs.Edges.{width, edges_in, edges_of}
use Rattle.borrowing_param.specs.Visit.{used_of, bring_to, bring_all, VisitOutcome, state}
use Rattle.borrowing_param.specs.VisitParam.{type_at, visit_param}
use Rattle.borrowing_param.specs.Visits.{unrefused_by, Visits}
use Rattle.borrowing_param.specs.New.{method_visitor}
use Rattle.borrowing_param.specs.BorrowMap.{listed_to, listed_edges}
use Rattle.borrowing_param.specs.Theorems.{answer_at, all_params, visit_of, after_all_visits, RoomForAll, AsVisited}
use Rattle.borrowing_param.proofs.JoinLaws.{of_part, of_others}
use Rattle.borrowing_param.proofs.VisitsLaws.{filled, kept, filled_many, take_member}
use Rattle.borrowing_param.proofs.Condition3Laws.{all_visits, unrefused_new, once_used}
use Rattle.borrowing_param.proofs.ListedLaws.{listed_more, listed_none}
use Rattle.borrowing_param.proofs.ConsistentLaws.{to_used, answer_is}

-- ---- room for all that is brought, and for a part

unfoldable sums : (ℕ → ℕ) → List ℕ → ℕ
sums many [] = 0
sums many (p ∷ ps) = many p + sums many ps

module _ (many : ℕ → ℕ) (room : ℕ) where
  kept_all : (e : ℕ) (ps : List ℕ) → width * (e + sums many ps) ≤ room → kept many room e ps ≡ ps
  unfolding kept sums
  kept_all e [] h = refl
  kept_all e (p ∷ ps) h =
      rw (le-leb (width * (e + many p)) room (omega arith))
      (ap (λ (l : List ℕ). p ∷ l) (kept_all (e + many p) ps (omega arith)))

  filled_part : (e : ℕ) (ps : List ℕ) (i : ℕ) → width * (e + sums many ps) ≤ room → i < length ps
      → width * (filled many room e (take i ps) + many (get_or ps i 0)) ≤ room
  unfolding filled sums
  filled_part e [] i h l = absurd (omega arith)
  filled_part e (p ∷ ps) zero h l = omega arith
  filled_part e (p ∷ ps) (suc i) h l =
      rw (le-leb (width * (e + many p)) room (omega arith)) (filled_part (e + many p) ps i (omega arith) (omega arith))

  record Past (e : ℕ) (ps : List ℕ) : Type 0 where
    place : ℕ
    below : place < length ps
    past : room < width * (filled many room e (take place ps) + many (get_or ps place 0))

  first_past : (e : ℕ) (ps : List ℕ) → width * e ≤ room → room < width * (e + sums many ps) → Past e ps
  unfolding filled sums
  first_past e [] h l = absurd (omega arith)
  first_past e (p ∷ ps) h l = go (leb (width * (e + many p)) room) refl (λ k. first_past (e + many p) ps k (omega arith))
    where
      go : (t : Bool) → leb (width * (e + many p)) room ≡ t → (width * (e + many p) ≤ room → Past (e + many p) ps) → Past e (p ∷ ps)
      go true q r =
          let k = r (leb-true (width * (e + many p)) room q) in
          record { place = suc k.place; below = omega (arith, k.below); past = rw q k.past }
      go false q r = record { place = 0; below = omega arith; past = leb-false (width * (e + many p)) room q }

-- ---- the parameters in turn bring what is listed

module _ (v : BorrowingParamVisitor) (all : List LoweredType) where
  abbrev Same : ℕ → List LoweredType → Type 0
  Same k ts = (i : ℕ) → i < length ts → type_at all (k + i) ≡ type_at ts i

  same_first : (k : ℕ) (t : LoweredType) (ts : List LoweredType) → Same k (t ∷ ts) → type_at all k ≡ t
  same_first k t ts s = ap (type_at all) (sym (add-zero k)) ∙ s 0 (omega arith)

  same_rest : (k : ℕ) (t : LoweredType) (ts : List LoweredType) → Same k (t ∷ ts) → Same (suc k) ts
  same_rest k t ts s i h = let e : suc k + i ≡ k + suc i = omega arith in ap (type_at all) e ∙ s (suc i) (omega arith)

  turn_brings : (used k : ℕ) (ts : List LoweredType) → Same k ts
      → flat_map (λ p. bring_to v (type_at all p) p used) (range k (length ts)) ≡ listed_to v k ts used
  unfolding range flat_map numbered
  turn_brings used k [] s = refl
  turn_brings used k (t ∷ ts) s = rw (same_first k t ts s, turn_brings used (suc k) ts (same_rest k t ts s))

  turn_sums : (k : ℕ) (ts : List LoweredType) → Same k ts
      → sums (λ p. length (bring_all v (type_at all p) p)) (range k (length ts))
      ≡ length (flat_map (listed_to v k ts) (used_of v))
  unfolding range sums
  turn_sums k [] s = ap length (sym (listed_none v k (used_of v)))
  turn_sums k (t ∷ ts) s = rw (same_first k t ts s, turn_sums (suc k) ts (same_rest k t ts s)) (sym (listed_more v k t ts))

-- ---- what the visits give

module _ (structs params : List ℕ) (v : BorrowingParamVisitor) (words : List ℕ)
    (visits : Visits (visit_param structs params) v (λ used p. bring_to v (type_at (types_in structs params) p) p used)
    (answer_at structs params v) words (all_params structs params))
    (stays : (i : ℕ)
    → unrefused_by (visit_param structs params) (state v words) (take i (all_params structs params))
    ≡ kept (λ p. length (bring_all v (type_at (types_in structs params) p) p)) (length words) 0 (take i (all_params structs params))) where
  abbrev types : List LoweredType
  types = types_in structs params

  abbrev count : ℕ → ℕ
  count p = length (bring_all v (type_at types p) p)

  itself : Same v types 0 types
  itself i h = ap (type_at types) (zero-add i)

  total : sums count (all_params structs params) ≡ length (listed_edges v types)
  unfolding listed_edges
  total = turn_sums v types 0 types itself

  number : (i : ℕ) → i < length types → get_or (all_params structs params) i 0 ≡ i
  number i h = get_d_range 0 (length types) i 0 h ∙ zero-add i

  size : length (all_params structs params) ≡ length types
  size = length_range 0 (length types)

  -- what was brought before the visit with the number i
  stands : (i : ℕ)
      → length (flat_map (λ p. bring_all v (type_at types p) p)
      (unrefused_by (visit_param structs params) (state v words) (take i (all_params structs params))))
      ≡ filled count (length words) 0 (take i (all_params structs params))
  stands i =
      rw (stays i)
      (sym (filled_many (λ p. bring_all v (type_at types p) p) (length words) 0 (take i (all_params structs params)) ∙ zero-add _))

  all_stay : unrefused_by (visit_param structs params) (state v words) (all_params structs params)
      ≡ kept count (length words) 0 (all_params structs params)
  all_stay = rw (take-length (all_params structs params)) at (stays (length (all_params structs params)))

  fits : RoomForAll structs params v words → width * (0 + sums count (all_params structs params)) ≤ length words
  fits room = omega (arith, total)

  info : RoomForAll structs params v words → (p : ℕ) → p < length types
      → visit_of structs params v words p ≡ Ok (answer_at structs params v p)
  info room p h =
      let k : p < length (all_params structs params) = omega (arith, size) in
      visits.answered p k (rw (stands p) (filled_part count (length words) 0 (all_params structs params) p (fits room) k))
      ∙ ap (λ (q : ℕ). Ok (answer_at structs params v q)) (number p h)

  pub in_turn_lem : AsVisited structs params v words
  unfolding listed_edges
  in_turn_lem = record {
    answered =
        λ room p h. ap (over (λ (x : ParamBorrowInfo). x.number)) (info room p h)
        ∙ ap (λ (n : ℕ). Ok n) (sym (answer_is v types p h));
    edges = λ room used. by_used room used (dec_member used);
    refused = λ none. gone (dec_lt (length words) (width * length (listed_edges v types))) none;
    listed = listed_to_lem;
  }
    where
      listed_to_lem : (used : ℕ) → Memᴰ used (used_of v) → edges_of used (listed_edges v types) ≡ listed_to v 0 types used
      listed_to_lem used m = of_part (listed_to v 0 types) (λ l e k. to_used v 0 types l e k) used (used_of v) (once_used v.used) m

      dec_member : (used : ℕ) → Dec (Memᴰ used (used_of v))
      dec_member used = go (dec_lt used 64) (member v.used used) refl
        where
          go : Dec (used < 64) → (t : Bool) → member v.used used ≡ t → Dec (Memᴰ used (used_of v))
          go (yes h) true e = yes ((members_has v.used used).1 (h, e))
          go (yes h) false e =
              no (λ m. let z : true ≡ false = sym ((members_has v.used used).0 m).1
              ∙ e in let o : ◌≡◌ {A = ℕ} 0 1 = cc in omega arith)
          go (no n) t e = no (λ m. n ((members_has v.used used).0 m).0)

      by_used : RoomForAll structs params v words → (used : ℕ) → Dec (Memᴰ used (used_of v))
          → edges_of used
          (edges_in (after_all_visits structs params v words).visitor.stored (after_all_visits structs params v words).words)
          ≡ edges_of used (listed_edges v types)
      by_used room used (yes m) =
          visits.edges_of_lem used m
          ∙ ap (flat_map (λ p. bring_to v (type_at types p) p used))
          (all_stay ∙ kept_all count (length words) 0 (all_params structs params) (fits room))
          ∙ turn_brings v types used 0 types itself
          ∙ sym (listed_to_lem used m)
      by_used room used (no n) =
          visits.no_edges_of used n
          ∙ sym (of_others (listed_to v 0 types) (λ l e k. to_used v 0 types l e k) used (used_of v) n)

      gone : Dec (length words < width * length (listed_edges v types)) → (RoomForAll structs params v words → ⊥)
          → (p : ℕ) × (p < length types) × (visit_of structs params v words p ≡ Err NoRoom)
      gone (no n) none = absurd (none (omega arith))
      gone (yes h) none =
          let past = first_past count (length words) 0 (all_params structs params) (omega arith) (omega (arith, total)) in (
            past.place,
            omega (arith, past.below, size),
            ap (λ (x : VisitOutcome). x.info)
                (visits.refused past.place past.below (rw (stands past.place) past.past)),
          )

pub as_visited : (env : LifetimeEnv) (structs params output force : List ℕ)
    → NoneDue (method_checks env structs params output force) → (words : List ℕ)
    → AsVisited structs params (method_visitor env structs output) words
as_visited env structs params output force none words =
    in_turn_lem structs params (method_visitor env structs output) words
    (all_visits env structs params output force none words turn within).visits
    (λ i. unrefused_new env structs params output force none words (take i turn) (λ p m. within p (take_member i turn p m)))
  where
    turn : List ℕ
    turn = all_params structs params

    within : (p : ℕ) → Memᴰ p (all_params structs params) → p < length (types_in structs params)
    within p m = omega (arith, ((range_has 0 (length (types_in structs params)) p).0 m).1)
