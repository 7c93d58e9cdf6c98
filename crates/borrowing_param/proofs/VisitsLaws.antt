-- A run of visits in one equation, and all that Visits says.
use Rattle.std.specs.Prelude.{Ok, Err, is_ok, IsOk}
use Prim.Native.Nat.{ℕ, zero, suc, ◌+◌, ◌*◌, ◌≤◌, ◌<◌}
use mathlib.Core.Bool.{Bool, true, false, cond, true≢false}
use mathlib.Core.Path.{◌≡◌, refl, sym, ap, subst, ◌∙◌}
use mathlib.Core.Logic.{⊎_elim}
use mathlib.Core.List.Memᴰ
use mathlib.Core.List.{List, [], ◌∷◌, ◌++◌, flat_map, Memᴰ}
use mathlib.Core.List.Permᴰ
use mathlib.Core.List.{Permᴰ}
use native.Mathlib.Decide.{ℕ_discrete, dec_le}
use native.Mathlib.Nat.{zero-add}
use native.Mathlib.Omega.{arith}
use borrow.Author.Tests.{leb-true, le-leb, lt-leb}
use lib.Dec.{leb}
use lib.ListN.{length, get_or, take, drop, length-append}
use lib.Seq.{sets, sets-eq, length-sets, split_at}
use Rattle.answers.specs.declared.Refusal.TheVariants.{NoRoom}
use Rattle.borrowing_param.specs.declared.visitor.LifetimeEdge.{LifetimeEdge}
use Rattle.borrowing_param.specs.declared.visitor.ParamBorrowInfo.{ParamBorrowInfo}
use Rattle.borrowing_param.specs.declared.visitor.BorrowingParamVisitor.{BorrowingParamVisitor}
use Rattle.borrowing_param.specs.Edges.{width, edge_words, edges_of}
use Rattle.borrowing_param.specs.Visit.{used_of, holding, State, state, VisitOutcome, outcome, room_for, with_edges}
use Rattle.borrowing_param.specs.Visit.{visit_with, after_visits, visit_at}
use Rattle.borrowing_param.specs.Visits.{unrefused_by, all_of, edges_after, NoneRefused, Visits}
use Rattle.borrowing_param.proofs.JoinLaws.{join_cons, join_append, perm_length, perm_member, join_perm}
use Rattle.borrowing_param.proofs.JoinLaws.{sets_behind, words_many, words_read, of_append, Once, of_others}
use Rattle.borrowing_param.proofs.JoinLaws.{of_part}

-- ---- one visit, by whether there is room

module _ (s : State) (info : ParamBorrowInfo) (es : List LifetimeEdge) where
  room : width * (s.visitor.stored + length es) ≤ length s.words → room_for s es ≡ true
  room h = go es h
    where
      go : (l : List LifetimeEdge) → width * (s.visitor.stored + length l) ≤ length s.words → room_for s l ≡ true
      go [] h = refl
      go (e ∷ l) h = le-leb (width * (s.visitor.stored + length (e ∷ l))) (length s.words) h

  no_room : width * s.visitor.stored ≤ length s.words
      → length s.words < width * (s.visitor.stored + length es) → room_for s es ≡ false
  no_room h k = go es k
    where
      go : (l : List LifetimeEdge) → length s.words < width * (s.visitor.stored + length l) → room_for s l ≡ false
      go [] k = absurd (omega arith)
      go (e ∷ l) k = lt-leb (width * (s.visitor.stored + length (e ∷ l))) (length s.words) k

  pub visit_stores : width * (s.visitor.stored + length es) ≤ length s.words → visit_with s info es ≡ outcome (Ok info) (with_edges s es)
  visit_stores h = rw (room h)

  pub visit_refused : width * s.visitor.stored ≤ length s.words
      → length s.words < width * (s.visitor.stored + length es) → visit_with s info es ≡ outcome (Err NoRoom) s
  visit_refused h k = rw (no_room h k)

-- ---- counting

-- how many edges are stored after some visits, with so many at the start, where a visit of p brings `many p` edges and
-- the slice has `room` words: a visit without room stores none
unfoldable pub filled : (ℕ → ℕ) → ℕ → ℕ → List ℕ → ℕ
filled many room e [] = e
filled many room e (p ∷ ps) =
    cond (leb (width * (e + many p)) room) (filled many room (e + many p) ps) (filled many room e ps)

-- the visits that find room, in order
unfoldable pub kept : (ℕ → ℕ) → ℕ → ℕ → List ℕ → List ℕ
kept many room e [] = []
kept many room e (p ∷ ps) =
    cond (leb (width * (e + many p)) room) (p ∷ kept many room (e + many p) ps) (kept many room e ps)

module _ (F : ℕ → List LifetimeEdge) (n : ℕ) where
  abbrev k : ℕ → ℕ
  k p = length (F p)

  pub filled_many : (e : ℕ) (ps : List ℕ) → filled k n e ps ≡ e + length (flat_map F (kept k n e ps))
  unfolding filled kept flat_map
  filled_many e [] = omega arith
  filled_many e (p ∷ ps) = go (leb (width * (e + k p)) n) (filled_many (e + k p) ps) (filled_many e ps)
    where
      go : (t : Bool) → filled k n (e + k p) ps ≡ e + k p + length (flat_map F (kept k n (e + k p) ps))
          → filled k n e ps ≡ e + length (flat_map F (kept k n e ps))
          → cond t (filled k n (e + k p) ps) (filled k n e ps)
          ≡ e + length (flat_map F (cond t (p ∷ kept k n (e + k p) ps) (kept k n e ps)))
      go true a b = rw length-append (omega arith)
      go false a b = b

  pub filled_fits : (e : ℕ) (ps : List ℕ) → width * e ≤ n → width * filled k n e ps ≤ n
  unfolding filled
  filled_fits e [] h = h
  filled_fits e (p ∷ ps) h = go (leb (width * (e + k p)) n) refl (filled_fits (e + k p) ps) (filled_fits e ps h)
    where
      go : (t : Bool) → leb (width * (e + k p)) n ≡ t → (width * (e + k p) ≤ n → width * filled k n (e + k p) ps ≤ n)
          → width * filled k n e ps ≤ n
          → width * cond t (filled k n (e + k p) ps) (filled k n e ps) ≤ n
      go true g a b = a (leb-true (width * (e + k p)) n g)
      go false g a b = b

  -- with room for all, all are kept
  pub kept_all : (e : ℕ) (ps : List ℕ) → width * (e + length (flat_map F ps)) ≤ n → kept k n e ps ≡ ps
  unfolding kept flat_map
  kept_all e [] h = refl
  kept_all e (p ∷ ps) h =
      let g : width * (e + (k p + length (flat_map F ps))) ≤ n = rw length-append at h in
      rw (le-leb (width * (e + k p)) n (omega arith), kept_all (e + k p) ps (omega arith))

-- what a visit and those before it bring is part of what all bring
part_of_all : (F : ℕ → List LifetimeEdge) (ps : List ℕ) (i : ℕ) → i < length ps
    → length (flat_map F (take i ps)) + length (F (get_or ps i 0)) ≤ length (flat_map F ps)
part_of_all F ps i h =
    let e = ap (λ (l : List ℕ). length (flat_map F l)) (split_at ps i 0 h) in
    omega (arith, simp (join_append F (take i ps), join_cons F (get_or ps i 0), length-append) at e)

pub take_member : (i : ℕ) (ps : List ℕ) (x : ℕ) → Memᴰ x (take i ps) → Memᴰ x ps
take_member zero ps x m = absurd (Memᴰ.not-nil m)
take_member (suc i) [] x m = m
take_member (suc i) (p ∷ ps) x m =
    ⊎_elim (λ e. Memᴰ.head e) (λ k. Memᴰ.tail (take_member i ps x k)) (Memᴰ.cases_cons m)

at_member : (ps : List ℕ) (i : ℕ) → i < length ps → Memᴰ (get_or ps i 0) ps
at_member [] i h = absurd (omega arith)
at_member (p ∷ ps) zero h = Memᴰ.head refl
at_member (p ∷ ps) (suc i) h = Memᴰ.tail (at_member ps i (omega arith))

-- ---- a run of visits

module _ (visits : State → ℕ → VisitOutcome) (v : BorrowingParamVisitor) (brings : ℕ → ℕ → List LifetimeEdge)
    (answer : ℕ → ParamBorrowInfo) (few : ℕ)
    (agrees : (e : ℕ) (words : List ℕ) (p : ℕ) → p < few
    → visits (state (holding v e) words) p ≡ visit_with (state (holding v e) words) (answer p)
    (all_of v brings p)) where
  abbrev F : ℕ → List LifetimeEdge
  F p = all_of v brings p

  abbrev κ : ℕ → ℕ
  κ p = length (F p)

  abbrev pub Within : List ℕ → Type 0
  Within ps = (p : ℕ) → Memᴰ p ps → p < few

  -- the state after a run, from any number of stored edges
  run : (e : ℕ) (words ps : List ℕ) → width * e ≤ length words → Within ps
      → after_visits visits (state (holding v e) words) ps
      ≡ state (holding v (filled κ (length words) e ps))
      (sets words (width * e) (flat_map edge_words (flat_map F (kept κ (length words) e ps))))
  unfolding after_visits filled kept flat_map
  run e words [] h w = refl
  run e words (p ∷ ps) h w =
      go (dec_le (width * (e + κ p)) (length words)) (λ r. run (e + κ p) next ps (rw size r) rest) (run e words ps h rest)
    where
      X : List ℕ
      X = flat_map edge_words (F p)

      next : List ℕ
      next = sets words (width * e) X

      size : length next ≡ length words
      size = length-sets words (width * e) X

      place : width * (e + κ p) ≡ width * e + length X
      place = omega (arith, words_many (F p))

      rest : Within ps
      rest q m = w q (Memᴰ.tail m)

      seen : visits (state (holding v e) words) p ≡ visit_with (state (holding v e) words) (answer p) (F p)
      seen = agrees e words p (w p (Memᴰ.head refl))

      go : Dec (width * (e + κ p) ≤ length words)
          → (width * (e + κ p) ≤ length words → after_visits visits (state (holding v (e + κ p)) next) ps
          ≡ state (holding v (filled κ (length next) (e + κ p) ps))
          (sets next (width * (e + κ p)) (flat_map edge_words (flat_map F (kept κ (length next) (e + κ p) ps)))))
          → after_visits visits (state (holding v e) words) ps
          ≡ state (holding v (filled κ (length words) e ps))
          (sets words (width * e) (flat_map edge_words (flat_map F (kept κ (length words) e ps))))
          → after_visits visits (visits (state (holding v e) words) p).left ps
          ≡ state (holding v
          (cond (leb (width * (e + κ p)) (length words)) (filled κ (length words) (e + κ p) ps)
          (filled κ (length words) e ps)))
          (sets words (width * e)
          (flat_map edge_words
          (flat_map F
          (cond (leb (width * (e + κ p)) (length words)) (p ∷ kept κ (length words) (e + κ p) ps)
          (kept κ (length words) e ps)))))
      go (yes r) a b =
          ap (λ (o : VisitOutcome). after_visits visits o.left ps)
          (seen ∙ visit_stores (state (holding v e) words) (answer p) (F p) r)
          ∙ a r
          ∙ rw (
            size,
            le-leb (width * (e + κ p)) (length words) r,
            place,
            join_cons F p (kept κ (length words) (e + κ p) ps),
            join_append edge_words (F p) (flat_map F (kept κ (length words) (e + κ p) ps)),
            sets_behind words (width * e) X (flat_map edge_words (flat_map F (kept κ (length words) (e + κ p) ps))),
          )
      go (no r) a b =
          ap (λ (o : VisitOutcome). after_visits visits o.left ps)
          (seen ∙ visit_refused (state (holding v e) words) (answer p) (F p) h (omega arith))
          ∙ b
          ∙ rw (lt-leb (width * (e + κ p)) (length words) (omega arith))

  -- ---- what a new visitor's visits leave

  module _ (words ps : List ℕ) (w : Within ps) where
    abbrev es : List LifetimeEdge
    es = flat_map F (kept κ (length words) 0 ps)

    left_is : after_visits visits (state (holding v 0) words) ps ≡ state (holding v (filled κ (length words) 0 ps))
        (sets words 0 (flat_map edge_words es))
    left_is = run 0 words ps (omega arith) w

    filled_is : filled κ (length words) 0 ps ≡ length es
    filled_is = filled_many F (length words) 0 ps ∙ zero-add (length es)

    words_are : sets words 0 (flat_map edge_words es) ≡ flat_map edge_words es ++ drop (width * filled κ (length words) 0 ps) words
    words_are =
        let many : 0 + length (flat_map edge_words es) ≡ width * filled κ (length words) 0 ps =
        rw (words_many es, filled_is) (omega arith) in
        sets-eq (flat_map edge_words es) words 0 (omega (arith, many, filled_fits F (length words) 0 ps (omega arith))) ∙ rw many

    edges_are : edges_after visits (holding v 0) brings answer words ps ≡ es
    edges_are = rw (left_is, words_are, filled_is) (words_read es (drop (width * length es) words))

    size_is : length (after_visits visits (state (holding v 0) words) ps).words ≡ length words
    size_is = rw left_is (length-sets words 0 (flat_map edge_words es))

  -- ---- one visit of a list

  module _ (words ps : List ℕ) (w : Within ps) (i : ℕ) (h : i < length ps) where
    abbrev q : ℕ
    q = get_or ps i 0

    first : Within (take i ps)
    first p m = w p (take_member i ps p m)

    abbrev s : State
    s = state (holding v (filled κ (length words) 0 (take i ps))) (sets words 0 (flat_map edge_words (es words (take i ps) first)))

    here : visit_at visits (state (holding v 0) words) ps i ≡ visit_with s (answer q) (F q)
    here =
        ap (λ (t : State). visits t q) (left_is words (take i ps) first)
        ∙ agrees (filled κ (length words) 0 (take i ps)) (sets words 0 (flat_map edge_words (es words (take i ps) first)))
        q (w q (at_member ps i h))

    long : length s.words ≡ length words
    long = length-sets words 0 (flat_map edge_words (es words (take i ps) first))

    refused_at : length words < width * (filled κ (length words) 0 (take i ps) + κ q)
        → visit_at visits (state (holding v 0) words) ps i
        ≡ outcome (Err NoRoom) (after_visits visits (state (holding v 0) words) (take i ps))
    refused_at k =
        here ∙ visit_refused s (answer q) (F q) (rw long (filled_fits F (length words) 0 (take i ps) (omega arith)))
        (rw long k) ∙ ap (outcome (Err NoRoom)) (sym (left_is words (take i ps) first))

    answered_at : width * (filled κ (length words) 0 (take i ps) + κ q) ≤ length words
        → (visit_at visits (state (holding v 0) words) ps i).info ≡ Ok (answer q)
    answered_at k = ap (λ (o : VisitOutcome). o.info) (here ∙ visit_stores s (answer q) (F q) (rw long k))

  -- ---- where none is refused there is room for all, and the other way round

  room_for_all : (e : ℕ) (words ps : List ℕ) → width * e ≤ length words → Within ps
      → ((i : ℕ) → i < length ps → IsOk (visit_at visits (state (holding v e) words) ps i).info)
      → width * (e + length (flat_map F ps)) ≤ length words
  unfolding after_visits flat_map
  room_for_all e words [] h w a = omega arith
  room_for_all e words (p ∷ ps) h w a =
      go (dec_le (width * (e + κ p)) (length words))
      (λ k b. room_for_all (e + κ p) (sets words (width * e) (flat_map edge_words (F p))) ps (rw size k)
      (λ x m. w x (Memᴰ.tail m)) b)
    where
      size : length (sets words (width * e) (flat_map edge_words (F p))) ≡ length words
      size = length-sets words (width * e) (flat_map edge_words (F p))

      seen : visits (state (holding v e) words) p ≡ visit_with (state (holding v e) words) (answer p) (F p)
      seen = agrees e words p (w p (Memᴰ.head refl))

      go : Dec (width * (e + κ p) ≤ length words)
          → (width * (e + κ p) ≤ length words
          → ((i : ℕ) → i < length ps
          → IsOk (visit_at visits (state (holding v (e + κ p)) (sets words (width * e) (flat_map edge_words (F p)))) ps i).info)
          → width * (e + κ p + length (flat_map F ps)) ≤ length (sets words (width * e) (flat_map edge_words (F p))))
          → width * (e + length (F p ++ flat_map F ps)) ≤ length words
      go (yes k) r =
          let m = ap (λ (o : VisitOutcome). o.left) (seen ∙ visit_stores (state (holding v e) words) (answer p) (F p) k) in
          let fits =
          rw size
          at (r k
          (λ i l. subst (λ (t : State). IsOk (visit_at visits t ps i).info) m
          (a (suc i) (omega arith)))) in
          rw length-append (omega arith)
      go (no k) r =
          let m : is_ok (visits (state (holding v e) words) p).info ≡ false = ap (λ (o : VisitOutcome). is_ok o.info)
          (seen ∙ visit_refused (state (holding v e) words) (answer p) (F p) h (omega arith)) in
          absurd (true≢false (sym (a 0 (omega arith)) ∙ m))

  -- the visits that find room are those that are not refused
  kept_is : (e : ℕ) (words ps : List ℕ) → width * e ≤ length words → Within ps
      → unrefused_by visits (state (holding v e) words) ps ≡ kept κ (length words) e ps
  unfolding unrefused_by kept
  kept_is e words [] h w = refl
  kept_is e words (p ∷ ps) h w =
      go (dec_le (width * (e + κ p)) (length words)) (λ r. kept_is (e + κ p) next ps (rw size r) rest) (kept_is e words ps h rest)
    where
      next : List ℕ
      next = sets words (width * e) (flat_map edge_words (F p))

      size : length next ≡ length words
      size = length-sets words (width * e) (flat_map edge_words (F p))

      rest : Within ps
      rest q m = w q (Memᴰ.tail m)

      seen : visits (state (holding v e) words) p ≡ visit_with (state (holding v e) words) (answer p) (F p)
      seen = agrees e words p (w p (Memᴰ.head refl))

      first : VisitOutcome → List ℕ
      first o = cond (is_ok o.info) (p ∷ unrefused_by visits o.left ps) (unrefused_by visits o.left ps)

      go : Dec (width * (e + κ p) ≤ length words)
          → (width * (e + κ p) ≤ length words
          → unrefused_by visits (state (holding v (e + κ p)) next) ps ≡ kept κ (length next) (e + κ p) ps)
          → unrefused_by visits (state (holding v e) words) ps ≡ kept κ (length words) e ps
          → first (visits (state (holding v e) words) p)
          ≡ cond (leb (width * (e + κ p)) (length words)) (p ∷ kept κ (length words) (e + κ p) ps) (kept κ (length words) e ps)
      go (yes r) a b =
          ap first (seen ∙ visit_stores (state (holding v e) words) (answer p) (F p) r)
          ∙ rw (a r, size, le-leb (width * (e + κ p)) (length words) r)
      go (no r) a b =
          ap first (seen ∙ visit_refused (state (holding v e) words) (answer p) (F p) h (omega arith))
          ∙ rw (b, lt-leb (width * (e + κ p)) (length words) (omega arith))

  pub unrefused_kept : (words ps : List ℕ) → Within ps
      → unrefused_by visits (state (holding v 0) words) ps ≡ kept κ (length words) 0 ps
  unrefused_kept words ps w = kept_is 0 words ps (omega arith) w

  pub brought_filled : (words ps : List ℕ) → Within ps
      → length (flat_map F (unrefused_by visits (state (holding v 0) words) ps)) ≡ filled κ (length words) 0 ps
  brought_filled words ps w = rw (unrefused_kept words ps w) (sym (filled_is words ps w))

  fits_at : (words ps : List ℕ) → width * length (flat_map F ps) ≤ length words → (i : ℕ) → i < length ps
      → width * (filled κ (length words) 0 (take i ps) + κ (get_or ps i 0)) ≤ length words
  fits_at words ps h i l =
      let part = part_of_all F ps i l in
      rw (filled_many F (length words) 0 (take i ps), kept_all F (length words) 0 (take i ps) (omega arith)) (omega arith)

  -- ---- another order

  module _ (words ps : List ℕ) (w : Within ps) (none : NoneRefused visits (holding v 0) brings answer words ps)
      (others qs : List ℕ) (same : length others ≡ length words) (perm : Permᴰ qs ps) where
    w' : Within qs
    w' p m = w p (perm_member perm p m)

    room_ps : width * length (flat_map F ps) ≤ length words
    room_ps = omega (arith, room_for_all 0 words ps (omega arith) w none)

    room_qs : width * length (flat_map F qs) ≤ length others
    room_qs = rw (same, perm_length (join_perm F perm)) room_ps

    none_refused : NoneRefused visits (holding v 0) brings answer others qs
    none_refused i l = ap is_ok (answered_at others qs w' i l (fits_at others qs room_qs i l))

    same_answers : (i j : ℕ) → i < length qs → j < length ps → get_or qs i 0 ≡ get_or ps j 0
        → (visit_at visits (state (holding v 0) others) qs i).info ≡ (visit_at visits (state (holding v 0) words) ps j).info
    same_answers i j l m e = answered_at others qs w' i l (fits_at others qs room_qs i l) ∙ ap (λ (p : ℕ). Ok (answer p)) e
        ∙ sym (answered_at words ps w j m (fits_at words ps room_ps j m))

    same_edges : (used : ℕ)
        → Permᴰ (edges_of used (edges_after visits (holding v 0) brings answer others qs))
        (edges_of used (edges_after visits (holding v 0) brings answer words ps))
    same_edges used =
        rw (
          edges_are others qs w',
          edges_are words ps w,
          kept_all F (length others) 0 qs (omega (arith, room_qs)),
          kept_all F (length words) 0 ps (omega (arith, room_ps)),
        )
        (Permᴰ.filter (λ (e : LifetimeEdge). ℕ_discrete e.used used) (join_perm F perm))

  -- ---- all together

  module _ (own : (used p : ℕ) (e : LifetimeEdge) → Memᴰ e (brings used p) → e.used ≡ used) (once : Once (used_of v)) where
    of_all : (used : ℕ) → Memᴰ used (used_of v) → (ps : List ℕ) → edges_of used (flat_map F ps) ≡ flat_map (brings used) ps
    unfolding flat_map
    of_all used m [] = refl
    of_all used m (p ∷ ps) =
        of_append used (F p) (flat_map F ps)
        ∙ rw (of_part (λ u. brings u p) (λ u. own u p) used (used_of v) once m, of_all used m ps)

    of_no_other : (used : ℕ) → (Memᴰ used (used_of v) → ⊥) → (ps : List ℕ) → edges_of used (flat_map F ps) ≡ []
    unfolding flat_map
    of_no_other used m [] = refl
    of_no_other used m (p ∷ ps) =
        of_append used (F p) (flat_map F ps)
        ∙ rw (of_others (λ u. brings u p) (λ u. own u p) used (used_of v) m, of_no_other used m ps)

    all_visits : (words ps : List ℕ) → Within ps → Visits visits (holding v 0) brings answer words ps
    all_visits words ps w = record {
      refused = λ i l h. refused_at words ps w i l (rw (before i) at h);
      answered = λ i l h. answered_at words ps w i l (rw (before i) at h);
      words_after =
          ap (λ (t : State). t.words) (left_is words ps w)
          ∙ words_are words ps w
          ∙ rw (unrefused_kept words ps w, filled_is words ps w);
      visitor_after = ap (λ (t : State). t.visitor) (left_is words ps w) ∙ ap (holding v) (sym (brought_filled words ps w));
      size = size_is words ps w;
      edges_of_lem = λ used m.
          ap (edges_of used) (edges_are words ps w)
          ∙ of_all used m (kept κ (length words) 0 ps)
          ∙ ap (flat_map (brings used)) (sym (unrefused_kept words ps w));
      no_edges_of = λ used m. ap (edges_of used) (edges_are words ps w) ∙ of_no_other used m (kept κ (length words) 0 ps);
      unordered =
          λ none others qs same perm. (
            none_refused words ps w none others qs same perm,
            same_answers words ps w none others qs same perm,
            same_edges words ps w none others qs same perm,
          );
    }
      where
        before : (i : ℕ) → length (flat_map F (unrefused_by visits (state (holding v 0) words) (take i ps)))
            ≡ filled κ (length words) 0 (take i ps)
        before i = brought_filled words (take i ps) (λ p m. w p (take_member i ps p m))

    -- for any visitor without stored edges
    pub visits_all : v.stored ≡ 0 → (words ps : List ℕ) → Within ps → Visits visits v brings answer words ps
    visits_all new words ps w =
        subst (λ (x : BorrowingParamVisitor). Visits visits x brings answer words ps) (ap (holding v) (sym new))
        (all_visits words ps w)
