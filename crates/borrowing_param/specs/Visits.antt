-- What any list of visits answers, stores and leaves. For condition 3 (specs/Condition3.antt): this part does not ask
-- why an edge is drawn.
use Rattle.std.specs.Prelude.{ℕ, ◌+◌, ◌*◌, ◌≤◌, ◌<◌, cond, ◌≡◌, length, get_or, take, drop, Ok, Err, is_ok, IsOk}
use mathlib.Core.List.{List, [], ◌∷◌, ◌++◌, flat_map, Memᴰ, Permᴰ}
use Rattle.answers.specs.declared.Refusal.TheVariants.{NoRoom}
use Rattle.borrowing_param.specs.declared.visitor.LifetimeEdge.{LifetimeEdge}
use Rattle.borrowing_param.specs.declared.visitor.ParamBorrowInfo.{ParamBorrowInfo}
use Rattle.borrowing_param.specs.declared.visitor.BorrowingParamVisitor.{BorrowingParamVisitor}
use Rattle.borrowing_param.specs.Edges.{width, edge_words, edges_in, edges_of}
use Rattle.borrowing_param.specs.Visit.{used_of, holding, State, state, VisitOutcome, outcome, after_visits}
use Rattle.borrowing_param.specs.Visit.{visit_at}

-- the visits of a list that are not refused, in order, each from where the one before left the visitor and the words
unfoldable pub unrefused_by : (State → ℕ → VisitOutcome) → State → List ℕ → List ℕ
unrefused_by visits s [] = []
unrefused_by visits s (p ∷ ps) =
    cond (is_ok (visits s p).info)
    (p ∷ unrefused_by visits (visits s p).left ps)
    (unrefused_by visits (visits s p).left ps)

-- all that a parameter brings, for the used lifetimes in ascending order
abbrev pub all_of : BorrowingParamVisitor → (ℕ → ℕ → List LifetimeEdge) → ℕ → List LifetimeEdge
all_of v brings p = flat_map (λ used. brings used p) (used_of v)

-- The visits; the visitor at the start; what each parameter brings to each used lifetime; what a visit of each
-- parameter answers that is not refused
module _ (visits : State → ℕ → VisitOutcome) (v : BorrowingParamVisitor)
    (brings : ℕ → ℕ → List LifetimeEdge) (answer : ℕ → ParamBorrowInfo) where
  abbrev pub unrefused : List ℕ → List ℕ → List ℕ
  unrefused words ps = unrefused_by visits (state v words) ps

  -- all that the unrefused visits brought
  abbrev pub brought_by : List ℕ → List ℕ → List LifetimeEdge
  brought_by words ps = flat_map (all_of v brings) (unrefused words ps)

  -- how many words the edges before the visit with the number i take, together with its own
  abbrev pub wanted : List ℕ → List ℕ → ℕ → ℕ
  wanted words ps i = width * (length (brought_by words (take i ps)) + length (all_of v brings (get_or ps i 0)))

  -- what the visit with the number i answers and leaves
  abbrev pub visit_number : List ℕ → List ℕ → ℕ → VisitOutcome
  visit_number words ps i = visit_at visits (state v words) ps i

  -- what the visits leave, and the edges that then stand in the slice
  abbrev pub leaves : List ℕ → List ℕ → State
  leaves words ps = after_visits visits (state v words) ps

  abbrev pub edges_after : List ℕ → List ℕ → List LifetimeEdge
  edges_after words ps = edges_in (leaves words ps).visitor.stored (leaves words ps).words

  abbrev pub NoneRefused : List ℕ → List ℕ → Type 0
  NoneRefused words ps = (i : ℕ) → i < length ps → IsOk (visit_number words ps i).info

  pub record Visits (words ps : List ℕ) : Type 0 where
    -- 1. A visit is refused if there is no room for its edges behind those before it; then it answers 9 alone, and
    -- leaves the visitor and the words as they were
    pub refused : (i : ℕ) → i < length ps → length words < wanted words ps i
        → visit_number words ps i ≡ outcome (Err NoRoom) (leaves words (take i ps))
    -- 2. else it is not refused, and its answer depends on the parameter only
    pub answered : (i : ℕ) → i < length ps → wanted words ps i ≤ length words
        → (visit_number words ps i).info ≡ Ok (answer (get_or ps i 0))
    -- 3. Afterwards the words of all that the unrefused visits brought stand in front, in order; what follows is as it
    -- was; the visitor counts the edges and is else the same
    pub words_after : (leaves words ps).words
        ≡ flat_map edge_words (brought_by words ps) ++ drop (width * length (brought_by words ps)) words
    pub visitor_after : (leaves words ps).visitor ≡ holding v (length (brought_by words ps))
    pub size : length (leaves words ps).words ≡ length words
    -- 4. Each used lifetime has the edges that the unrefused visits brought to it, in order; no other lifetime has one
    pub edges_of_lem : (used : ℕ) → Memᴰ used (used_of v)
        → edges_of used (edges_after words ps) ≡ flat_map (brings used) (unrefused words ps)
    pub no_edges_of : (other : ℕ) → (Memᴰ other (used_of v) → ⊥) → edges_of other (edges_after words ps) ≡ []
    -- 5. If none is refused: another order, on a slice of the same length, has none refused, the same answer wherever a
    -- parameter is visited, and the same edges of each lifetime, rearranged
    pub unordered : NoneRefused words ps → (others qs : List ℕ) → length others ≡ length words → Permᴰ qs ps
        → NoneRefused others qs
        × ((i j : ℕ) → i < length qs → j < length ps → get_or qs i 0 ≡ get_or ps j 0
        → (visit_number others qs i).info ≡ (visit_number words ps j).info)
        × ((used : ℕ) → Permᴰ (edges_of used (edges_after others qs)) (edges_of used (edges_after words ps)))
