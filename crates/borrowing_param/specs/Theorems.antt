-- The main theorems of this crate, stated. Each has its proof, a term of exactly this type and of the same name in
-- small letters, in proofs/Theorems.antt.
use Rattle.std.specs.Prelude.{ℕ, ◌*◌, ◌≤◌, ◌<◌, true, ◌≡◌, ◌↔◌, length, get_or, Ok, Err, Some}
use mathlib.Core.List.{List, Memᴰ}
use Rattle.lifetimes.specs.declared.env.LifetimeEnv.{LifetimeEnv}
use Rattle.answers.specs.declared.Refusal.TheVariants.{NoRoom}
use Rattle.answers.specs.Lists.{range}
use Rattle.answers.specs.Refusals.{NoneDue, Outcome, over}
use Rattle.lifetimes.specs.Sets.{empty}
use Rattle.methods.specs.Method.{types_in, structs_and_params_checks, method_checks}
use Rattle.methods.specs.Used.{used_set, most_used}
use Rattle.sheet.specs.Reading.{sheet_of}
use Rattle.borrowing_param.specs.declared.visitor.ParamBorrowInfo.{ParamBorrowInfo}
use Rattle.borrowing_param.specs.declared.visitor.BorrowingParamVisitor.{BorrowingParamVisitor}
use Rattle.borrowing_param.specs.Edges.{edge, width, edges_in, edge_in, edges_of}
use Rattle.borrowing_param.specs.Brings.{answer_of}
use Rattle.borrowing_param.specs.Visit.{used_of, draws_of, bring_to, bring_all, State, state, after_visits, visit_at}
use Rattle.borrowing_param.specs.VisitParam.{type_at, visit_param}
use Rattle.borrowing_param.specs.Visits.{Visits}
use Rattle.borrowing_param.specs.New.{method_visitor, created}
use Rattle.borrowing_param.specs.BorrowMap.{listed_to, listed_edges, answers_from}
use Rattle.borrowing_param.specs.Borrows.{Borrows, borrows_of, most_listed}
use Rattle.borrowing_param.specs.Consistent.{Consistent}
use Rattle.borrowing_param.specs.Condition3.{Above, Param}
use Rattle.borrowing_param.specs.SheetMethod.{env_of_sheet, sheet_refusals}
use Rattle.borrowing_param.specs.Examples.{starred, further, Right}

-- The new visitor of a method on which no refusal is due: the used lifetimes; for each of them exactly the lifetimes
-- that are forced above it draw, for a lifetime that is not used none; no edges
pub record IsNew (env : LifetimeEnv) (structs params output force : List ℕ) (v : BorrowingParamVisitor) : Type 0 where
  pub accepted : created env structs params output force ≡ Ok v
  pub used : used_set env structs params output force ≡ Ok v.used
  pub draws : (used : ℕ) → Memᴰ used (used_of v) → (b : ℕ) → (draws_of v used b ≡ true) ↔ Above env b used
  pub draws_none : (other : ℕ) → (Memᴰ other (used_of v) → ⊥) → get_or v.draws other 0 ≡ empty
  pub stored : v.stored ≡ 0

-- what a visit of a parameter answers when it is not refused, by the method and the parameter alone
abbrev pub answer_at : List ℕ → List ℕ → BorrowingParamVisitor → ℕ → ParamBorrowInfo
answer_at structs params v p =
    answer_of (type_at (types_in structs params) p).kind (bring_all v (type_at (types_in structs params) p) p)

-- Condition 3. For every method on which no refusal is due, from a sheet or by hand: its new visitor has the used
-- lifetimes and no edges; what a parameter brings to a used lifetime goes by *forced above*; and every list of visits
-- to its parameters by `visit_param`, repeated and refused ones included, on every slice, answers, stores and leaves
-- what `Visits` says
pub record AllVisits (env : LifetimeEnv) (structs params output force : List ℕ) (v : BorrowingParamVisitor)
    (words ps : List ℕ) : Type 0 where
  pub new : IsNew env structs params output force v
  pub parameters : (p : ℕ) → p < length (types_in structs params)
      → Param env v (type_at (types_in structs params) p) p (answer_at structs params v p)
  pub visits : Visits (visit_param structs params) v
      (λ used p. bring_to v (type_at (types_in structs params) p) p used)
      (answer_at structs params v) words ps

abbrev pub Condition3 : Type 0
Condition3 =
    (env : LifetimeEnv) (structs params output force : List ℕ)
    → NoneDue (method_checks env structs params output force)
    → (words ps : List ℕ)
    → ((p : ℕ) → Memᴰ p ps → p < length (types_in structs params))
    → AllVisits env structs params output force (method_visitor env structs output) words ps

-- The listing. Whatever the visitor, the used lifetimes, the answers by parameter and the edges that `borrow_map` gives
-- are what `Consistent` says: in 01's order, each edge of one of the used lifetimes and of one of the parameters, its
-- kind by the parameter's answer, and a parameter with an edge exactly if its answer is one that borrows
abbrev pub ListingInOrder : Type 0
ListingInOrder = (v : BorrowingParamVisitor) (structs params : List ℕ)
    → NoneDue (structs_and_params_checks structs params)
    → Consistent (used_of v) (answers_from v 0 (types_in structs params)) (listed_edges v (types_in structs params))

-- and small, of every method on which no refusal is due, so that memory can be sized by it: `Consistent`, which holds
-- of any visitor, allows an edge from each path word to each lifetime that there may be
pub record Small (b : Borrows) : Type 0 where
  pub few_used : length b.used ≤ most_used
  pub few_edges : length b.edges ≤ most_listed

abbrev pub MethodsAreSmall : Type 0
MethodsAreSmall = (env : LifetimeEnv) (structs params output force : List ℕ)
    → NoneDue (method_checks env structs params output force) → Small (borrows_of env structs params output)

-- The listing and the visits. For every method on which no refusal is due, with its new visitor v: a visit to each
-- parameter, one after another, gives what `borrow_map` lists

abbrev pub all_params : List ℕ → List ℕ → List ℕ
all_params structs params = range 0 (length (types_in structs params))

-- what the visit of a parameter answers, and what all of them leave
abbrev pub visit_of : List ℕ → List ℕ → BorrowingParamVisitor → List ℕ → ℕ → Outcome ParamBorrowInfo
visit_of structs params v words p =
    (visit_at (visit_param structs params) (state v words) (all_params structs params) p).info

abbrev pub after_all_visits : List ℕ → List ℕ → BorrowingParamVisitor → List ℕ → State
after_all_visits structs params v words =
    after_visits (visit_param structs params) (state v words) (all_params structs params)

abbrev pub RoomForAll : List ℕ → List ℕ → BorrowingParamVisitor → List ℕ → Type 0
RoomForAll structs params v words = width * length (listed_edges v (types_in structs params)) ≤ length words

pub record AsVisited (structs params : List ℕ) (v : BorrowingParamVisitor) (words : List ℕ) : Type 0 where
  -- with room for all edges no visit is refused, and each answers the number in the listing
  pub answered : RoomForAll structs params v words → (p : ℕ) → p < length (types_in structs params)
      → over (λ info. info.number) (visit_of structs params v words p)
      ≡ Ok (get_or (answers_from v 0 (types_in structs params)) p 0)
  -- and each lifetime has the edges that it has in the listing, in the same order
  pub edges : RoomForAll structs params v words → (used : ℕ)
      → edges_of used (edges_in (after_all_visits structs params v words).visitor.stored
      (after_all_visits structs params v words).words)
      ≡ edges_of used (listed_edges v (types_in structs params))
  -- without, a visit is refused by 9
  pub refused : (RoomForAll structs params v words → ⊥) → (p : ℕ) × (p < length (types_in structs params))
      × (visit_of structs params v words p ≡ Err NoRoom)
  -- in the listing a used lifetime has what the parameters bring to it, in order
  pub listed : (used : ℕ) → Memᴰ used (used_of v)
      → edges_of used (listed_edges v (types_in structs params)) ≡ listed_to v 0 (types_in structs params) used

abbrev pub ListingIsVisits : Type 0
ListingIsVisits = (env : LifetimeEnv) (structs params output force : List ℕ)
    → NoneDue (method_checks env structs params output force) → (words : List ℕ)
    → AsVisited structs params (method_visitor env structs output) words

-- An edge by its place (`edge_at`): of the edges that stand in a slice the one with that number
abbrev pub EdgesByPlace : Type 0
EdgesByPlace =
    (words : List ℕ) (n k : ℕ) → width * n ≤ length words → k < n
    → edge_in words k ≡ Some (get_or (edges_in n words) k (edge 0 0 0 0 0))

-- Sheets give accepted methods: on a sheet's method no refusal is due, if none is on the sheet, so that condition 3 and
-- the listing speak of it
abbrev pub SheetsGiveMethods : Type 0
SheetsGiveMethods = (bytes : List ℕ) → NoneDue (sheet_refusals bytes)
    → NoneDue
    (method_checks (env_of_sheet (sheet_of bytes)) (sheet_of bytes).structs (sheet_of bytes).params
    (sheet_of bytes).output (sheet_of bytes).force)

-- The worked methods: among them the starred examples, and an accepted method with an edge of each kind, so that
-- condition 3 speaks of something
abbrev pub ExamplesHold : Type 0
ExamplesHold = Right starred × Right further
