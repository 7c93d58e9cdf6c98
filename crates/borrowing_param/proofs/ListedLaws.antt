-- Edges in listing order: passing over all parameters, counting their edges and noting their answers, storing them by
-- used lifetime, and the answers of `borrow_map`. In order: the types of a record; passing over them; how many edges
-- there are; the loops of `store_to`, `store_listed` and `count_params`; the answers.
use Rattle.std.specs.Prelude.{Ok, Err, Some, None, Option}
use Prim.Native.Nat.{ℕ, zero, suc, ◌+◌, ◌*◌, ◌/◌, ◌≤◌, ◌<◌}
use mathlib.Core.Bool.{Bool, true, false, and-eq-true_iff}
use mathlib.Core.Path.{◌≡◌, refl, sym, ap, ◌∙◌}
use mathlib.Core.List.{List, [], ◌∷◌, ◌++◌, flat_map}
use native.Mathlib.Nat.{zero-add, mul-suc, div-add-mod', mod-lt}
use native.Mathlib.Numerals.{add-one}
use native.Mathlib.Omega.{arith}
use borrow.Author.Tests.{lt-ltb, le-ltb, leb-false, not-false}
use lib.Dec.{ltb}
use lib.ListN.{length, get_or, take, drop, set, length-append, length-set, length-drop, drop_of_length-le}
use lib.Seq.{sets, length-sets, take_at}
use Rattle.answers.specs.declared.Refusal.{Refusal}
use Rattle.answers.specs.declared.Refusal.TheVariants.{NoRoom}
use Rattle.answers.specs.Refusals.{Check, Outcome, unless, FirstDue, here, later, NoneDue, end, next, Verdict}
use Rattle.answers.specs.Lent.{Slice, held, left, room, Fills, Stays}
use Rattle.lifetimes.specs.Limits.{most_lifetimes}
use Rattle.lifetimes.specs.Sets.{member, members}
use Rattle.answers.proofs.RefusalLaws.{due_given, due_refused, refused_first, accepted_none, first_more, none_first}
use Rattle.answers.proofs.RefusalLaws.{none_rest, none_split}
use Rattle.lifetimes.proofs.SetLaws.{members_few}
use Rattle.answers.proofs.Copying.{sets_front}
use Rattle.records.specs.Copied.{copied}
use Rattle.records.proofs.CopyLaws.{copied_stores}
use Rattle.records.specs.Reading.{Read, Fails, read_all, read_or, few_words, in_shape, items_of}
use Rattle.records.proofs.ReadingLaws.{Holds, read, fails, holds_onward, holds_or, fails_read}
use Rattle.hir_types.specs.declared.types.Parts.{Parts}
use Rattle.hir_types.specs.LoweredTypes.{LoweredType, read_lowered, located}
use Rattle.hir_types.specs.Rows.{Row, rows_of, read_known, types_of, structs_in_shape, params_in_shape}
use Rattle.hir_types.proofs.LocatedLaws.{type_located}
use Rattle.hir_types.proofs.FoundLaws.{found_told, missing_told}
use Rattle.methods.specs.Method.{types_in, row_checks, param_checks, structs_and_params_checks, structs_and_params_verdict}
use Rattle.borrowing_param.specs.declared.listed.BorrowMap.{BorrowMap}
use Rattle.borrowing_param.specs.declared.visitor.LifetimeEdge.{LifetimeEdge}
use Rattle.borrowing_param.specs.declared.visitor.BorrowingParamVisitor.{BorrowingParamVisitor}
use Rattle.borrowing_param.specs.Edges.{width, most_defs, edge_words}
use Rattle.borrowing_param.specs.Brings.{bring, answer_number}
use Rattle.borrowing_param.specs.Visit.{used_of, draws_in, draws_of, bring_to, bring_all, holding}
use Rattle.borrowing_param.specs.BorrowMap.{listed_to, listed_edges, answers_from, Mapping, mapping_of, borrow_map}
use Rattle.borrowing_param.specs.BorrowMap.{map_answer, map_answers, map_edges, MapsTo}
use Rattle.borrowing_param.specs.Inner.{type_in, number_by, SetBelow, CountsAll, StoresWords, Stores}
use Rattle.borrowing_param.specs.InnerMap.{ReadsTypes, done, more, param_types, Params, visitor_in, bring_from}
use Rattle.borrowing_param.specs.InnerMap.{CountsParams, map_room_checks, map_of}
use Rattle.borrowing_param.proofs.JoinLaws.{join_cons, words_many}
use Rattle.borrowing_param.proofs.EdgesLaws.{bring_few}
use Rattle.borrowing_param.proofs.EdgesLoops.{Storing, storing_start, storing_end, storing_fits, storing_part}
use Rattle.borrowing_param.proofs.EdgesLoops.{used_from, used_all, used_end, used_here, used_not}
use Rattle.borrowing_param.proofs.VisitorLaws.{known_reads, number_is, parts_type}
use Rattle.answers.specs.Lists.{numbered}

-- ---- the types of a record in shape

abbrev Reads : ℕ → ℕ → List ℕ → List LoweredType → Type 0
Reads number steps words ts = ReadsTypes words ts × ((end : List ℕ) × (read_all (λ i. read_lowered) number steps words ≡ Read ts end))

all_lists_lem : (rows number steps : ℕ) (words : List ℕ)
    → Holds (λ ts end. Reads number steps words ts) (read_all (λ i. read_known rows) number steps words)
unfolding read_all
all_lists_lem rows number zero [] = read (done, ([], refl))
all_lists_lem rows number zero (w ∷ words) = fails
all_lists_lem rows number (suc steps) [] = read (done, ([], refl))
all_lists_lem rows number (suc steps) (w ∷ words) =
    let All : List LoweredType → List ℕ → Type 0 = λ ts end. Reads number (suc steps) (w ∷ words) ts in
    holds_onward (λ t rest. read_lowered (w ∷ words) ≡ Read t rest) All (known_reads rows (w ∷ words))
    (λ t rest e. holds_onward (λ ts end. Reads (suc number) steps rest ts) All (all_lists_lem rows (suc number) steps rest)
    (λ ts end h. read (more e h.0, (h.1.0, rw (e, h.1.1)))))

pub types_listed : (rows : ℕ) (params : List ℕ) → params_in_shape rows params ≡ true → ReadsTypes params (types_of rows params)
    × (param_types params ≡ types_of rows params)
unfolding in_shape items_of
types_listed rows params shape =
    let r = holds_or (λ ts. Reads 0 (length params) params ts) [] (all_lists_lem rows 0 (length params) params)
    ((and-eq-true_iff (few_words params) _).0 shape).1 in
    (r.0, ap (read_or []) r.1.1)

params_few : (rows : List Row) (number : ℕ) (ts : List LoweredType) → number ≤ 16 → NoneDue (param_checks rows number ts)
    → number + length ts ≤ 16
unfolding numbered
params_few rows number [] h n = omega arith
params_few rows number (t ∷ ts) h (next k (next l n)) =
    omega (arith, params_few rows (suc number) ts (omega (arith, leb-false 16 number k)) n)

module _ (structs params : List ℕ) (none : NoneDue (structs_and_params_checks structs params)) where
  pub alone_shape : (structs_in_shape structs ≡ true) × (params_in_shape (length (rows_of structs)) params ≡ true)
  alone_shape = (and-eq-true_iff (structs_in_shape structs) _).0 (not-false _ (none_first none))

  pub few_types : length (types_in structs params) ≤ 16
  few_types =
      let n = none_split (row_checks (rows_of structs) 0 (rows_of structs))
      (param_checks (rows_of structs) 0 (types_in structs params)) (none_rest none) in
      omega (arith, params_few (rows_of structs) 0 (types_in structs params) (omega arith) n.1)

  pub types_are : param_types params ≡ types_in structs params
  types_are = (types_listed (length (rows_of structs)) params alone_shape.1).1

  pub are_params : Params params
  are_params =
      let l = types_listed (length (rows_of structs)) params alone_shape.1 in
      record { lists = rw l.1 l.0; few = rw l.1 few_types }

-- ---- passing over them

none_fails : (words : List ℕ) → words ≡ [] → read_lowered words ≡ Fails
unfolding read_lowered
none_fails words e = rw e

lists_none : {words : List ℕ} {left : List LoweredType} → ReadsTypes words left → words ≡ [] → left ≡ []
lists_none done e = refl
lists_none (more {words} {rest} {t} r l) e = fails_read (sym (none_fails words e) ∙ r)

record Split (t : LoweredType) (rest : List ℕ) (left : List LoweredType) : Type 0 where
  types : List LoweredType
  split : left ≡ t ∷ types
  lists : ReadsTypes rest types

lists_next : {words : List ℕ} {left : List LoweredType} → ReadsTypes words left → {u : LoweredType} {behind : List ℕ}
    → read_lowered words ≡ Read u behind → Split u behind left
unfolding read_lowered
lists_next done e = fails_read e
lists_next (more {words} {rest} {t} {ts} r l) {u} {behind} e =
    let both : Read t rest ≡ Read u behind = sym r ∙ e in
    let same : t ≡ u = cc in
    let after : rest ≡ behind = cc in
    record { types = ts; split = rw same; lists = rw (← after) l }

lists_missing : {words : List ℕ} {left : List LoweredType} → ReadsTypes words left → (words ≡ [] → ⊥) → read_lowered words ≡ Fails → ⊥
lists_missing done some e = some refl
lists_missing (more {words} {rest} {t} r l) some e = fails_read (sym e ∙ r)

-- what is left from a place on
pub record Passing (words : List ℕ) (types left : List LoweredType) (at number : ℕ) : Type 0 where
  pub reads : ReadsTypes (drop at words) left
  pub many : number + length left ≡ length types

-- one type on
pub record Passed (words : List ℕ) (types left : List LoweredType) (at number : ℕ) (p : Parts) : Type 0 where
  pub rest : List LoweredType
  pub split : left ≡ type_in words p ∷ rest
  pub passing : Passing words types rest p.next (number + 1)
  pub few : p.count ≤ 16
  pub short : length (type_in words p).path ≤ 16
  pub past : at < p.next
  pub within : p.next ≤ length words

pub passing_start : {words : List ℕ} {types : List LoweredType} → ReadsTypes words types → Passing words types types 0 0
passing_start l = record { reads = l; many = zero-add _ }

module _ {words : List ℕ} {types left : List LoweredType} {at number : ℕ} (inv : Passing words types left at number) where
  pub passing_end : length words ≤ at → left ≡ []
  passing_end h = lists_none inv.reads (drop_of_length-le words {i = at} h)

  module _ (h : at < length words) {r : Option Parts} (l : r ≡ located at (length words) (read_lowered (drop at words))) where
    pub passing_missing : r ≡ None → ⊥
    passing_missing e =
        lists_missing inv.reads (λ z. omega (arith, ap length z, length-drop at words))
        (missing_told (type_located words at l) e)

    pub passing_next : {p : Parts} → r ≡ Some p → Passed words types left at number p
    passing_next {p} e =
        let f = found_told (type_located words at l) e in
        let s = f.stands in
        let n = lists_next inv.reads f.reads in
        let is : type_in words p ≡ f.type = parts_type s in
        let size : length left ≡ suc (length n.types) = ap length n.split in
        record {
          rest = n.types;
          split = n.split ∙ ap (λ (x : LoweredType). x ∷ n.types) (sym is);
          passing = record { reads = rw s.left n.lists; many = omega (arith, inv.many) };
          few = s.few;
          short = omega (arith, s.few, s.count, ap length s.path);
          past = s.past;
          within = s.within;
        }

-- ---- how many edges there are

module _ {A : Type 0} where
  -- the parts of each joined: as many as in two joins
  joined_many : (f g h : ℕ → List A) → ((x : ℕ) → h x ≡ f x ++ g x) → (l : List ℕ)
      → length (flat_map h l) ≡ length (flat_map f l) + length (flat_map g l)
  unfolding flat_map
  joined_many f g h e [] = refl
  joined_many f g h e (x ∷ l) =
      rw (
        e x,
        length-append (f x ++ g x) (flat_map h l),
        length-append (f x) (g x),
        length-append (f x) (flat_map f l),
        length-append (g x) (flat_map g l),
      ) (omega (arith, joined_many f g h e l))

  pub join_few : (f : ℕ → List A) (k : ℕ) → ((x : ℕ) → length (f x) ≤ k) → (l : List ℕ) → length (flat_map f l) ≤ k * length l
  unfolding flat_map
  join_few f k h [] = omega arith
  join_few f k h (x ∷ l) = rw (length-append (f x) (flat_map f l), mul-suc k (length l)) (omega (arith, h x, join_few f k h l))

module _ (v : BorrowingParamVisitor) where
  -- the edges of all by used lifetime, and by parameter: as many
  pub listed_more : (param : ℕ) (t : LoweredType) (ts : List LoweredType)
      → length (flat_map (listed_to v param (t ∷ ts)) (used_of v)) ≡ length (bring_all v t param) + length
      (flat_map (listed_to v (suc param) ts) (used_of v))
  unfolding numbered
  listed_more param t ts =
      joined_many (bring_to v t param) (listed_to v (suc param) ts) (listed_to v param (t ∷ ts)) (λ x. refl) (used_of v)

  pub listed_none : (param : ℕ) (l : List ℕ) → flat_map (listed_to v param []) l ≡ []
  unfolding numbered flat_map
  listed_none param [] = refl
  listed_none param (x ∷ l) = listed_none param l

  pub answers_many : (param : ℕ) (ts : List LoweredType) → length (answers_from v param ts) ≡ length ts
  unfolding numbered
  answers_many param [] = refl
  answers_many param (t ∷ ts) = ap suc (answers_many (suc param) ts)

  pub all_few : (t : LoweredType) (param : ℕ) → length t.path ≤ 16 → length (bring_all v t param) ≤ most_lifetimes * most_defs
  all_few t param h =
      omega (
        arith,
        join_few (bring_to v t param) 16 (λ x. bring_few (draws_of v x) x param t h) (used_of v),
        members_few v.used,
      )

  -- how many edges are stored does not matter
  answers_holding : (n param : ℕ) (ts : List LoweredType) → answers_from (holding v n) param ts ≡ answers_from v param ts
  unfolding numbered
  answers_holding n param [] = refl
  answers_holding n param (t ∷ ts) = rw (answers_holding n (suc param) ts)

  to_holding : (n param : ℕ) (ts : List LoweredType) (used : ℕ) → listed_to (holding v n) param ts used ≡ listed_to v param ts used
  unfolding numbered
  to_holding n param [] used = refl
  to_holding n param (t ∷ ts) used = rw (to_holding n (suc param) ts used)

  listed_holding : (n : ℕ) (ts : List LoweredType) → listed_edges (holding v n) ts ≡ listed_edges v ts
  unfolding listed_edges flat_map
  listed_holding n ts = go (used_of v)
    where
      go : (l : List ℕ) → flat_map (listed_to (holding v n) 0 ts) l ≡ flat_map (listed_to v 0 ts) l
      go [] = refl
      go (x ∷ l) = rw (to_holding n 0 ts x, go l)

  -- by the sets alone
  pub to_is : (param : ℕ) (ts : List LoweredType) (used : ℕ) → listed_to v param ts used ≡ bring_from (draws_of v used) used param ts
  unfolding numbered
  to_is param [] used = refl
  to_is param (t ∷ ts) used = rw (to_is (suc param) ts used)

-- ---- the loop of `store_to`

pub record StoringTo (draws : ℕ → Bool) (used : ℕ) (words : List ℕ) (types : List LoweredType) (at₀ : ℕ)
    (pairs₀ edges₀ : List ℕ) (stored param at : ℕ) (pairs edges : List ℕ) : Type 0 where
  pub left : List LoweredType
  pub passing : Passing words types left at param
  pub storing : Storing (bring_from draws used 0 types) (bring_from draws used param left) at₀ pairs₀ edges₀ stored pairs edges

pub to_start : (draws : ℕ → Bool) (used : ℕ) {words : List ℕ} {types : List LoweredType} → ReadsTypes words types
    → (at : ℕ) (pairs edges : List ℕ)
    → width * (at + length (bring_from draws used 0 types)) ≤ length edges
    → StoringTo draws used words types at pairs edges at 0 0 pairs edges
to_start draws used {words} {types} l at pairs edges k =
    record {
      left = types;
      passing = passing_start l;
      storing = storing_start (bring_from draws used 0 types) at pairs edges k;
    }

module _ {draws : ℕ → Bool} {used : ℕ} {words : List ℕ} {types : List LoweredType} {at₀ : ℕ} {pairs₀ edges₀ : List ℕ}
    {stored param at : ℕ} {pairs edges : List ℕ}
    (inv : StoringTo draws used words types at₀ pairs₀ edges₀ stored param at pairs edges) where
  pub to_end : length words ≤ at → Stores (bring_from draws used 0 types) at₀ pairs₀ edges₀ stored pairs edges
  unfolding numbered
  to_end h = storing_end inv.storing (rw (passing_end inv.passing h))

  module _ {p : Parts} (o : Passed words types inv.left at param p) where
    to_split : bring_from draws used param inv.left ≡ bring draws used param (type_in words p) ++ bring_from draws used
        (param + 1) o.rest
    unfolding numbered
    to_split = rw (o.split, add-one param)

    pub to_fits : width * (stored + length (bring draws used param (type_in words p))) ≤ length edges
    to_fits =
        storing_fits inv.storing (bring draws used param (type_in words p))
        (bring_from draws used (param + 1) o.rest) to_split

    pub to_few : length types ≤ 16 → param < 16
    to_few h = let size : length inv.left ≡ suc (length o.rest) = ap length o.split in omega (arith, inv.passing.many)

    pub to_more : {stored₁ : ℕ} {pairs₁ edges₁ : List ℕ}
        → Stores (bring draws used param (type_in words p)) stored pairs edges stored₁ pairs₁ edges₁
        → StoringTo draws used words types at₀ pairs₀ edges₀ stored₁ (param + 1) p.next pairs₁ edges₁
    to_more s = record {
      left = o.rest;
      passing = o.passing;
      storing =
          storing_part inv.storing (bring draws used param (type_in words p))
          (bring_from draws used (param + 1) o.rest) to_split s;
    }

-- ---- the loop of `store_listed`: what is left, for the used lifetimes from a number on

abbrev pub left_listed : ℕ → List ℕ → List LoweredType → ℕ → List LifetimeEdge
left_listed used drawn types i = flat_map (listed_to (visitor_in used drawn) 0 types) (used_from used i)

module _ (used : ℕ) (drawn : List ℕ) (types : List LoweredType) where
  pub listed_left : listed_edges (visitor_in used drawn) types ≡ left_listed used drawn types 0
  unfolding listed_edges
  listed_left = rw (used_all used)

  pub listed_end : {limit : ℕ} → SetBelow used limit → (i : ℕ) → limit ≤ i → left_listed used drawn types i ≡ []
  unfolding flat_map
  listed_end b i h = rw (used_end used b i h)

  module _ (i : ℕ) (h : i < 64) where
    pub listed_here : true ≡ member used i
        → left_listed used drawn types i ≡ bring_from (draws_in (get_or drawn i 0)) i 0 types ++ left_listed used drawn types
        (i + 1)
    listed_here q =
        rw (
          used_here used i h q,
          join_cons (listed_to (visitor_in used drawn) 0 types) i (used_from used (i + 1)),
          to_is (visitor_in used drawn) 0 types i,
        )

    pub listed_not : false ≡ member used i → left_listed used drawn types i ≡ left_listed used drawn types (i + 1)
    listed_not q = rw (used_not used i h q)

-- ---- the loop of `count_params`

pub record CountingParams (used : ℕ) (drawn words : List ℕ) (types : List LoweredType) (numbers₀ : List ℕ)
    (total param at : ℕ) (numbers : List ℕ) : Type 0 where
  pub left : List LoweredType
  pub passing : Passing words types left at param
  pub few : length types ≤ 16
  pub small : total ≤ most_lifetimes * most_defs * param
  pub sum : total + length (flat_map (listed_to (visitor_in used drawn) param left) (members used))
      ≡ length (listed_edges (visitor_in used drawn) types)
  pub notes : sets numbers param (answers_from (visitor_in used drawn) param left)
      ≡ sets numbers₀ 0 (answers_from (visitor_in used drawn) 0 types)
  pub size : length numbers ≡ 16

pub params_start : (used : ℕ) (drawn : List ℕ) {words : List ℕ} {types : List LoweredType} → ReadsTypes words types
    → length types ≤ 16 → (numbers : List ℕ) → length numbers ≡ 16
    → CountingParams used drawn words types numbers 0 0 0 numbers
unfolding listed_edges
params_start used drawn {words} {types} l h numbers e =
    record {
      left = types;
      passing = passing_start l;
      few = h;
      small = omega arith;
      sum = zero-add _;
      notes = refl;
      size = e;
    }

module _ {used : ℕ} {drawn words : List ℕ} {types : List LoweredType} {numbers₀ : List ℕ} {total param at : ℕ}
    {numbers : List ℕ} (inv : CountingParams used drawn words types numbers₀ total param at numbers) where
  abbrev v : BorrowingParamVisitor
  v = visitor_in used drawn

  pub params_end : length words ≤ at → CountsParams used drawn types numbers₀ (record { params = param; edges = total }) numbers
  unfolding numbered
  params_end h =
      let e = passing_end inv.passing h in
      let many : length inv.left ≡ 0 = ap length e in
      let sum : total + 0 ≡ length (listed_edges v types) = rw (e, listed_none v param (members used)) at inv.sum in
      record { params = omega (arith, inv.passing.many); edges = omega arith; noted = rw e at inv.notes }

  module _ {p : Parts} (o : Passed words types inv.left at param p) where
    pub one_more : param < 16
    one_more = let size : length inv.left ≡ suc (length o.rest) = ap length o.split in
        omega (arith, inv.passing.many, inv.few)

    module _ {n : ℕ} (c : CountsAll used drawn (type_in words p) n) where
      pub brought_few : n ≤ most_lifetimes * most_defs
      brought_few = omega (arith, c.counts param, all_few v (type_in words p) param o.short)

      pub params_more : {number : ℕ} → number ≡ number_by p.kind n
          → CountingParams used drawn words types numbers₀ (total + n) (param + 1) p.next (set numbers param number)
      unfolding numbered
      params_more {number} q =
          let named : number ≡ answer_number p.kind (bring_all v (type_in words p) param) =
          q ∙ ap (number_by p.kind) (c.counts param) ∙ number_is p.kind (bring_all v (type_in words p) param) in
          let split : total + length (flat_map (listed_to v param (type_in words p ∷ o.rest)) (members used))
          ≡ length (listed_edges v types) = rw o.split at inv.sum in
          let noted : sets numbers param (answers_from v param (type_in words p ∷ o.rest))
          ≡ sets numbers₀ 0 (answers_from v 0 types) = rw o.split at inv.notes in
          record {
            left = o.rest;
            passing = o.passing;
            few = inv.few;
            small = omega (arith, inv.small, brought_few);
            sum = rw (add-one param) (omega (arith, listed_more v param (type_in words p) o.rest, c.counts param));
            notes = rw (add-one param, named) noted;
            size = length-set numbers param number ∙ inv.size;
          }

-- ---- the answers of `map_params`

maps_refused : {o : Outcome Mapping} {r : Refusal} {b : Outcome BorrowMap} {answers edges : Slice}
    → o ≡ Err r → b ≡ Err r → Stays answers → Stays edges → MapsTo o b answers edges
maps_refused e q a w = record { counts = rw e q; answers_filled = rw e a; edges_filled = rw e w }

module _ (v : BorrowingParamVisitor) (types : List LoweredType) {numbers₀ : List ℕ} {n : BorrowMap} {numbers : List ℕ}
    (c : CountsParams v.used v.draws types numbers₀ n numbers) where
  answers_size : length (answers_from v 0 types) ≡ n.params
  answers_size = answers_many v 0 types ∙ sym c.params

  pub numbers_size : length numbers₀ ≡ 16 → length numbers ≡ 16
  numbers_size e = ap length c.noted ∙ length-sets numbers₀ 0 (answers_from (visitor_in v.used v.draws) 0 types) ∙ e

  edges_are : listed_edges (visitor_in v.used v.draws) types ≡ listed_edges v types
  edges_are = listed_holding v 0 types

  edges_size : length (flat_map edge_words (listed_edges v types)) ≡ width * n.edges
  edges_size = words_many (listed_edges v types) ∙ ap (λ (k : ℕ). width * k) (sym (c.edges ∙ ap length edges_are))

  pub no_room_answers : {answers edges : Slice} → room answers < n.params
      → Stays answers → Stays edges → MapsTo (map_of v types (room answers) (room edges)) (Err NoRoom) answers edges
  no_room_answers {answers} {edges} h a w =
      let due : FirstDue NoRoom (map_room_checks v types (room answers) (room edges)) =
      here (lt-ltb (room answers) (length (answers_from v 0 types)) (omega (arith, answers_size))) refl in
      maps_refused (due_refused (mapping_of v types) due) refl a w

  first_none : (a : ℕ) → n.params ≤ a → ltb a (length (answers_from v 0 types)) ≡ false
  first_none a h = le-ltb a (length (answers_from v 0 types)) (omega (arith, answers_size))

  pub no_room_edges : {answers edges : Slice} → n.params ≤ room answers → room edges / 5 < n.edges → Stays answers → Stays edges
      → MapsTo (map_of v types (room answers) (room edges)) (Err NoRoom) answers edges
  no_room_edges {answers} {edges} k h a w =
      let past : room edges < length (flat_map edge_words (listed_edges v types)) =
      omega (arith, edges_size, div-add-mod' (room edges) 5, mod-lt (room edges) {m = 5} (omega arith)) in
      let due : FirstDue NoRoom (map_room_checks v types (room answers) (room edges)) =
      later (first_none (room answers) k) (here (lt-ltb (room edges) (length (flat_map edge_words (listed_edges v types))) past) refl) in
      maps_refused (due_refused (mapping_of v types) due) refl a w

  pub listed_room : {e : ℕ} → n.edges ≤ e / 5 → width * length (listed_edges (visitor_in v.used v.draws) types) ≤ e
  listed_room {e} fits = omega (arith, c.edges, div-add-mod' e 5)

  pub mapped : {answers edges : Slice} → n.params ≤ room answers → n.edges ≤ room edges / 5 → length numbers₀ ≡ 16
      → {stored : ℕ} → Fills (copied numbers n.params (room answers)) answers
      → length types ≤ 16 → StoresWords (listed_edges (visitor_in v.used v.draws) types) 0 (held edges) stored (left edges)
      → MapsTo (map_of v types (room answers) (room edges))
      (Ok n) answers edges
  mapped {answers} {edges} k fits size {stored} a few s =
      let past : length (flat_map edge_words (listed_edges v types)) ≤ room edges =
      omega (arith, edges_size, div-add-mod' (room edges) 5) in
      let none : NoneDue (map_room_checks v types (room answers) (room edges)) =
      next (first_none (room answers) k) (next (le-ltb (room edges) (length (flat_map edge_words (listed_edges v types))) past) end) in
      let given : map_of v types (room answers) (room edges) ≡ Ok (mapping_of v types) = due_given (mapping_of v types) none in
      let named : numbers ≡ answers_from v 0 types ++ drop (length (answers_from v 0 types)) numbers₀ =
      c.noted ∙ ap (sets numbers₀ 0) (answers_holding v 0 0 types)
      ∙ sets_front numbers₀ (answers_from v 0 types) (omega (arith, answers_many v 0 types)) in
      let first : take n.params numbers ≡ answers_from v 0 types =
      rw (named, ← answers_size)
      (take_at (answers_from v 0 types) (drop (length (answers_from v 0 types)) numbers₀)
      (length (answers_from v 0 types)) refl) in
      let stands : left answers ≡ answers_from v 0 types ++ drop (length (answers_from v 0 types)) (held answers) =
      copied_stores numbers n.params (held answers) (omega (arith, numbers_size size, c.params)) a k
      ∙ ap (sets (held answers) 0) first ∙ sets_front (held answers) (answers_from v 0 types) (omega (arith, answers_size)) in
      let stored_words : left edges ≡ flat_map edge_words (listed_edges v types)
      ++ drop (length (flat_map edge_words (listed_edges v types))) (held edges) =
      s.stored ∙ ap (λ (l : List LifetimeEdge). sets (held edges) 0 (flat_map edge_words l)) edges_are
      ∙ sets_front (held edges) (flat_map edge_words (listed_edges v types)) past in
      let count : n.edges ≡ length (listed_edges v types) = c.edges ∙ ap length edges_are in
      record { counts = rw (given, answers_size, ← count); answers_filled = rw given stands; edges_filled = rw given stored_words }

-- ---- the answers of `borrow_map`

maps_same : {o p : Outcome Mapping} {answers edges : Slice} {b : Outcome BorrowMap} → p ≡ o → b ≡ map_answer o
    → Fills (map_answers o) answers → Fills (map_edges o) edges → MapsTo p b answers edges
maps_same e q a w = record { counts = rw e q; answers_filled = rw e a; edges_filled = rw e w }

after_none : {A : Type 0} (a : A) {checks : List Check} (others : List Check) → NoneDue checks
    → unless (checks ++ others) a ≡ unless others a
unfolding unless
after_none a others end = refl
after_none a others (next h n) = rw h (after_none a others n)

module _ (v : BorrowingParamVisitor) (structs params : List ℕ) {verdict : Verdict}
    (judged : verdict ≡ structs_and_params_verdict structs params) where
  pub map_none : verdict ≡ Ok (tt {0}) → NoneDue (structs_and_params_checks structs params)
  map_none e = accepted_none (tt {0}) (structs_and_params_checks structs params) (sym judged ∙ e)

  pub map_torn : {r : Refusal} {b : Outcome BorrowMap} {answers edges : Slice} → verdict ≡ Err r → b ≡ Err r
      → Stays answers → Stays edges → MapsTo (borrow_map v structs params (room answers) (room edges)) b answers edges
  unfolding borrow_map
  map_torn {r} {b} {answers} {edges} e q =
      let due = refused_first (tt {0}) r (structs_and_params_checks structs params) (sym judged ∙ e) in
      maps_refused
      (due_refused (mapping_of v (types_in structs params))
      (first_more (map_room_checks v (types_in structs params) (room answers) (room edges)) due)) q

  pub map_listed : {b : Outcome BorrowMap} {answers edges : Slice} → verdict ≡ Ok (tt {0})
      → b ≡ map_answer (map_of v (param_types params) (room answers) (room edges))
      → Fills (map_answers (map_of v (param_types params) (room answers) (room edges))) answers
      → Fills (map_edges (map_of v (param_types params) (room answers) (room edges))) edges
      → MapsTo (borrow_map v structs params (room answers) (room edges)) b answers edges
  unfolding borrow_map
  map_listed {b} {answers} {edges} e =
      let none = map_none e in
      maps_same {o = map_of v (param_types params) (room answers) (room edges)}
      (rw (types_are structs params none)
      (after_none (mapping_of v (types_in structs params))
      (map_room_checks v (types_in structs params) (room answers) (room edges)) none))
