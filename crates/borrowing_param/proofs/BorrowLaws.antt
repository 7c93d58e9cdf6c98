-- A whole method and a whole sheet: what `borrow_method` and `borrow_sheet` answer and write, by what their tests and
-- calls show.
use Rattle.std.specs.Prelude.{Ok, Err, IfOk, is_ok}
use Prim.Native.Nat.{ℕ, ◌≤◌, ◌<◌}
use mathlib.Core.Bool.{false}
use mathlib.Core.Path.{◌≡◌, refl, sym, ap, subst, ◌∙◌}
use mathlib.Core.List.{List, [], ◌∷◌, ◌++◌}
use native.Mathlib.Omega.{arith}
use borrow.Author.Tests.{le-ltb, lt-ltb}
use lib.ListN.{length, take, drop}
use lib.Seq.{take-append_seam}
use Rattle.answers.specs.declared.Refusal.{Refusal}
use Rattle.answers.specs.declared.Refusal.TheVariants.{NoRoom}
use Rattle.lifetimes.specs.declared.env.LifetimeEnv.{LifetimeEnv}
use Rattle.answers.specs.Refusals.{Check, Outcome, FirstDue, here, later, NoneDue, next, end}
use Rattle.answers.specs.Lent.{Slice, left, room, Fills, Stays, room_check}
use Rattle.lifetimes.specs.Sets as sets
use Rattle.answers.proofs.RefusalLaws.{due_given, due_refused, none_split, first_more, first_behind, refused_due}
use Rattle.answers.proofs.RefusalLaws.{given_due}
use Rattle.answers.proofs.VerdictLaws.{unless_after}
use Rattle.methods.specs.Method.{types_in, structs_and_params_checks, method_checks}
use Rattle.methods.specs.Used.{most_used}
use Rattle.sheet.specs.Text.{Records, lists}
use Rattle.sheet.specs.Reading.{sheet_of}
use Rattle.answers.specs.Lists.{ends_from}
use Rattle.sheet.specs.Shape.{sheet_checks}
use Rattle.sheet.specs.Answer.{records_at}
use Rattle.sheet.proofs.LaidLaws.{Laid, laid_records}
use Rattle.borrowing_param.specs.declared.borrows.Borrows as answer
use Rattle.borrowing_param.specs.declared.listed.BorrowMap.{BorrowMap}
use Rattle.borrowing_param.specs.declared.method.SheetMethod.{SheetMethod}
use Rattle.borrowing_param.specs.declared.visitor.BorrowingParamVisitor.{BorrowingParamVisitor}
use Rattle.borrowing_param.specs.Edges.{edges_in}
use Rattle.borrowing_param.specs.New.{method_visitor, created}
use Rattle.borrowing_param.specs.BorrowMap as map
use Rattle.borrowing_param.specs.Consistent.{Consistent}
use Rattle.borrowing_param.specs.SheetMethod.{env_of_sheet, lowering_checks, sheet_refusals}
use Rattle.borrowing_param.specs.Borrows.{Borrows, borrows_by, borrows_of, sheet_borrows, borrows_room_checks, borrow_method}
use Rattle.borrowing_param.specs.Borrows.{borrow_sheet, borrows_answer, used_words, answer_words, edges_words}
use Rattle.borrowing_param.specs.Borrows.{BorrowsTo, most_listed}
use Rattle.borrowing_param.specs.InnerSheet.{JudgesSheet, borrow_by, OfMethod}
use Rattle.borrowing_param.proofs.JoinLaws.{words_read}
use Rattle.borrowing_param.proofs.Condition3Laws.{params_none}
use Rattle.borrowing_param.proofs.ConsistentLaws.{listing_consistent}
use Rattle.borrowing_param.proofs.SmallLaws.{method_small}
use Rattle.borrowing_param.proofs.MethodLaws.{accepted_method}
use Rattle.borrowing_param.proofs.SheetLaws.{read_parts}
use Rattle.borrowing_param.proofs.OutcomeLaws.{over_refused, over_given}
use Rattle.borrowing_param.specs.Theorems.{Small}

-- a refusal leaves the slices
left_alone : {o : Outcome Borrows} {k : Refusal} {r : Outcome answer.Borrows} {used answers edges : Slice}
    → o ≡ Err k → r ≡ Err k → Stays used → Stays answers → Stays edges → BorrowsTo o r used answers edges
left_alone e h u a w = record { counts = rw e h; used_filled = rw e u; answers_filled = rw e a; edges_filled = rw e w }

-- what one outcome gives another gives that is the same
same_outcome : {o p : Outcome Borrows} {r : Outcome answer.Borrows} {used answers edges : Slice} → p ≡ o → r ≡ borrows_answer o
    → Fills (used_words o) used → Fills (answer_words o) answers → Fills (edges_words o) edges
    → BorrowsTo p r used answers edges
same_outcome e h u a w = record { counts = rw e h; used_filled = rw e u; answers_filled = rw e a; edges_filled = rw e w }

-- ---- by a visitor

module _ (v : BorrowingParamVisitor) (structs params : List ℕ) (used answers edges : Slice) (of : OfMethod structs params)
    {count : ℕ} (counts : count ≡ sets.cardinality v.used) where
  abbrev all : Borrows
  all = borrows_by v structs params

  abbrev rooms : List Check
  rooms = borrows_room_checks all (room used) (room answers) (room edges)

  abbrev given : Outcome Borrows
  given = borrow_by v structs params (room used) (room answers) (room edges)

  refuses : {k : Refusal} → FirstDue k rooms → given ≡ Err k
  unfolding borrow_by
  refuses f = due_refused all f

  how_many_lem : count ≡ length all.used
  unfolding sets.cardinality
  how_many_lem = counts

  pub by_used : room used < count → Stays used → Stays answers → Stays edges
      → BorrowsTo given (Err NoRoom) used answers edges
  by_used l = left_alone (refuses (here (lt-ltb (room used) (length all.used) (omega (arith, how_many_lem))) refl)) refl

  module _ (enough : count ≤ room used) {m : Outcome BorrowMap}
      (maps : m ≡ map.map_answer (map.borrow_map v structs params (room answers) (room edges)))
      (answered : Fills (map.map_answers (map.borrow_map v structs params (room answers) (room edges))) answers)
      (stored : Fills (map.map_edges (map.borrow_map v structs params (room answers) (room edges))) edges) where
    abbrev mapped : Outcome map.Mapping
    mapped = map.borrow_map v structs params (room answers) (room edges)

    fit_used : (room_check (room used) all.used).due ≡ false
    fit_used = le-ltb (room used) (length all.used) (omega (arith, how_many_lem))

    pub by_map_refused : {k : Refusal} {r : Outcome answer.Borrows} → m ≡ Err k → r ≡ Err k → Stays used
        → BorrowsTo given r used answers edges
    unfolding map.borrow_map
    by_map_refused {k} w h u =
        let f = over_refused _ (map.mapping_of v (types_in structs params))
        (map.map_checks v structs params (room answers) (room edges)) (sym w ∙ maps) in
        let g : FirstDue k rooms = later fit_used (first_behind of f) in
        let e : mapped ≡ Err k = due_refused (map.mapping_of v (types_in structs params)) f in
        left_alone (refuses g) h u (answered ∙ rw e) (stored ∙ rw e)

    module _ {b : BorrowMap} (fine : m ≡ Ok b) where
      map_given : NoneDue (map.map_checks v structs params (room answers) (room edges))
          × (b ≡ record {
            params = length (map.mapping_of v (types_in structs params)).answers;
            edges = length (map.mapping_of v (types_in structs params)).edges;
          })
      unfolding map.borrow_map
      map_given =
          over_given _ (map.mapping_of v (types_in structs params))
          (map.map_checks v structs params (room answers) (room edges)) (sym fine ∙ maps)

      map_none : NoneDue (map.map_checks v structs params (room answers) (room edges))
      map_none = map_given.0

      map_is : mapped ≡ Ok (map.mapping_of v (types_in structs params))
      unfolding map.borrow_map
      map_is = due_given (map.mapping_of v (types_in structs params)) map_none

      all_is : given ≡ Ok all
      unfolding borrow_by
      all_is =
          let n : NoneDue rooms = next fit_used (none_split (structs_and_params_checks structs params) (drop 1 rooms) map_none).1 in
          due_given all n

      pub by_given : Fills (sets.list_members v.used (room used)) used
          → BorrowsTo given (Ok (record { used = count; params = b.params; edges = b.edges }))
          used answers edges
      unfolding sets.list_members
      by_given e =
          let n : NoneDue (room_check (room used) all.used ∷ []) = next fit_used end in
          record {
            counts = rw (all_is, how_many_lem, map_given.1);
            used_filled = e ∙ rw (due_given all.used n, all_is);
            answers_filled = answered ∙ rw (map_is, all_is);
            edges_filled = stored ∙ rw (map_is, all_is);
          }

-- ---- a method made by hand

module _ (env : LifetimeEnv) (structs params output force : List ℕ) {c : Outcome BorrowingParamVisitor}
    (is : c ≡ created env structs params output force) where
  abbrev whole : Borrows
  whole = borrows_of env structs params output

  abbrev outcome : ℕ → ℕ → ℕ → Outcome Borrows
  outcome u a e = borrow_method env structs params output force u a e

  pub method_unborrowed : {k : Refusal} {r : Outcome answer.Borrows} {used answers edges : Slice} → c ≡ Err k → r ≡ Err k
      → Stays used → Stays answers → Stays edges
      → BorrowsTo (outcome (room used) (room answers) (room edges)) r used answers edges
  unfolding created borrow_method
  method_unborrowed {k} w h =
      let f = refused_due (method_visitor env structs output) k (method_checks env structs params output force) (sym is ∙ w) in
      left_alone (due_refused whole (first_more _ f)) h

  module _ {v : BorrowingParamVisitor} (fine : c ≡ Ok v) where
    given_new : NoneDue (method_checks env structs params output force) × (method_visitor env structs output ≡ v)
    unfolding created
    given_new = given_due (method_visitor env structs output) v (method_checks env structs params output force) (sym is ∙ fine)

    method_none : NoneDue (method_checks env structs params output force)
    method_none = given_new.0

    pub method_of_lem : OfMethod structs params
    method_of_lem = params_none env structs params output force method_none

    abbrev by : ℕ → ℕ → ℕ → Outcome Borrows
    by u a e = borrow_by v structs params u a e

    by_new : (u a e : ℕ) → outcome u a e ≡ by u a e
    unfolding borrow_by borrow_method
    by_new u a e =
        unless_after whole (borrows_room_checks whole u a e) method_none
        ∙ ap (λ (x : BorrowingParamVisitor). borrow_by x structs params u a e) given_new.1

    pub method_borrowed : {r : Outcome answer.Borrows} {used answers edges : Slice}
        → r ≡ borrows_answer (by (room used) (room answers) (room edges))
        → Fills (used_words (by (room used) (room answers) (room edges))) used
        → Fills (answer_words (by (room used) (room answers) (room edges))) answers
        → Fills (edges_words (by (room used) (room answers) (room edges))) edges
        → BorrowsTo (outcome (room used) (room answers) (room edges)) r used answers edges
    method_borrowed {r} {used} {answers} {edges} = same_outcome (by_new (room used) (room answers) (room edges))

-- ---- a sheet

pub sheet_method : (bytes : List ℕ) → NoneDue (sheet_refusals bytes)
    → NoneDue
    (method_checks (env_of_sheet (sheet_of bytes)) (sheet_of bytes).structs (sheet_of bytes).params
    (sheet_of bytes).output (sheet_of bytes).force)
unfolding sheet_refusals
sheet_method bytes n =
    let p = none_split (sheet_checks bytes) (lowering_checks (sheet_of bytes)) n in
    accepted_method (sheet_of bytes) (read_parts bytes p.0).1 p.1

module _ (bytes : List ℕ) (used answers edges : Slice) where
  abbrev sheet : Records
  sheet = sheet_of bytes

  abbrev borrowed : Outcome Borrows
  borrowed = borrow_sheet bytes (room used) (room answers) (room edges)

  module _ {m : Outcome SheetMethod} {scratch : List ℕ} (judges : JudgesSheet bytes m scratch) where
    pub sheet_unborrowed : {k : Refusal} {r : Outcome answer.Borrows} → m ≡ Err k → r ≡ Err k → Stays used → Stays answers
        → Stays edges → BorrowsTo borrowed r used answers edges
    unfolding borrow_sheet
    sheet_unborrowed {k} w h =
        let f = over_refused _ sheet (sheet_refusals bytes) (sym w ∙ judges.answers) in
        left_alone (due_refused (sheet_borrows sheet) (first_more _ f)) h

    module _ {method : SheetMethod} (fine : m ≡ Ok method) where
      judged : NoneDue (sheet_refusals bytes)
          × (method ≡ record { ends = ends_from 0 (lists sheet); env = env_of_sheet sheet })
      judged = over_given _ sheet (sheet_refusals bytes) (sym fine ∙ judges.answers)

      sheet_none : NoneDue (sheet_refusals bytes)
      sheet_none = judged.0

      laid : Laid scratch method.ends
      laid = let p = judges.leaves (ap is_ok fine) in
          record { sheet = sheet; rest = p.0; stored = p.1; placed = ap (λ (x : SheetMethod). x.ends) judged.1 }

      found : records_at scratch method.ends ≡ sheet
      unfolding laid
      found = laid_records laid

      module _ {r : Records} (stands : r ≡ records_at scratch method.ends) where
        abbrev below : Outcome Borrows
        below = borrow_method method.env r.structs r.params r.output r.force (room used) (room answers) (room edges)

        is_below : borrowed ≡ below
        unfolding borrow_method borrow_sheet
        is_below =
            let e : method.env ≡ env_of_sheet sheet = ap (λ (x : SheetMethod). x.env) judged.1 in
            let whole = sheet_borrows sheet in
            let rooms = borrows_room_checks whole (room used) (room answers) (room edges) in
            let same : below ≡ borrow_method (env_of_sheet sheet) sheet.structs sheet.params sheet.output
            sheet.force (room used) (room answers) (room edges) =
            rw (e, stands ∙ found) in
            unless_after whole rooms sheet_none ∙ sym (same ∙ unless_after whole rooms (sheet_method bytes sheet_none))

        pub sheet_borrowed : {b : Outcome answer.Borrows} → b ≡ borrows_answer below → Fills (used_words below) used
            → Fills (answer_words below) answers → Fills (edges_words below) edges → BorrowsTo borrowed b used answers edges
        sheet_borrowed = same_outcome is_below

  -- what a crate above may rely on, of an accepted sheet
  module _ (n : NoneDue (sheet_refusals bytes)) where
    sheet_consistent : Consistent (sheet_borrows sheet).used (sheet_borrows sheet).answers (sheet_borrows sheet).edges
    sheet_consistent =
        listing_consistent (method_visitor (env_of_sheet sheet) sheet.structs sheet.output) sheet.structs sheet.params
        (params_none (env_of_sheet sheet) sheet.structs sheet.params sheet.output sheet.force (sheet_method bytes n))

    sheet_small : Small (sheet_borrows sheet)
    sheet_small =
        method_small (env_of_sheet sheet) sheet.structs sheet.params sheet.output sheet.force (sheet_method bytes n)

  abbrev Says : answer.Borrows → Type 0
  Says b = Consistent (take b.used (left used)) (take b.params (left answers)) (edges_in b.edges (left edges))

  abbrev Few : answer.Borrows → Type 0
  Few b = (b.used ≤ most_used) × (b.edges ≤ most_listed)

  says : (o : Outcome Borrows) → borrowed ≡ o → Fills (used_words o) used → Fills (answer_words o) answers
      → Fills (edges_words o) edges → IfOk (borrows_answer o) Says × IfOk (borrows_answer o) Few
  unfolding borrow_sheet
  says (Ok b) e u a w =
      let whole = sheet_borrows sheet in
      let n = given_due whole b (sheet_refusals bytes ++ borrows_room_checks whole (room used) (room answers) (room edges)) e in
      let none = (none_split (sheet_refusals bytes) _ n.0).0 in
      let x : take (length b.used) (left used) ≡ b.used = rw u (take-append_seam b.used _) in
      let y : take (length b.answers) (left answers) ≡ b.answers = rw a (take-append_seam b.answers _) in
      let z : edges_in (length b.edges) (left edges) ≡ b.edges = rw w (words_read b.edges _) in
      let s = subst Small n.1 (sheet_small none) in
      let c = subst (λ (l : Borrows). Consistent l.used l.answers l.edges) n.1 (sheet_consistent none) in
      (rw (x, y, z) c, (s.few_used, s.few_edges))
  says (Err k) e u a w = (tt, tt)

  pub sheet_says : {r : Outcome answer.Borrows} → r ≡ borrows_answer borrowed → Fills (used_words borrowed) used
      → Fills (answer_words borrowed) answers → Fills (edges_words borrowed) edges
      → BorrowsTo borrowed r used answers edges × (IfOk r Says × IfOk r Few)
  sheet_says q u a w =
      (record { counts = q; used_filled = u; answers_filled = a; edges_filled = w }, rw q (says borrowed refl u a w))
