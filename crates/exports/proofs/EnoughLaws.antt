-- Slices that are always long enough: no further check is due, since what a sheet gives is bounded.
use Prim.Native.Nat.{ℕ, ◌*◌, ◌≤◌}
use mathlib.Core.List.{List, [], ◌∷◌, ◌++◌, flat_map}
use native.Mathlib.Omega.{arith}
use borrow.Author.Tests.{le-ltb}
use lib.ListN.{length}
use Rattle.answers.specs.Refusals.{NoneDue, next, end}
use Rattle.answers.specs.Lent.{room_check}
use Rattle.sheet.specs.Text.{Records}
use Rattle.sheet.specs.Reading.{sheet_of}
use Rattle.methods.specs.Method.{most_params}
use Rattle.methods.specs.Used.{most_used}
use Rattle.borrowing_param.specs.Edges.{width, edge_words}
use Rattle.borrowing_param.specs.New.{method_visitor}
use Rattle.borrowing_param.specs.Consistent.{Consistent}
use Rattle.borrowing_param.specs.Theorems.{Small}
use Rattle.borrowing_param.specs.SheetMethod.{env_of_sheet, sheet_refusals}
use Rattle.borrowing_param.specs.Borrows.{Borrows, sheet_borrows, borrows_room_checks, most_listed}
use Rattle.borrowing_param.proofs.JoinLaws.{words_many}
use Rattle.borrowing_param.proofs.Condition3Laws.{params_none}
use Rattle.borrowing_param.proofs.Theorems.{listing_in_order, methods_are_small, sheets_give_methods}
use Rattle.exports.specs.Calls.{count_words}

module _ (bytes : List ℕ) where
  abbrev sheet : Records
  sheet = sheet_of bytes

  abbrev all : Borrows
  all = sheet_borrows sheet

  consistent : NoneDue (sheet_refusals bytes) → Consistent all.used all.answers all.edges
  consistent n =
      listing_in_order
      (method_visitor (env_of_sheet sheet) sheet.structs sheet.output)
      sheet.structs sheet.params
      (params_none (env_of_sheet sheet) sheet.structs sheet.params sheet.output sheet.force (sheets_give_methods bytes n))

  small : NoneDue (sheet_refusals bytes) → Small all
  small n =
      methods_are_small (env_of_sheet sheet) sheet.structs sheet.params sheet.output sheet.force
      (sheets_give_methods bytes n)

  pub room : (used answers edges counts : ℕ) → most_used ≤ used → most_params ≤ answers → width * most_listed ≤ edges
      → 3 ≤ counts → NoneDue (sheet_refusals bytes)
      → NoneDue (borrows_room_checks all used answers edges ++ (room_check counts (count_words all) ∷ []))
  room used answers edges counts a b c d n =
      let k = small n in
      let u : length all.used ≤ used = omega (arith, k.few_used, a) in
      let p : length all.answers ≤ answers = omega (arith, (consistent n).few_params, b) in
      let e : length (flat_map edge_words all.edges) ≤ edges = omega (arith, k.few_edges, words_many all.edges, c) in
      next (le-ltb used (length all.used) u)
      (next (le-ltb answers (length all.answers) p)
      (next (le-ltb edges (length (flat_map edge_words all.edges)) e) (next (le-ltb counts 3 d) end)))
