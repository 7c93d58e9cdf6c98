-- 01's examples, crate by crate: those below have shown their own, the program's are computed here.
use mathlib.Core.Path.{refl, ap}
use mathlib.Core.List.{List, [], ◌∷◌, ◌++◌, map, flat_map, flatten, filter_map}
use Rattle.answers.specs.Refusals.{unless}
use Rattle.answers.specs.Lists as lists
use Rattle.lifetimes.specs.Sets as sets
use Rattle.lifetimes.specs.Bounds as bounds
use Rattle.lifetimes.specs.Env as env
use Rattle.lifetimes.specs.Walk as walk
use Rattle.lifetimes.specs.Reach as reaching
use Rattle.lifetimes.specs.Examples as reach
use Rattle.records.specs.Reading as reading
use Rattle.ast_lifetimes.specs.Shapes as shapes
use Rattle.ast_lifetimes.specs.Types as ast-types
use Rattle.ast_lifetimes.specs.Env as declared
use Rattle.ast_lifetimes.specs.Examples as ast
use Rattle.elision.specs.Steps as steps
use Rattle.elision.specs.Rfc as rfc
use Rattle.elision.specs.Examples as elision
use Rattle.hir_types.specs.LoweredTypes as types
use Rattle.hir_types.specs.Rows as rows
use Rattle.methods.specs.Used as used
use Rattle.text.specs.Decimal as decimal
use Rattle.sheet.specs.Reading as read
use Rattle.sheet.specs.Reading.{sheet_of}
use Rattle.sheet.specs.Shape as shape
use Rattle.borrowing_param.specs.Brings as brings
use Rattle.borrowing_param.specs.New as new
use Rattle.borrowing_param.specs.BorrowMap as map_of
use Rattle.borrowing_param.specs.SheetMethod as sheets
use Rattle.borrowing_param.specs.Examples as visits
use Rattle.listing.specs.Listing.{response, listing_of, listing_checks}
use Rattle.listing.specs.Examples.{Example, reach_example, ast_example, elision_example, visits_example}
use Rattle.listing.specs.Examples.{program_examples, Right, Reached, Declared, Elided, Visited}

-- the crates below have shown their own examples
pub right_more : (xs ys : List Example) → Right xs → Right ys → Right (xs ++ ys)
right_more [] ys p q = q
right_more (x ∷ xs) ys p q = (p.0, right_more xs ys p.1 q)

pub reach_right : (xs : List reach.Example) → reach.Right xs → Right (map reach_example xs)
reach_right [] p = tt
reach_right (x ∷ xs) p = (ap Reached p.0, reach_right xs p.1)

pub ast_right : (xs : List ast.Example) → ast.Right xs → Right (map ast_example xs)
ast_right [] p = tt
ast_right (x ∷ xs) p = (ap Declared p.0, ast_right xs p.1)

pub elision_right : (xs : List elision.Example) → elision.Right xs → Right (map elision_example xs)
elision_right [] p = tt
elision_right (x ∷ xs) p = (ap Elided p.0, elision_right xs p.1)

pub visits_right : (xs : List visits.Example) → visits.Right xs → Right (map visits_example xs)
visits_right [] p = tt
visits_right (x ∷ xs) p = (ap Visited p.0, visits_right xs p.1)

pub program_right : Right program_examples
unfolding response unless listing_of listing_checks sheets.sheet_refusals sheets.lowering_checks shape.sheet_checks read.text_checks
    read.sheet_of read.sheet_in read.lines_behind read.ten read.read_lines read.strip_prefix flatten flat_map filter_map decimal.line
    decimal.following decimal.digits decimal.digits_for
    shape.sheet_in_shape rows.method_in_shape shapes.names_in_shape shapes.bounds_in_shape shapes.pairs_of
    ast-types.read_type steps.read_step reading.read_all reading.in_shape reading.items_of
    declared.name_checks declared.all_pair_checks declared.implied declared.all_implied declared.named_env
    declared.place rfc.throughout rfc.own_from
    rows.read_known rows.read_types rows.read_row types.read_opaque types.read_struct types.read_slice types.read_bare
    types.read_lowered lists.numbered lists.any lists.all lists.count lists.range lists.filter
    used.used_set new.created new.visitor_from map_of.listed_edges brings.bring
    env.env_of bounds.bounds_from reaching.reach_set reaching.reach_list reaching.all_sets walk.traversal
    walk.walk walk.walk_for walk.unpushed walk.neighbours sets.member sets.insert sets.insert_all sets.members
program_right = (refl, (refl, tt))

-- the lists one behind another, last first
abbrev pub from_visits : List Example
from_visits = map visits_example visits.starred ++ program_examples

abbrev pub from_elision : List Example
from_elision = map elision_example elision.starred ++ from_visits

abbrev pub from_ast : List Example
from_ast = map ast_example ast.starred ++ from_elision
