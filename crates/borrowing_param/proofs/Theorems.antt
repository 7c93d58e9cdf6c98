-- The main theorems, proved: for each statement of specs/Theorems.antt a term of exactly its type.
use mathlib.Core.Path.{refl}
use mathlib.Core.List.{flat_map, flatten, filter_map}
use Rattle.answers.specs.Lists as lists
use Rattle.answers.specs.Refusals as refusals
use Rattle.lifetimes.specs.Sets as sets
use Rattle.lifetimes.specs.Bounds as bounds
use Rattle.lifetimes.specs.Env as env
use Rattle.lifetimes.specs.Walk as walk
use Rattle.lifetimes.specs.Reach as reach
use Rattle.records.specs.Reading as reading
use Rattle.ast_lifetimes.specs.Shapes as shapes
use Rattle.ast_lifetimes.specs.Types as ast-types
use Rattle.ast_lifetimes.specs.Env as ast
use Rattle.elision.specs.Steps as steps
use Rattle.elision.specs.Rfc as rfc
use Rattle.hir_types.specs.LoweredTypes as types
use Rattle.hir_types.specs.Rows as rows
use Rattle.methods.specs.Used as used
use Rattle.text.specs.Decimal as decimal
use Rattle.sheet.specs.Text as text
use Rattle.sheet.specs.Reading as read
use Rattle.sheet.specs.Shape as shape
use Rattle.borrowing_param.specs.Edges.{edge}
use Rattle.borrowing_param.specs.Brings as brings
use Rattle.borrowing_param.specs.Visit as visit
use Rattle.borrowing_param.specs.VisitParam as visit-param
use Rattle.borrowing_param.specs.New as new
use Rattle.borrowing_param.specs.BorrowMap as map
use Rattle.borrowing_param.specs.SheetMethod as sheets
use Rattle.borrowing_param.specs.Theorems.{EdgesByPlace, Condition3, ListingInOrder, MethodsAreSmall, ListingIsVisits}
use Rattle.borrowing_param.specs.Theorems.{SheetsGiveMethods, ExamplesHold}
use Rattle.borrowing_param.proofs.JoinLaws.{edge_by_place}
use Rattle.borrowing_param.proofs.Condition3Laws.{all_visits}
use Rattle.borrowing_param.proofs.ConsistentLaws.{listing_consistent}
use Rattle.borrowing_param.proofs.SmallLaws.{method_small}
use Rattle.borrowing_param.proofs.InTurnLaws.{as_visited}
use Rattle.borrowing_param.proofs.BorrowLaws.{sheet_method}

pub condition3 : Condition3
condition3 env structs params output force none words ps within = all_visits env structs params output force none words ps within

pub listing_in_order : ListingInOrder
listing_in_order v structs params none = listing_consistent v structs params none

pub methods_are_small : MethodsAreSmall
methods_are_small env structs params output force none = method_small env structs params output force none

pub listing_is_visits : ListingIsVisits
listing_is_visits env structs params output force none words = as_visited env structs params output force none words

pub edges_by_place : EdgesByPlace
edges_by_place words n k h l = edge_by_place words n k (edge 0 0 0 0 0) h l

pub sheets_give_methods : SheetsGiveMethods
sheets_give_methods bytes none = sheet_method bytes none

pub examples_hold : ExamplesHold
unfolding new.created new.visitor_from lists.numbered lists.any lists.all lists.count lists.range lists.filter filter_map
    flat_map flatten map.listed_edges map.borrow_map visit-param.visit_param
    visit.visit visit.after_visits brings.bring brings.notes used.used_set
    rows.read_known rows.read_types rows.read_row rows.method_in_shape types.read_opaque types.read_struct types.read_slice
    types.read_bare types.read_lowered reading.read_all reading.in_shape reading.items_of refusals.unless env.env_of
    bounds.bounds_from reach.reach_set reach.reach_list reach.all_sets walk.traversal walk.walk
    walk.walk_for walk.unpushed walk.neighbours sets.member sets.insert sets.insert_all sets.members
    sheets.lower_sheet sheets.sheet_refusals sheets.lowering_checks shape.sheet_checks read.text_checks read.sheet_of read.sheet_in
    read.lines_behind read.ten read.read_lines read.strip_prefix text.text decimal.line decimal.following
    decimal.digits decimal.digits_for
    shape.sheet_in_shape shapes.names_in_shape shapes.bounds_in_shape shapes.pairs_of ast-types.read_type
    steps.read_step ast.name_checks ast.all_pair_checks ast.implied ast.all_implied ast.named_env ast.place
    rfc.throughout rfc.own_from
examples_hold = ((refl, (refl, tt)), (refl, (refl, (refl, (refl, (refl, (refl, (refl, (refl, (refl, (refl, (refl, (refl, (refl, (refl, (refl, (refl, (refl, (refl, (refl, (refl, (refl, (refl, (refl, (refl, (refl, (refl, (refl, (refl, (refl, (refl, (refl, tt))))))))))))))))))))))))))))))))
