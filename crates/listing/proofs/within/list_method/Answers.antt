-- `list_method` meets its contract: each way out is one law of proofs/WithinMethodLaws.antt.
use mathlib.Core.Path.{refl}
use native.Mathlib.Nat.{mul-le-mul}
use native.Mathlib.Omega.{arith}
use lib.ListN.{replicate}
use Rattle.listing.proofs.RoomLaws.{lifetimes_few}
use Rattle.listing.proofs.WithinMethodLaws.{AllListed, Mapped, lists_short, lists_taken, map_refused, params_inside}
use Rattle.listing.proofs.WithinMethodLaws.{ends_inside, lists_ascend, edges_inside, method_listed}
use Rattle.listing.proofs.within.list_method.Goals as goal
use Rattle.listing.proofs.within.list_method.Goals.{After-borrow_map}

-- what `all_lists` and `borrow_map` have left
all_listed : (c : After-borrow_map) → AllListed c.args.env c.args.lists.now (replicate 64 0) c.in_ok-longer.longer
    c.all_lists.new.words c.all_lists.new.ends
all_listed c = record {
  places = refl;
  room = c.if-lists-count.false;
  is = c.in_ok-longer.ensures.answer;
  wrote = c.in_ok-longer.ensures.words_filled;
  ended = c.in_ok-longer.ensures.ends_filled;
}

mapped : (c : After-borrow_map) → Mapped c.from_sets-visitor.result c.args.records.structs.now
    c.args.records.params.now (replicate 16 0)
    c.args.edges.now c.borrow_map.result c.borrow_map.new.answers c.borrow_map.new.edges
mapped c = record {
  sixteen = refl;
  most = c.requires.1;
  maps = c.borrow_map.ensures.answer.counts;
  noted = c.borrow_map.ensures.answer.answers_filled;
  stored = c.borrow_map.ensures.answer.edges_filled;
}

pub overflow_mul-count : goal.overflow_mul-count
overflow_mul-count c = let few = lifetimes_few c.args.env c.requires.0.valid in
    omega (arith, mul-le-mul few few)

pub returns-then-lists-count : goal.returns-then-lists-count
returns-then-lists-count c = lists_short c.requires.0 c.args.lists.now c.if-lists-count.true

pub returns-in_err-longer : goal.returns-in_err-longer
returns-in_err-longer c = lists_taken c.requires.0 c.args.lists.now (replicate 64 0) refl c.if-lists-count.false c.in_err-longer.ensures.answer

pub returns-in_default : goal.returns-in_default
returns-in_default c =
    let at = (goal.at.returns-in_default c).After-borrow_map in
    map_refused c.requires.0 (all_listed at) c.from_sets-visitor.ensures.answer (mapped at)
    _ c.args.out.now c.in_default.is c.too_many.ensures

pub slice_bounds-put_listing-end : goal.slice_bounds-put_listing-end
slice_bounds-put_listing-end c = ends_inside c.requires.0 (all_listed (goal.at.slice_bounds-put_listing-end c).After-borrow_map)

pub slice_bounds-put_listing-end-2 : goal.slice_bounds-put_listing-end-2
slice_bounds-put_listing-end-2 c =
    let at = (goal.at.slice_bounds-put_listing-end-2 c).After-borrow_map in
    params_inside c.requires.0 (all_listed at) c.from_sets-visitor.ensures.answer (mapped at) c.in-Ok.is

pub overflow_mul-map : goal.overflow_mul-map
overflow_mul-map c =
    let at = (goal.at.overflow_mul-map c).After-borrow_map in
    let h = edges_inside c.requires.0 (all_listed at) c.from_sets-visitor.ensures.answer (mapped at) c.in-Ok.is in
    omega (arith, h, c.requires.1, c.borrow_map.auto.edges)

pub slice_bounds-put_listing-end-3 : goal.slice_bounds-put_listing-end-3
slice_bounds-put_listing-end-3 c =
    let at = (goal.at.slice_bounds-put_listing-end-3 c).After-borrow_map in
    edges_inside c.requires.0 (all_listed at) c.from_sets-visitor.ensures.answer (mapped at) c.in-Ok.is

pub put_listing-length-requires : goal.put_listing-length-requires
put_listing-length-requires c =
    lists_ascend c.requires.0 (all_listed (goal.at.put_listing-length-requires c).After-borrow_map)

pub returns : goal.returns
returns c =
    let at = (goal.at.returns c).After-borrow_map in
    method_listed c.requires.0 (all_listed at) c.from_sets-visitor.ensures.answer (mapped at) c.in-Ok.is c.count.ensures.answer
    c.put_listing-length.ensures
