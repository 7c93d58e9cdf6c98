-- `list_records` meets its contract: each way out is one law of proofs/WithinRecordsLaws.antt.
use mathlib.Core.Path.{refl}
use lib.ListN.{length, replicate}
use Rattle.std.proofs.lemmas.Result.{err_from_is_err_and}
use Rattle.sheet.specs.Text.{records_in}
use Rattle.listing.proofs.WithinRecordsLaws.{steps_short, returns_short, names_listed, steps_listed, Elided}
use Rattle.listing.proofs.WithinRecordsLaws.{own_stands, steps_stand, returns_stand, used_listed, listable}
use Rattle.listing.proofs.WithinRecordsLaws.{records_listed}
use borrow.Author.Rules.{rules}
use Rattle.listing.proofs.within.list_records.Goals as goal
use Rattle.listing.proofs.within.list_records.Goals.{In_ok-lowered}

-- what the stages have left
elided : (c : In_ok-lowered) → Elided (records_in c.args.records) (replicate 1 0) c.args.scratch.given.now
    c.args.scratch.taken.now c.in_ok-ast.ast c.in_ok-lowered.lowered c.lower.new.own c.lower.new.given c.lower.new.taken
elided c =
    let lowers = c.in_ok-lowered.ensures.answer in record {
      first = c.requires.0;
      steps_room = c.if-given-records.false;
      returns_room = c.if-taken-records.false;
      names = c.in_ok-ast.ensures.answer;
      lowers = lowers.answer;
      own_written = lowers.own_filled;
      steps_written = lowers.given_filled;
      returns_written = lowers.taken_filled;
    }

pub returns-then-given-records : goal.returns-then-given-records
returns-then-given-records c = search (steps_short, rules)

pub returns-then-taken-records : goal.returns-then-taken-records
returns-then-taken-records c = search (returns_short, rules)

pub returns-in_err-ast : goal.returns-in_err-ast
returns-in_err-ast c =
    let p = err_from_is_err_and c.from_residual.result c.from_residual.ensures.1 in
    rw (p.1, p.2)
    (names_listed (records_in c.args.records) c.requires.0 (length c.args.scratch.given.now) (length c.args.scratch.taken.now)
    c.if-given-records.false c.if-taken-records.false c.in_err-ast.ensures.answer refl)

pub returns-in_err-lowered : goal.returns-in_err-lowered
returns-in_err-lowered c =
    let p = err_from_is_err_and c.from_residual-in_err-lowered.result c.from_residual-in_err-lowered.ensures.1 in
    rw (p.1, p.2)
    (steps_listed (records_in c.args.records) c.requires.0 (length c.args.scratch.given.now) (length c.args.scratch.taken.now)
    c.if-given-records.false c.if-taken-records.false c.in_ok-ast.ensures.answer refl
    c.in_err-lowered.ensures.answer.answer refl)

pub slice_bounds-list_method-end : goal.slice_bounds-list_method-end
slice_bounds-list_method-end c = (own_stands (elided (goal.at.slice_bounds-list_method-end c).In_ok-lowered)).0

pub slice_bounds-list_method-end-2 : goal.slice_bounds-list_method-end-2
slice_bounds-list_method-end-2 c = (steps_stand (elided (goal.at.slice_bounds-list_method-end-2 c).In_ok-lowered)).0

pub slice_bounds-list_method-end-3 : goal.slice_bounds-list_method-end-3
slice_bounds-list_method-end-3 c = (returns_stand (elided (goal.at.slice_bounds-list_method-end-3 c).In_ok-lowered)).0

pub list_method-requires : goal.list_method-requires
list_method-requires c = (
  listable (elided (goal.at.list_method-requires c).In_ok-lowered) c.in_ok-used.ensures.answer,
  c.requires.1,
)

pub returns-in_err-used : goal.returns-in_err-used
returns-in_err-used c =
    let p = err_from_is_err_and c.from_residual-in_err-used.result c.from_residual-in_err-used.ensures.1 in
    rw (p.1, p.2)
    (used_listed (elided (goal.at.returns-in_err-used c).In_ok-lowered) c.in_err-used.ensures.answer)

pub returns : goal.returns
returns c = records_listed (elided (goal.at.returns c).In_ok-lowered) c.in_ok-used.ensures.answer
    (length c.args.scratch.lists.now) (length c.args.scratch.edges.now)
    c.list_method.result c.args.out.now
    c.list_method.new.out c.list_method.ensures
