-- `visit_parts` meets its contract: its four answers are laws of proofs/VisitorLaws.antt.
use mathlib.Core.Path.{refl}
use Rattle.borrowing_param.specs.Inner.{type_in}
use Rattle.borrowing_param.proofs.EdgesLaws.{path_few}
use Rattle.borrowing_param.proofs.VisitorLaws.{visit_nothing, visit_no_room, visit_room, no_room_at_all}
use Rattle.borrowing_param.proofs.VisitorLaws.{no_room_behind, room_behind, brought_room}
use Rattle.borrowing_param.proofs.visitor.BorrowingParamVisitor.visit_parts.Goals as goal

pub count-brought-requires : goal.count-brought-requires
count-brought-requires c = path_few c.args.params.now c.args.parts.from c.path_words-path.ensures.answer c.requires.0

pub returns-then-brought-eq0 : goal.returns-then-brought-eq0
returns-then-brought-eq0 c = visit_nothing c.args.self.now c.args.edges.now
    (type_in c.args.params.now c.args.parts)
    c.args.param (rw c.path_words-path.ensures.answer at c.count-brought.ensures) c.number_of-number.ensures
    c.if-brought-eq0.true

pub returns-then-room-brought : goal.returns-then-room-brought
returns-then-room-brought c = visit_no_room c.args.self.now c.args.edges.now
    (type_in c.args.params.now c.args.parts)
    c.args.param (rw c.path_words-path.ensures.answer at c.count-brought.ensures) c.number_of-number.ensures
    c.if-brought-eq0.false (no_room_at_all _ _ _ _ refl c.if-room-brought.true)

pub returns-then-room-brought-2 : goal.returns-then-room-brought-2
returns-then-room-brought-2 c = visit_no_room c.args.self.now c.args.edges.now
    (type_in c.args.params.now c.args.parts)
    c.args.param (rw c.path_words-path.ensures.answer at c.count-brought.ensures) c.number_of-number.ensures
    c.if-brought-eq0.false
    (no_room_behind _ _ _ _ refl c.if-room-brought.false c.if-room-brought-2.true)

pub store-self-requires : goal.store-self-requires
store-self-requires c = record {
  inside = path_few c.args.params.now c.args.parts.from c.path_words-path.ensures.answer c.requires.0;
  param_in_bounds = rw c.path_words-path.ensures.answer (brought_room c.args.self.now
      (type_in c.args.params.now c.args.parts) c.args.param _
      (rw c.path_words-path.ensures.answer at c.count-brought.ensures)
      (room_behind _ _ _ _ refl c.if-room-brought.false c.if-room-brought-2.false));
}

pub returns : goal.returns
returns c = visit_room c.args.self.now c.args.edges.now
    (type_in c.args.params.now c.args.parts)
    c.args.param (rw c.path_words-path.ensures.answer at c.count-brought.ensures) c.number_of-number.ensures
    c.if-brought-eq0.false (room_behind _ _ _ _ refl c.if-room-brought.false c.if-room-brought-2.false)
    (rw c.path_words-path.ensures.answer at c.store-self.ensures)
