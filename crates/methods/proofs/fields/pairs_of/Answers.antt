-- `pairs_of` meets its contract. The loop's invariant is `Pairing` of proofs/FieldsLaws.antt. That the place asked is
-- below the count is worked out, whatever place it is: another than the loop's is refused at the word that it has.
use native.Mathlib.Omega.{arith}
use Rattle.methods.proofs.FieldsLaws.{Linking, linking, never_refused, never_past}
use Rattle.methods.proofs.FieldsLaws.{pairing_static, pairing_past, pairing_more, pairing_none, pairing_some}
use Rattle.methods.proofs.fields.pairs_of.Goals as goal
use Rattle.methods.proofs.fields.pairs_of.Goals.{then-index-declared, else-index-declared}

pub loop-i-preserved-in_default : goal.loop-i-preserved-in_default
loop-i-preserved-in_default c = never_refused c.args.path.now c.args.count c.requires.0 c.linked_pair.ensures.answer
    (omega (arith, c.loop-i.invariant.before, c.loop-i-test.true)) c.in_default.not-Ok

pub loop-i-preserved-in_default-linked : goal.loop-i-preserved-in_default-linked
loop-i-preserved-in_default-linked c = never_past c.args.path.now c.args.count c.requires.0
    c.linked_pair.ensures.answer (omega (arith, c.loop-i.invariant.before, c.loop-i-test.true)) c.in-Ok.is
    c.in_default-linked.not-Some

pub loop-i-preserved-in_default-lifetime : goal.loop-i-preserved-in_default-lifetime
loop-i-preserved-in_default-lifetime c =
    let linked : let s = c.args in Linking s.path.now s.declared c.loop-i.pairs c.loop-i.n c.loop-i.i c.in-Some.def
    c.from_word-lifetime.result = linking c.args.path.now c.args.count c.requires.0 c.linked_pair.ensures.answer
    (omega (arith, c.loop-i.invariant.before, c.loop-i-test.true)) c.loop-i.invariant c.in-Ok.is c.in-Some.is
    c.from_word-lifetime.ensures.answer in
    pairing_static linked c.in_default-lifetime.is

pub loop-i-preserved : goal.loop-i-preserved
loop-i-preserved c =
    let linked : let s = c.args in Linking s.path.now s.declared c.loop-i.pairs c.loop-i.n c.loop-i.i c.in-Some.def
    c.from_word-lifetime.result = linking c.args.path.now c.args.count c.requires.0 c.linked_pair.ensures.answer
    (omega (arith, c.loop-i.invariant.before, c.loop-i-test.true)) c.loop-i.invariant c.in-Ok.is c.in-Some.is
    c.from_word-lifetime.ensures.answer in
    elim c.if-index-declared.branch [
      | then-index-declared w ↦ rw (w.n-is, w.pairs-is) (pairing_more linked c.in-NonStatic.is (omega arith))
      | else-index-declared w ↦ rw (w.n-is, w.pairs-is) (pairing_past linked c.in-NonStatic.is (omega arith))
    ]

pub returns-then-n-eq0 : goal.returns-then-n-eq0
returns-then-n-eq0 c = pairing_none c.loop-i.invariant (omega (arith, c.requires))
    (omega (arith, c.requires.0)) c.if-n-eq0.true

pub returns : goal.returns
returns c = pairing_some c.loop-i.invariant (omega (arith, c.requires)) (omega (arith, c.requires.0)) c.if-n-eq0.false
